use mathlib.Core.Path.{◌∙◌}
use Prim.Native.Nat.{ℕ, ◌≤◌, ◌<◌}
use mathlib.Core.List.{List}
use native.Mathlib.Omega.{arith}
use Rattle.tables.specs.Sizes.{threads}
use Rattle.tables.specs.Tables.{arrivals}
use Rattle.tables.proofs.Sound.{Sound, tables_sound, listed_below}
use Rattle.layout.specs.Layout.{state_at}
use Rattle.layout.specs.Check.{Held}
use Rattle.layout.proofs.Reading.{count_read}
use Rattle.changes.specs.Change.{Lined, StandsAt}
use Rattle.changes.proofs.Leaving.{lined_sound, stands_first, stands_within, one_ended}
use Rattle.changes.proofs.end_one.Goals as goal

-- where a thread stands in tables that keep the rules
module _ (b : List ℕ) (h : Held b) (t place : ℕ) (at : StandsAt place t (arrivals (state_at b))) where
  sound : Sound (state_at b)
  sound = tables_sound (state_at b) h.sound

  lined : Lined (state_at b)
  lined = lined_sound (state_at b) sound

  first : 1 ≤ place
  first = stands_first (state_at b) lined t place at

  within : place ≤ (state_at b).count
  within = stands_within (state_at b) lined t place at

  low : t < threads
  low = listed_below (state_at b) sound t at.listed

pub take_out-requires : goal.take_out-requires
take_out-requires c =
    let g = c.args in
    let b = g.b.now in
    (first b c.requires.0 g.t g.place c.requires.1, omega (arith, within b c.requires.0 g.t g.place c.requires.1, (lined b c.requires.0 g.t g.place c.requires.1).few))

pub end_sleep-requires : goal.end_sleep-requires
end_sleep-requires c = low c.args.b.now c.requires.0 c.args.t c.args.place c.requires.1

pub overflow_sub-count : goal.overflow_sub-count
overflow_sub-count c =
    let g = c.args in
    let b = g.b.now in
    omega (arith, c.u64_at-count.ensures.0 ∙ count_read b, first b c.requires.0 g.t g.place c.requires.1, within b c.requires.0 g.t g.place c.requires.1)

pub returns : goal.returns
returns c =
    let g = c.args in
    let b = g.b.now in
    one_ended (state_at b) (lined b c.requires.0 g.t g.place c.requires.1) g.t g.place c.requires.1 b c.take_out.new.b c.requires.0.bytes c.take_out.ensures
    (low b c.requires.0 g.t g.place c.requires.1) c.u64_at-count.result (c.u64_at-count.ensures.0 ∙ count_read b) g.last c.end_sleep.new.b c.put_u64.new.b c.end_sleep.ensures
    c.put_u64.ensures
