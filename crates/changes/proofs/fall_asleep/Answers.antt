use mathlib.Core.Path.{◌≡◌, refl, ap, ◌∙◌}
use mathlib.Core.Bool.{false}
use mathlib.Core.List.{List}
use Prim.Native.Nat.{ℕ, ◌+◌, ◌<◌}
use native.Mathlib.Omega.{arith}
use lib.ListN.{set}
use Rattle.std.specs.Prelude.{is_some, unwrap_or}
use Rattle.tables.specs.Sizes.{threads}
use Rattle.tables.specs.Tables.{thread_of, asleep_at}
use Rattle.tables.proofs.Sound.{tables_sound, room}
use Rattle.tables.proofs.Stored.{falls_asleep}
use Rattle.layout.specs.Layout.{time_bytes, count_at, state_at, tables_bytes}
use Rattle.layout.specs.Check.{Held}
use Rattle.lists.specs.LittleEndian.{number_at}
use Rattle.layout.proofs.Reading.{count_read}
use Rattle.changes.specs.Change.{at_thread}
use Rattle.changes.proofs.Writing.{entry_put}
use Rattle.changes.proofs.Changing.{whole_at}
use Rattle.changes.proofs.Standing.{whole}
use Rattle.changes.proofs.fall_asleep.Goals as goal

-- the entry that is written is the first that is free
low : (b : List ℕ) (t n : ℕ) → Held b → (t < threads) × ((thread_of (state_at b) t).waiting ≡ false) → n ≡ number_at time_bytes count_at b → n < threads
low b t n h runs e = omega (arith, e, count_read b, room (state_at b) (tables_sound (state_at b) h.sound) t runs.0 runs.1)

pub overflow_add-b : goal.overflow_add-b
overflow_add-b c = omega (arith, low c.args.b.now c.args.t _ c.requires.0 c.requires.1 c.u64_at-n.ensures.0)

pub bounds-b-n : goal.bounds-b-n
bounds-b-n c = omega (arith, low c.args.b.now c.args.t _ c.requires.0 c.requires.1 c.u64_at-n.ensures.0)

pub overflow_add-n : goal.overflow_add-n
overflow_add-n c = omega (arith, low c.args.b.now c.args.t _ c.requires.0 c.requires.1 c.u64_at-n.ensures.0)

pub returns : goal.returns
returns c =
    let g = c.args in
    let b = g.b.now in
    let s = state_at b in
    let k = c.u64_at-n.result in
    let has = is_some g.sleep.deadline in
    let due = unwrap_or g.sleep.deadline 0 in
    let f = asleep_at g.sleep.uaddr g.sleep.bitset has due in
    let w = whole s c.requires.0.sound in
    let count : k ≡ s.count = c.u64_at-n.ensures.0 ∙ count_read b in
    c.put_u64.ensures
    ∙ entry_put (at_thread g.t f s) (whole_at g.t f s w) k g.t (k + 1) (low b g.t k c.requires.0 c.requires.1 c.u64_at-n.ensures.0) c.put_sleep.new.b (c.put_sleep.ensures s w c.requires.0.bytes)
    ∙ ap (λ m. tables_bytes (record { clock = s.clock; threads = set s.threads g.t (f (thread_of s g.t)); list = set s.list m g.t; count = m + 1 })) count
    ∙ ap tables_bytes (falls_asleep s (tables_sound s c.requires.0.sound) g.t g.sleep.uaddr g.sleep.bitset has due (f (thread_of s g.t)) c.requires.1.0 c.requires.1.1 refl)
