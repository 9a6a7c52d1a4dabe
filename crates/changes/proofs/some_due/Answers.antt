use mathlib.Core.Path.{◌≡◌, ap, ◌∙◌}
use mathlib.Core.Bool.{true, false}
use Prim.Native.Nat.{ℕ, ◌+◌, ◌-◌, ◌%◌, ◌≤◌}
use native.Mathlib.Omega.{arith}
use borrow.Author.Rules.{rules}
use borrow.Author.Tests.{tests}
use lib.ListN.{take, drop}
use Rattle.std.proofs.lemmas.Iterator.{YieldsList-from_slice, cases_from_any}
use Rattle.tables.specs.Sizes.{threads}
use Rattle.tables.specs.Tables.{arrivals}
use Rattle.tables.proofs.Sound.{tables_sound, few}
use Rattle.layout.specs.Layout.{list_at, thread_at, state_at}
use Rattle.layout.proofs.Reading.{count_read}
use Rattle.changes.specs.Change.{has_come}
use Rattle.changes.proofs.Due.{arrivals_read, due_found}
use Rattle.changes.proofs.some_due.Goals as goal
use Rattle.changes.proofs.some_due.Goals.{After-u64_at-count}

room : (c : After-u64_at-count) → c.u64_at-count.result ≤ threads
room c =
    let s = state_at c.args.b.now in
    omega (arith, c.u64_at-count.ensures.0 ∙ count_read c.args.b.now, few s (tables_sound s c.requires.sound))

pub overflow_add-count : goal.overflow_add-count
overflow_add-count c = omega (arith, room c)

pub slice_bounds-iter-end : goal.slice_bounds-iter-end
slice_bounds-iter-end c = omega (arith, room (goal.at.slice_bounds-iter-end c).After-u64_at-count)

pub returns : goal.returns
returns c =
    let b = c.args.b.now in
    let same : list_at + c.u64_at-count.result - list_at ≡ c.u64_at-count.result = omega arith in
    let listed = c.iter.ensures.rest ∙ ap (λ n. take n (drop list_at b)) same ∙ arrivals_read b c.requires c.u64_at-count.result c.u64_at-count.ensures.0 in
    let come = λ (e : ℕ). has_come c.args.time (thread_at b (e % threads)).deadline in
    due_found b c.requires c.args.time c.any.result
    (cases_from_any _ _ _ (λ e. come e ≡ true) (λ e. come e ≡ false) c.any.ensures.ran (YieldsList-from_slice (arrivals (state_at b)) listed)
    (λ x q k. search (rules, tests)) (λ x q k. search (rules, tests)))
