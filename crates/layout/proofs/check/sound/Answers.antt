use mathlib.Core.Path.{◌≡◌, refl, sym, ap, subst, ◌∙◌}
use mathlib.Core.Bool.{◌&&◌}
use mathlib.Core.List.{List}
use Prim.Native.Nat.{ℕ, ◌+◌, ◌-◌}
use native.Mathlib.Omega.{arith}
use lib.ListN.{length, take, drop}
use lib.Dec.{eqb}
use Rattle.std.specs.Prelude.{Some, None}
use Rattle.std.specs.Bool.{then_some}
use Rattle.lists.specs.Lists.{all, every_below, count_below}
use Rattle.tables.specs.Sizes.{threads, no_entry}
use Rattle.arrivals.specs.Arrivals.{PlacedIn}
use Rattle.layout.specs.Layout.{list_at, state_at, tables_size}
use Rattle.layout.specs.Check.{flags_fit, agrees, waits, place_fits, time_fits, Checked}
use Rattle.layout.proofs.Listing.{listed_front}
use Rattle.layout.proofs.Checks.{refused, wrong_size, wrong_count, wrong_entry, told}
use Rattle.layout.proofs.check.sound.Goals as goal

pub returns-in_err-b : goal.returns-in_err-b
returns-in_err-b c = subst (Checked c.args.b.now) (sym c.from_residual.ensures) (refused c.args.b.now (wrong_size c.args.b.now c.in_err-b.ensures.cases))

pub returns-then-count-gt-THREADS : goal.returns-then-count-gt-THREADS
unfolding state_at
returns-then-count-gt-THREADS c =
    let b = c.in_ok-b.b.now in
    let same : b ≡ c.args.b.now = c.in_ok-b.ensures.cases.same in
    let size : length b ≡ tables_size = ap length same ∙ c.in_ok-b.ensures.cases.long in
    subst (λ (l : List ℕ). Checked l None) same (refused b (wrong_count b size (omega (arith, c.u64_at-count.ensures.0))))

pub returns-in_err-place : goal.returns-in_err-place
unfolding state_at
returns-in_err-place c =
    let b = c.in_ok-b.b.now in
    let same : b ≡ c.args.b.now = c.in_ok-b.ensures.cases.same in
    let size : length b ≡ tables_size = ap length same ∙ c.in_ok-b.ensures.cases.long in
    let n = c.u64_at-count.result in
    let front = listed_front b n c.if-count-gt-THREADS.false (list_at + n - list_at) (omega arith) in
    let list = front ∙ ap (λ m. take m (take threads (drop list_at b))) c.u64_at-count.ensures.0 in
    subst (λ (l : List ℕ). Checked l c.from_residual-in_err-place.result) same (subst (Checked b) (sym c.from_residual-in_err-place.ensures)
    (refused b (wrong_entry b size (subst (λ (l : List ℕ). PlacedIn l None) list c.in_err-place.ensures))))

pub returns : goal.returns
unfolding state_at
returns c =
    let b = c.in_ok-b.b.now in
    let same : b ≡ c.args.b.now = c.in_ok-b.ensures.cases.same in
    let size : length b ≡ tables_size = ap length same ∙ c.in_ok-b.ensures.cases.long in
    let n = c.u64_at-count.result in
    let place = c.in_ok-place.place in
    let count = c.u64_at-count.ensures.0 in
    let stored = take threads (drop list_at b) in
    let front = listed_front b n c.if-count-gt-THREADS.false (list_at + n - list_at) (omega arith) ∙ ap (λ m. take m stored) count in
    let listed = every_below threads (λ i. flags_fit b i && agrees place b i) in
    let flags = λ (m : ℕ). listed && eqb (count_below threads (waits b)) m in
    let ends = λ (m : ℕ). all (λ e. eqb e no_entry) (drop m stored) in
    subst (λ (l : List ℕ). Checked l c.then_some.result) same
    (subst (Checked b) (sym (c.then_some.ensures ∙ ap (λ t. then_some t place) c.rows_ok.ensures))
    (told b size (ends n) (every_below threads (place_fits b)) (every_below threads (time_fits (state_at b).clock b)) (flags n) place
    (omega (arith, count, c.if-count-gt-THREADS.false))
    (subst (λ (l : List ℕ). PlacedIn l (Some place)) front c.in_ok-place.ensures)
    (ap ends count) refl refl (ap flags count) c.u64_at-count.ensures.1))
