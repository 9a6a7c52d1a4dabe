use mathlib.Core.Path.{◌≡◌, sym, ap, subst, ◌∙◌}
use mathlib.Core.Bool.{Bool, true, false, not, cond, ◌&&◌}
use Prim.Native.Nat.{ℕ, ◌+◌}
use borrow.Author.Rules.{rules}
use lib.ListN.{length}
use Rattle.std.specs.Prelude.{Option, Some, None, MatchOption, IsSomeAnd}
use Rattle.std.specs.Bool.{then_some}
use Rattle.tables.specs.Sizes.{threads_per_process}
use Rattle.rules.specs.declared.event.Uses.{Uses}
use Rattle.rules.specs.Commands.{command_of, uses}
use Rattle.rules.specs.WakeOp.{new_word, compares}
use Rattle.rules.specs.Calls.{old_word}
use Rattle.plans.specs.declared.Operated.{Operated}
use Rattle.plans.specs.declared.Plan.TheVariants.{Take as TakePlan}
use Rattle.plans.specs.Plans.{Planned}
use Rattle.plans.proofs.Planned.{planned_take}
use Rattle.plans.proofs.take_plan.Goals as goal
use Rattle.plans.proofs.take_plan.Goals.{After-taken_by-t}

long : (c : After-taken_by-t) → length c.taken_by-t.result.taken ≡ threads_per_process
long c = search rules

-- what the operation of a WAKE_OP makes of the word
holds_is : (acts : Bool) (x : Operated) (o : Option Operated) (h : Bool) → o ≡ then_some acts x → MatchOption o (h ≡ false) (λ y. h ≡ y.holds) → acts ≡ true → x.holds ≡ h
holds_is true x o h e is a = sym (rw e at is)
holds_is false x o h e is a = cc

some_is : (v : Option ℕ) (n : ℕ) → IsSomeAnd v (λ r. r ≡ n) → v ≡ Some n
some_is (Some r) n e = ap Some e
some_is None n e = absurd e

word_is : (acts : Bool) (x : Operated) (o : Option Operated) (v : Option ℕ) → o ≡ then_some acts x → MatchOption o (v ≡ None) (λ y. IsSomeAnd v (λ r. r ≡ y.word)) → v ≡ then_some acts x.word
word_is true x o v e is = some_is v x.word (rw e at is)
word_is false x o v e is = rw e at is

pub returns : goal.returns
returns c =
    λ w granted go views word.
    let a = c.args.c in
    let own = uses (command_of a.op) in
    let acts = own.second && not own.moves in
    let x : Operated = record { holds = compares a.val3 c.args.old; word = new_word a.val3 c.args.old } in
    let t = c.taken_by-t.result in
    let made : c.operate-operated.result ≡ then_some acts x = c.operate-operated.ensures ∙ ap (λ (u : Uses). then_some (u.second && not u.moves) x) c.uses_by-u.ensures in
    let holds : own.second ≡ true → own.moves ≡ false → compares a.val3 (old_word a w) ≡ c.is_some_and-holds.result =
    λ d m. sym (ap (compares a.val3) (word d)) ∙ holds_is acts x c.operate-operated.result c.is_some_and-holds.result made (search rules) (rw (d, m)) in
    let counts = ap (t.released +◌) (c.either-counted.ensures ∙ ap (λ (u : Uses). cond u.compare t.moved 0) c.uses_by-u.ensures) in
    let whole = planned_take a w granted go t c.taken_by-t.ensures.few (c.taken_by-t.ensures.takes w granted.ready.tables views holds) (long (goal.at.returns c).After-taken_by-t)
    x.word (t.released + c.either-counted.result) (λ d m. ap (new_word a.val3) (word d)) counts in
    subst (λ v. Planned a w (TakePlan (record { taken = t.taken; released = t.released; moved = t.moved; word = v; count = t.released + c.either-counted.result })))
    (sym (word_is acts x c.operate-operated.result c.map.result made (search rules))) whole
