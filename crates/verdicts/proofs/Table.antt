-- Rows before those behind them: the rows for -22, of which the first that applies refuses with its reason, and a row of the code.
use mathlib.Core.Path.{◌≡◌, refl}
use mathlib.Core.Bool.{Bool, cond}
use mathlib.Core.List.{List, [], ◌∷◌, ◌++◌}
use Rattle.std.specs.Prelude.{Option, Some, None, Result, Ok, Err}
use Rattle.lists.proofs.Tests.{cases}
use Rattle.rules.specs.declared.event.Call.{Call}
use Rattle.rules.specs.declared.event.Command.{Command}
use Rattle.rules.specs.declared.answer.Errno.TheVariants.{EINVAL}
use Rattle.rules.specs.declared.answer.Reason.{Reason}
use Rattle.rules.specs.declared.answer.Refusal.{Refusal}
use Rattle.rules.specs.Answers.{Row, ◌because◌, first, reason_among}
use Rattle.rules.specs.Calls.{argument_rows}

abbrev pub unless_wrong : Option Reason → Result (Unit {0}) Refusal → Result (Unit {0}) Refusal
unless_wrong (Some r) below = Err (EINVAL because r)
unless_wrong None below = below

abbrev Reasoned : List Row → Type 0
Reasoned [] = Unit {0}
Reasoned (r ∷ rs) = ((q : Reason) × (r.refusal ≡ EINVAL because q)) × Reasoned rs

behind : (rs qs : List Row) → Reasoned rs → first (rs ++ qs) ≡ unless_wrong (reason_among rs) (first qs)
behind [] qs h = refl
behind (r ∷ rs) qs h = cases r.applies (λ e. rw (e, h.0.1)) (λ e. rw e (behind rs qs h.1))

pub arguments_behind : (k : Command) (c : Call) (qs : List Row)
    → first (argument_rows k c ++ qs) ≡ unless_wrong (reason_among (argument_rows k c)) (first qs)
unfolding argument_rows
arguments_behind k c qs = behind (argument_rows k c) qs ((_, refl), ((_, refl), ((_, refl), ((_, refl), ((_, refl), ((_, refl), tt))))))

-- A row that is handed on by ?, before the rows below it.
abbrev pub handed : Result (Unit {0}) Refusal → Result (Unit {0}) Refusal → Result (Unit {0}) Refusal
handed (Err x) below = Err x
handed (Ok u) below = below

pub row_before : (applies : Bool) (x : Refusal) (below : Result (Unit {0}) Refusal) → handed (cond applies (Err x) (Ok tt)) below ≡ cond applies (Err x) below
row_before applies x below = cases applies (λ e. rw e) (λ e. rw e)
