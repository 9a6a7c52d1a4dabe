-- The rows for -22: they are document 01's one row, with a reason for each argument.
use mathlib.Core.Path.{◌≡◌, refl, sym, ◌∙◌}
use mathlib.Core.Bool.{Bool, true, false, cond, ◌||◌}
use mathlib.Core.List.{List, [], ◌∷◌, ◌++◌}
use Rattle.lists.proofs.Tests.{cases, clash}
use Rattle.rules.specs.declared.event.Command.{Command}
use Rattle.rules.specs.declared.event.Call.{Call}
use Rattle.rules.specs.declared.answer.Errno.{Errno}
use Rattle.rules.specs.declared.answer.Refusal.{Refusal}
use Rattle.rules.specs.declared.answer.Errno.TheVariants.{EINVAL}
use Rattle.std.specs.Prelude.{Result, Err}
use Rattle.rules.specs.Answers.{Row, ◌because◌, by_rows, reason_among}
use Rattle.rules.specs.Calls.{bad_argument, argument_rows}
use Rattle.rules.specs.Claims.{Clear}
use Rattle.rules.proofs.Rows.{clear_left, clear_both, ◌and◌, rows_append, rows_clear}

-- what the error of the first row that applies gives, and what is given where none does
abbrev pub by_errno {ℓ} : {A : Type ℓ} → (Errno → A) → List Row → A → A
by_errno f rs below = by_rows (λ x. f x.errno) rs below

module _ {ℓ} {A : Type ℓ} (f : Errno → A) where
  cond_or : (a b : Bool) (x y : A) → cond (a || b) x y ≡ cond a x (cond b x y)
  cond_or a b x y = cases a (λ e. rw e) (λ e. rw e)

  -- the rows for -22 are the one row of document 01
  pub arguments_one : (k : Command) (c : Call) (qs : List Row) (below : A)
      → by_errno f (argument_rows k c ++ qs) below ≡ cond (bad_argument k c) (f EINVAL) (by_errno f qs below)
  unfolding argument_rows bad_argument
  arguments_one k c qs below =
      let x = f EINVAL in
      rows_append (λ y. f y.errno) (argument_rows k c) qs below ∙ sym (rw (cond_or _ _ x _, cond_or _ _ x _, cond_or _ _ x _, cond_or _ _ x _, cond_or _ _ x _))

-- where that row does not apply, none of them does
none_clear : (rs : List Row) → by_errno (λ x. true) rs false ≡ false → Clear rs
none_clear [] h = tt
none_clear (r ∷ rs) h = cases r.applies (λ e. clash true refl (rw e at h)) (λ e. (e, none_clear rs (rw e at h)))

arguments_clear : (k : Command) (c : Call) → bad_argument k c ≡ false → Clear (argument_rows k c)
arguments_clear k c h = clear_left (argument_rows k c) [] (none_clear (argument_rows k c ++ []) (arguments_one (λ x. true) k c [] false ∙ rw h))

clear_arguments : (k : Command) (c : Call) → Clear (argument_rows k c) → bad_argument k c ≡ false
clear_arguments k c h = unwrap (bad_argument k c) (sym (arguments_one (λ x. true) k c [] false) ∙ rows_clear (λ x. true) (argument_rows k c ++ []) false (clear_both (argument_rows k c) [] h tt))
  where
    unwrap : (b : Bool) → cond b true false ≡ false → b ≡ false
    unwrap true e = e
    unwrap false e = refl

-- where it applies, the first of them refuses with -22 and its reason
abbrev Invalid : List Row → Type 0
Invalid [] = Unit {0}
Invalid (r ∷ rs) = (r.refusal.errno ≡ EINVAL) × Invalid rs

first_reason : (rs : List Row) → Invalid rs → (below : Result (Unit {0}) Refusal) → (Clear rs → ⊥) → by_rows Err rs below ≡ Err (record { errno = EINVAL; reason = reason_among rs })
first_reason [] i below h = absurd (h tt)
first_reason (r ∷ rs) i below h = cases r.applies
    (λ e. rw e (λ j. Err (record { errno = i.0 j; reason = r.refusal.reason })))
    (λ e. rw e (first_reason rs i.1 below (λ c. h (e, c))))

rows_invalid : (k : Command) (c : Call) → Invalid (argument_rows k c)
unfolding argument_rows
rows_invalid k c = refl and refl and refl and refl and refl and refl and tt

pub arguments_first : (k : Command) (c : Call) (below : Result (Unit {0}) Refusal)
    → by_rows Err (argument_rows k c) below ≡ cond (bad_argument k c) (Err (record { errno = EINVAL; reason = reason_among (argument_rows k c) })) below
arguments_first k c below = cases (bad_argument k c)
    (λ bad. rw bad (first_reason (argument_rows k c) (rows_invalid k c) below (λ clear. clash (bad_argument k c) bad (clear_arguments k c clear))))
    (λ good. rw good (rows_clear Err (argument_rows k c) below (arguments_clear k c good)))
