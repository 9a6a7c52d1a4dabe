-- The table of answers: the first row that applies, tables whose rows agree, and steps that no row refuses.
use mathlib.Core.Path.{◌≡◌, refl, sym, ap, ◌∙◌, subst₂}
use mathlib.Core.Bool.{false, cond}
use mathlib.Core.List.{List, [], ◌∷◌, ◌++◌}
use Prim.Native.Nat.{ℕ}
use Rattle.lists.proofs.Tests.{cases, never}
use Rattle.rules.specs.declared.answer.Refusal.{Refusal}
use Rattle.std.specs.Prelude.{Result, Err, Ok}
use Rattle.rules.specs.declared.answer.Answer.TheVariants.{Count, Refused}
use Rattle.rules.specs.declared.event.Event.{Event}
use Rattle.tables.specs.Editions.{Edition}
use Rattle.tables.specs.Tables.{WorldIn}
use Rattle.rules.specs.Answers.{Row, by_rows, first, OutcomeIn, outcome, judged}
use Rattle.rules.specs.Calls.{first_rows}
use Rattle.rules.specs.Events.{own_rows, is_query, refusals, effect, step}
use Rattle.rules.specs.Claims.{FirstOf, here, later, Clear}

pub not_pass {ℓ} : {P : Type ℓ} {x : Refusal} {u : Unit {0}} → Err x ≡ Ok u → P
not_pass e = never (cc)

pub first_of : (x : Refusal) (rs : List Row) → first rs ≡ Err x → FirstOf x rs
first_of x [] h = not_pass (sym h)
first_of x (r ∷ rs) h = cases r.applies (λ e. here e (cc)) (λ e. later e (first_of x rs (cc)))

pub of_first : (x : Refusal) (rs : List Row) → FirstOf x rs → first rs ≡ Err x
of_first x [] f = elim f [ ]
of_first x (r ∷ rs) (here e n) = cc
of_first x (r ∷ rs) (later e f) = cc (of_first x rs f)

pub pass_clear : (rs : List Row) → first rs ≡ Ok tt → Clear rs
pass_clear [] h = tt
pass_clear (r ∷ rs) h = cases r.applies (λ e. not_pass {x = r.refusal} (cc)) (λ e. (e, pass_clear rs (cc)))

pub clear_pass : (rs : List Row) → Clear rs → first rs ≡ Ok tt
clear_pass [] h = refl
clear_pass (r ∷ rs) h = cc (h.0, clear_pass rs h.1)

-- two tables, one before the other, of which no row applies
pub clear_left : (rs qs : List Row) → Clear (rs ++ qs) → Clear rs
clear_left [] qs h = tt
clear_left (r ∷ rs) qs h = (h.0, clear_left rs qs h.1)

pub clear_right : (rs qs : List Row) → Clear (rs ++ qs) → Clear qs
clear_right [] qs h = h
clear_right (r ∷ rs) qs h = clear_right rs qs h.1

pub clear_both : (rs qs : List Row) → Clear rs → Clear qs → Clear (rs ++ qs)
clear_both [] qs g h = h
clear_both (r ∷ rs) qs g h = (g.0, clear_both rs qs g.1 h)

-- A table of which no row applies, one row to a line: this row does not apply, and neither do the next.
infixr 30 ◌and◌
pub ◌and◌ : {A B : Type 0} → A → B → A × B
a and b = (a, b)

-- rows before others: the first of them that applies answers, and where none does, the others answer
pub refused_before : (rs qs : List Row) (x : Refusal) → first rs ≡ Err x → first (rs ++ qs) ≡ Err x
refused_before [] qs x h = not_pass (sym h)
refused_before (r ∷ rs) qs x h = cases r.applies (λ e. cc) (λ e. cc (refused_before rs qs x (cc)))

pub passed_before : (rs qs : List Row) → first rs ≡ Ok tt → first (rs ++ qs) ≡ first qs
passed_before [] qs h = refl
passed_before (r ∷ rs) qs h = cases r.applies (λ e. not_pass {x = r.refusal} (cc)) (λ e. cc (passed_before rs qs (cc)))

module _ {ℓ} {A : Type ℓ} (f : Refusal → A) where
  pub rows_append : (rs qs : List Row) (below : A) → by_rows f (rs ++ qs) below ≡ by_rows f rs (by_rows f qs below)
  rows_append [] qs below = refl
  rows_append (r ∷ rs) qs below = ap (cond r.applies (f r.refusal)) (rows_append rs qs below)

  pub rows_clear : (rs : List Row) (below : A) → Clear rs → by_rows f rs below ≡ below
  rows_clear [] below h = refl
  rows_clear (r ∷ rs) below h = rw h.0 (rows_clear rs below h.1)

  pub rows_refused : (rs : List Row) (below : A) (x : Refusal) → first rs ≡ Err x → by_rows f rs below ≡ f x
  rows_refused [] below x h = not_pass (sym h)
  rows_refused (r ∷ rs) below x h = cases r.applies
      (λ e. let same : r.refusal ≡ x = cc in rw (e, same))
      (λ e. rw e (rows_refused rs below x (cc)))

-- the rows of an event that is no panel query
pub all_rows : {ed : Edition} (e : Event) (w : WorldIn ed) → is_query e ≡ false → refusals e w ≡ first_rows w ++ own_rows e w
unfolding refusals
all_rows e w h = rw h

-- The same errors in the same order, and each test the same where no earlier one applies.
abbrev pub Same : List Row → List Row → Type 0
Same [] [] = Unit {0}
Same [] (q ∷ qs) = ⊥
Same (r ∷ rs) [] = ⊥
Same (r ∷ rs) (q ∷ qs) = (r.refusal ≡ q.refusal) × (r.applies ≡ q.applies) × (r.applies ≡ false → Same rs qs)

-- Two tables that agree, one row to a line: the tests of this row agree, then, where it does not apply, those of the next.
infixr 30 ◌then◌
pub ◌then◌ : {x : Refusal} {A B : Type 0} → A → B → (x ≡ x) × A × B
a then b = (refl, a, b)

-- tables that agree, behind the same rows
pub same_behind : (rs qs us : List Row) → Same qs us → Same (rs ++ qs) (rs ++ us)
same_behind [] qs us h = h
same_behind (r ∷ rs) qs us h = refl then λ e. same_behind rs qs us h

pub same_first : (rs qs : List Row) → Same rs qs → first rs ≡ first qs
same_first [] [] h = refl
same_first [] (q ∷ qs) h = absurd h
same_first (r ∷ rs) [] h = absurd h
same_first (r ∷ rs) (q ∷ qs) h =
    cases r.applies (λ e. cc (h.0, h.1)) (λ e. cc (h.1, same_first rs qs (h.2 e)))

-- a step that a row refuses, and one that none does
pub step_refused : {ed : Edition} (e : Event) (w : WorldIn ed) (x : Refusal) → first (refusals e w) ≡ Err x → step e w ≡ outcome (Refused x) w
unfolding step
step_refused e w x h = ap (λ v. judged v (effect e w) w) h

pub step_passed : {ed : Edition} (e : Event) (w : WorldIn ed) → first (refusals e w) ≡ Ok tt → step e w ≡ effect e w
unfolding step
step_passed e w h = ap (λ v. judged v (effect e w) w) h

pub step_clear : {ed : Edition} (e : Event) (w : WorldIn ed) → Clear (refusals e w) → step e w ≡ effect e w
step_clear e w h = step_passed e w (clear_pass (refusals e w) h)

-- by cases, on what the table of answers says of an event
pub verdicts {ℓ} : {ed : Edition} {P : Type ℓ} (e : Event) (w : WorldIn ed) → ((x : Refusal) → first (refusals e w) ≡ Err x → P)
    → (Clear (refusals e w) → P) → P
verdicts {P = P} e w refused passed = go (first (refusals e w)) refl
  where
    go : (v : Result (Unit {0}) Refusal) → first (refusals e w) ≡ v → P
    go (Err x) h = refused x h
    go (Ok u) h = passed (pass_clear (refusals e w) h)

-- in two worlds where the same row answers, if any, what holds of the effects and of what is refused holds of the steps
pub same_rows : {a b : Edition} (e : Event) (w : WorldIn a) (v : WorldIn b) → Same (refusals e w) (refusals e v)
    → (P : OutcomeIn a → OutcomeIn b → Type 0) → ((x : Refusal) → P (outcome (Refused x) w) (outcome (Refused x) v))
    → (Clear (refusals e w) → P (effect e w) (effect e v)) → P (step e w) (step e v)
same_rows e w v rows P refused passed =
    let same = same_first (refusals e w) (refusals e v) rows in
    verdicts e w
    (λ x r. subst₂ P (sym (step_refused e w x r)) (sym (step_refused e v x (sym same ∙ r))) (refused x))
    (λ r. let q = clear_pass (refusals e w) r in
    subst₂ P (sym (step_passed e w q)) (sym (step_passed e v (sym same ∙ q))) (passed r))

-- an event that is answered a count was not refused
pub counted_clear : {ed : Edition} (e : Event) (w : WorldIn ed) (n : ℕ) → (step e w).answer ≡ Count n → Clear (refusals e w)
counted_clear e w n h = verdicts e w (λ x r. never (cc (step_refused e w x r))) (λ r. r)

pub counted_done : {ed : Edition} (e : Event) (w : WorldIn ed) (n : ℕ) → (step e w).answer ≡ Count n → step e w ≡ effect e w
counted_done e w n h = step_clear e w (counted_clear e w n h)

-- what holds before an event, and after its effect where no row refuses it, holds after its step
pub step_keeps {ℓ} : {ed : Edition} (P : WorldIn ed → Type ℓ) (e : Event) (w : WorldIn ed) → P w → (Clear (refusals e w) → P (effect e w).world) → P (step e w).world
step_keeps P e w old new = verdicts e w (λ x h. rw (step_refused e w x h) old) (λ h. rw (step_clear e w h) (new h))
