-- A history with one event more: what it leaves, what it is answered, and what of it is a process's.
use mathlib.Core.Path.{◌≡◌, refl, sym, ap, ◌∙◌}
use mathlib.Core.Bool.{cond, ◌||◌, or-false}
use mathlib.Core.List.{List, [], ◌∷◌, ◌++◌}
use Prim.Native.Nat.{ℕ}
use lib.ListN.{length}
use lib.Dec.{eqb}
use Rattle.lists.proofs.Tests.{cases, never}
use Rattle.lists.proofs.Filter.{filter_append}
use Rattle.rules.specs.declared.event.Event.{Event}
use Rattle.tables.specs.Tables.{World}
use Rattle.rules.specs.Events.{step}
use Rattle.rules.specs.History.{final, answers, Named, process, nobody, is_process, names_nobody, is_clock, named, is_kept, belongs, kept_for, entries_of, answers_to}

pub final_append : (g h : List Event) (w : World) → final (g ++ h) w ≡ final h (final g w)
final_append [] h w = refl
final_append (e ∷ es) h w = final_append es h (step e w).world

pub answers_append : (g h : List Event) (w : World) → answers (g ++ h) w ≡ answers g w ++ answers h (final g w)
answers_append [] h w = refl
answers_append (e ∷ es) h w = let ih = answers_append es h (step e w).world in cc

length_answers : (h : List Event) (w : World) → length (answers h w) ≡ length h
length_answers [] w = refl
length_answers (e ∷ es) w = let ih = length_answers es (step e w).world in cc

pub entries_last : {A : Type 0} (p : ℕ) (g : List Event) (e : Event) (l : List A) (x : A) → length l ≡ length g
    → entries_of p (g ++ e ∷ []) (l ++ x ∷ []) ≡ entries_of p g l ++ cond (belongs p e) (x ∷ []) []
entries_last p [] e [] x n = refl
entries_last p [] e (y ∷ l) x n = never (cc)
entries_last p (d ∷ g) e [] x n = never (cc)
entries_last p (d ∷ g) e (y ∷ l) x n =
    let m : length l ≡ length g = cc in
    let ih = entries_last p g e l x m in
    cases (belongs p d) (λ b. cc) (λ b. cc)

pub answers_in_order : (p : ℕ) (g : List Event) (e : Event) (w : World)
    → answers_to p (g ++ e ∷ []) w ≡ answers_to p g w ++ cond (belongs p e) ((step e (final g w)).answer ∷ []) []
answers_in_order p g e w =
    rw (answers_append g (e ∷ []) w) (entries_last p g e (answers g w) (step e (final g w)).answer (length_answers g w))

kept_named : (p : ℕ) (o : Named) → is_kept p o ≡ (is_process p o || names_nobody o)
kept_named p (process q) = sym (or-false (eqb q p))
kept_named p nobody = refl

-- kept is what is the process's own, and the clock's
pub kept_is : (p : ℕ) (e : Event) → is_kept p (named e) ≡ (belongs p e || is_clock e)
kept_is p e = kept_named p (named e)

pub kept_last : (p : ℕ) (g : List Event) (e : Event) → kept_for p (g ++ e ∷ []) ≡ kept_for p g ++ cond (belongs p e || is_clock e) (e ∷ []) []
kept_last p g e = filter_append (λ d. is_kept p (named d)) g (e ∷ []) ∙ ap (λ b. kept_for p g ++ cond b (e ∷ []) []) (kept_is p e)
