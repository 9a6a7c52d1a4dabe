-- Who stands before whom in a list.
use mathlib.Core.Path.{◌≡◌, refl, sym, ap, ◌∙◌}
use mathlib.Core.Bool.{Bool, true, false}
use mathlib.Core.List.{List, [], ◌∷◌, ◌++◌}
use mathlib.Core.Logic.{◌⊎◌, inl, inr}
use Prim.Native.Nat.{ℕ, ◌≤◌}
use native.Mathlib.Omega.{arith}
use lib.Dec.{eqb}
use borrow.Author.Tests.{eqb-true}
use Rattle.lists.specs.Lists.{filter, elem, StandsBefore, bit}
use Rattle.lists.proofs.Tests.{cases, clash, by_cases, eqb_refl}
use Rattle.lists.proofs.Occurs.{occurs, elem_occurs, in_second, elem_part}

stands_later : (x u t : ℕ) (l : List ℕ) → StandsBefore u t l → StandsBefore u t (x ∷ l)
stands_later x u t l s = (x ∷ s.0, s.1, ap (x ∷◌) s.2, s.3)

-- one in the first of two lists, the other in the second
pub stands_append : (u t : ℕ) (l m : List ℕ) → elem u l ≡ true → elem t m ≡ true → StandsBefore u t (l ++ m)
stands_append u t [] m first next = clash false first refl
stands_append u t (x ∷ xs) m first next = cases (eqb u x)
    (λ e. ([], xs ++ m, ap (λ y. y ∷ xs ++ m) (sym (eqb-true u x e)), in_second t xs m next))
    (λ e. stands_later x u t (xs ++ m) (stands_append u t xs m (rw e at first) next))

-- a filter keeps the order
pub stands_filter : (g : ℕ → Bool) (u t : ℕ) (l : List ℕ) → StandsBefore u t (filter g l) → StandsBefore u t l
stands_filter g u t [] s = s
stands_filter g u t (x ∷ xs) s = cases (g x)
    (λ e. go (stands_filter g u t xs) s.0 s.1 (rw e at s.2) s.3)
    (λ e. stands_later x u t xs (stands_filter g u t xs (rw e at s)))
  where
    go : (StandsBefore u t (filter g xs) → StandsBefore u t xs)
        → (earlier later : List ℕ) → x ∷ filter g xs ≡ earlier ++ u ∷ later → elem t later ≡ true → StandsBefore u t (x ∷ xs)
    go rest [] later e h = ([], xs, cc, elem_part g t xs (cc))
    go rest (y ∷ ys) later e h = stands_later x u t xs (rest (ys, later, cc, h))

-- of two in a list of different numbers, not each stands before the other
stands_second : (u t : ℕ) (l : List ℕ) → StandsBefore u t l → elem t l ≡ true
stands_second u t l s = rw s.2 (in_second t s.0 (u ∷ s.1) (cases (eqb t u) (λ e. rw e) (λ e. rw e s.3)))

stands_first : (x u t : ℕ) (xs : List ℕ) → StandsBefore u t (x ∷ xs) → ((u ≡ x) × (elem t xs ≡ true)) ⊎ StandsBefore u t xs
stands_first x u t xs s = go s.0 s.1 s.2 s.3
  where
    go : (earlier later : List ℕ) → x ∷ xs ≡ earlier ++ u ∷ later → elem t later ≡ true → ((u ≡ x) × (elem t xs ≡ true)) ⊎ StandsBefore u t xs
    go [] later e h = inl (cc, cc)
    go (y ∷ ys) later e h = inr (ys, later, cc, h)

not_again : (x : ℕ) (xs : List ℕ) → ((y : ℕ) → occurs y (x ∷ xs) ≤ 1) → elem x xs ≡ true → ⊥
not_again x xs once h = omega (arith, once x, elem_occurs x xs h, ap bit (eqb_refl x))

pub stands_once : (u t : ℕ) (l : List ℕ) → ((x : ℕ) → occurs x l ≤ 1) → StandsBefore u t l → StandsBefore t u l → ⊥
stands_once u t [] once s r = clash false (stands_second u t [] s) refl
stands_once u t (x ∷ xs) once s r =
    by_cases (stands_first x u t xs s)
    (λ a. by_cases (stands_first x t u xs r)
    (λ b. not_again x xs once (ap (λ y. elem y xs) (sym b.0) ∙ a.1))
    (λ b. not_again x xs once (ap (λ y. elem y xs) (sym a.0) ∙ stands_second t u xs b)))
    (λ a. by_cases (stands_first x t u xs r)
    (λ b. not_again x xs once (ap (λ y. elem y xs) (sym b.0) ∙ stands_second u t xs a))
    (λ b. stands_once u t xs (λ y. omega (arith, once y)) a b))
