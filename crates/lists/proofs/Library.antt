-- The list functions of specs/Lists.antt in the library's words: those that share a name with one of the library's mean the same.
use mathlib.Core.Path.{◌≡◌, refl, sym, ap, ◌∙◌}
use mathlib.Core.Bool.{Bool, true, false, not, cond, Bool-discrete, So-prop, or-true, ◌&&◌}
use mathlib.Core.List.{List, [], ◌∷◌, Mem, Nodup, Nodup-nil, Nodup-cons, mem-cons_self, mem-cons_of_mem, not-mem-nil, eq-or-mem_of_mem-cons, forall_mem-cons}
use mathlib.Core.List as Library
use mathlib.Core.Logic.Or
use mathlib.Core.Logic.{◌↔◌}
use Prim.Native.Nat.{ℕ, zero, suc, ◌+◌}
use lib.Dec.{eqb}
use native.Mathlib.Omega.{arith}
use lib.ListN.{length, get_or, length-append}
use borrow.Author.Tests.{eqb-true}
use Rattle.std.specs.List.{list_all, zip, count_by}
use Rattle.std.proofs.lemmas.List.Sums.{sum_by_push}
use Rattle.std.proofs.lemmas.Slice.Zip.{get_or-zip, length-zip}
use Rattle.std.proofs.lemmas.List.Recursion.{same_from_clauses}
use Rattle.lists.specs.Lists.{filter, all, elem, distinct, bit, tabulate, every_below, count_below}
use Rattle.lists.proofs.Tests.{cases, eqb_refl, and_intro, and_left, and_right, clash}
use Rattle.lists.proofs.Count.{every_below_ext}
use Rattle.lists.proofs.Filter.{filter_append}
use Rattle.lists.proofs.Tabulate.{tabulate_next, tabulate_get_d, all_below}

module _ {A : Type 0} (f : A → Bool) where
  -- the library's filter takes a decision for each element
  pub filter_is : (l : List A) → filter f l ≡ Library.filter {p = λ x. f x ≡ true} (λ x. Bool-discrete (f x) true) l
  filter_is [] = refl
  filter_is (x ∷ xs) = let ih = filter_is xs in cases (f x) (λ e. rw (e, ih)) (λ e. rw (e, ih))

  pub all_is : (l : List A) → (all f l ≡ true) ↔ ((x : A) → Mem x l → f x ≡ true)
  all_is [] = (λ e x m. absurd (not-mem-nil m), λ h. refl)
  all_is (x ∷ xs) =
      let ih = all_is xs in
      let here = forall_mem-cons (λ y. So-prop (f y)) {a = x} {l = xs} in (
        (λ e. here.1 (and_left (f x) (all f xs) e, ih.0 (and_right (f x) (all f xs) e))),
        (λ h. and_intro (here.0 h).0 (ih.1 (here.0 h).1)),
      )

-- a test of every element, as the library's iterators compute it
pub all_list : {A : Type 0} (f : A → Bool) (l : List A) → list_all f l ≡ all f l
all_list f l = same_from_clauses (list_all f) (all f) (λ x b. f x && b) refl (λ _ _. refl) (λ _ _. refl) l

-- the same of two lists side by side, by the places
pub all_zip : {A B : Type 0} (f : A × B → Bool) (xs : List A) (ys : List B) (d : A) (e : B) → length xs ≡ length ys
    → list_all f (zip xs ys) ≡ every_below (length xs) (λ i. f (get_or xs i d, get_or ys i e))
all_zip f xs ys d e even =
    let long : length (zip xs ys) ≡ length xs = omega (arith, length-zip xs ys, even) in
    all_list f (zip xs ys) ∙ all_below f (zip xs ys) (d, e) ∙ ap (λ n. every_below n (λ i. f (get_or (zip xs ys) i (d, e)))) long
    ∙ every_below_ext (length xs) (λ i. f (get_or (zip xs ys) i (d, e))) (λ i. f (get_or xs i d, get_or ys i e)) (λ i h. ap f (get_or-zip xs ys i (d, e) h (omega arith)))

pub elem_is : (t : ℕ) (l : List ℕ) → (elem t l ≡ true) ↔ Mem t l
elem_is t [] = (λ e. clash true refl (sym e), λ m. absurd (not-mem-nil m))
elem_is t (x ∷ xs) =
    let ih = elem_is t xs in (
      (λ h. cases (eqb t x) (λ e. rw (eqb-true t x e) mem-cons_self) (λ e. mem-cons_of_mem x (ih.0 (rw e at h)))),
      (λ m. Or.elim (So-prop (elem t (x ∷ xs))) (eq-or-mem_of_mem-cons m) (λ e. rw (e, eqb_refl x)) (λ k. rw (ih.1 k, or-true))),
    )

pub distinct_is : (l : List ℕ) → (distinct l ≡ true) ↔ Nodup l
distinct_is [] = (λ e. Nodup-nil, λ h. refl)
distinct_is (x ∷ xs) =
    let ih = distinct_is xs in
    let here = elem_is x xs in (
      (λ e. Nodup-cons.1 ((λ m. clash (elem x xs) (here.1 m) (not-true (elem x xs) (and_left (not (elem x xs)) (distinct xs) e))), ih.0 (and_right (not (elem x xs)) (distinct xs) e))),
      (λ h. let k = Nodup-cons.0 h in and_intro (ap not (absent (elem x xs) (λ e. k.0 (here.0 e)))) (ih.1 k.1)),
    )
  where
    not-true : (b : Bool) → not b ≡ true → b ≡ false
    not-true true e = sym e
    not-true false e = refl

    absent : (b : Bool) → (b ≡ true → ⊥) → b ≡ false
    absent true h = absurd (h refl)
    absent false h = refl

one : (n : ℕ) (f : ℕ → Bool) → length (filter f (n ∷ [])) ≡ bit (f n)
one n f = cases (f n) (λ e. rw e) (λ e. rw e)

-- the numbers below n that pass, counted
pub count_is : (n : ℕ) (f : ℕ → Bool) → count_below n f ≡ length (filter f (tabulate n (λ i. i)))
unfolding count_below
count_is zero f = refl
count_is (suc n) f =
    ap (◌+ bit (f n)) (count_is n f)
    ∙ sym (ap (λ l. length (filter f l)) (tabulate_next n (λ i. i)) ∙ ap length (filter_append f (tabulate n (λ i. i)) (n ∷ []))
    ∙ length-append (filter f (tabulate n (λ i. i))) (filter f (n ∷ []))
    ∙ ap (λ k. length (filter f (tabulate n (λ i. i))) + k) (one n f))

-- the elements that pass, counted by their places
count_tabulate : {A : Type 0} (f : A → Bool) (n : ℕ) (g : ℕ → A) → count_by f (tabulate n g) ≡ count_below n (λ i. f (g i))
unfolding count_below
count_tabulate f zero g = refl
count_tabulate f (suc n) g =
    let one : cond (f (g n)) 1 0 ≡ bit (f (g n)) = cases (f (g n)) (λ e. rw e refl) (λ e. rw e refl) in
    ap (count_by f) (tabulate_next n g) ∙ sum_by_push (λ x. cond (f x) 1 0) (tabulate n g) (g n) ∙ (λ j. count_tabulate f n g j + one j)

pub count_by_below : {A : Type 0} (f : A → Bool) (l : List A) (d : A) → count_by f l ≡ count_below (length l) (λ i. f (get_or l i d))
count_by_below f l d = ap (count_by f) (tabulate_get_d l d) ∙ count_tabulate f (length l) (λ i. get_or l i d)
