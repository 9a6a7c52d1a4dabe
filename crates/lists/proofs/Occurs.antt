-- How often a number stands in a list: 0 or 1 for each number says both that no number stands there twice and which stand there.
use mathlib.Core.Path.{◌≡◌, refl, sym, ap, ◌∙◌}
use mathlib.Core.Bool.{Bool, true, false, not, ◌||◌, or-true, or-false}
use mathlib.Core.List.{List, [], ◌∷◌, ◌++◌}
use Prim.Native.Nat.{ℕ, suc, zero, ◌+◌, ◌≤◌, ◌<◌}
use native.Mathlib.Omega.{arith}
use native.Mathlib.Nat.{zero-add}
use native.Mathlib.Numerals.{one-add}
use lib.ListN.{length, take, drop, get_or, replicate, take-append-drop}
use lib.Dec.{eqb}
use borrow.Author.Tests.{eqb-true, not-true}
use Rattle.lists.specs.Lists.{filter, all, elem, without, distinct, bit}
use Rattle.lists.proofs.Tests.{cases, clash, and_intro, and_left, and_right, or_left, or_right, eqb_refl, eqb_sym}

abbrev pub occurs : ℕ → List ℕ → ℕ
occurs t [] = 0
occurs t (x ∷ xs) = bit (eqb t x) + occurs t xs

-- elem and occurs
pub elem_occurs : (t : ℕ) (l : List ℕ) → elem t l ≡ true → 1 ≤ occurs t l
elem_occurs t [] e = clash true refl (sym e)
elem_occurs t (x ∷ xs) e = cases (eqb t x) (λ k. rw k (omega arith)) (λ k. let ih = elem_occurs t xs (cc) in omega arith)

pub absent_occurs : (t : ℕ) (l : List ℕ) → elem t l ≡ false → occurs t l ≡ 0
absent_occurs t [] e = refl
absent_occurs t (x ∷ xs) e =
    let ih = absent_occurs t xs (or_right (eqb t x) (elem t xs) e) in
    rw (or_left (eqb t x) (elem t xs) e) (omega arith)

pub occurs_absent : (t : ℕ) (l : List ℕ) → occurs t l ≡ 0 → elem t l ≡ false
occurs_absent t l h = cases (elem t l) (λ e. absurd (omega (arith, elem_occurs t l e))) (λ e. e)

pub elem_agree : (t : ℕ) (l m : List ℕ) → occurs t l ≡ occurs t m → elem t l ≡ elem t m
elem_agree t l m h = cases (elem t m)
    (λ e. rw e (cases (elem t l) (λ d. d) (λ d. absurd (omega (arith, absent_occurs t l d, elem_occurs t m e)))))
    (λ e. rw e (occurs_absent t l (omega (arith, absent_occurs t m e))))

pub occurs_once : (t : ℕ) (l : List ℕ) → occurs t l ≤ 1 → occurs t l ≡ bit (elem t l)
occurs_once t l h = cases (elem t l) (λ e. rw e (omega (arith, elem_occurs t l e))) (λ e. rw e (absent_occurs t l e))

-- occurs, and the ways in which lists are made
pub occurs_append : (t : ℕ) (l m : List ℕ) → occurs t (l ++ m) ≡ occurs t l + occurs t m
occurs_append t [] m = omega arith
occurs_append t (x ∷ xs) m = let ih = occurs_append t xs m in omega arith

pub occurs_filter : (f : ℕ → Bool) (t : ℕ) (l : List ℕ) → f t ≡ true → occurs t (filter f l) ≡ occurs t l
occurs_filter f t [] e = refl
occurs_filter f t (x ∷ xs) e =
    let ih = occurs_filter f t xs e in
    cases (f x) (λ h. cc) (λ h. cases (eqb t x) (λ k. clash (f x) (cc (eqb-true t x k)) h) (λ k. rw (h, k) (omega arith)))

pub occurs_filtered_out : (f : ℕ → Bool) (t : ℕ) (l : List ℕ) → f t ≡ false → occurs t (filter f l) ≡ 0
occurs_filtered_out f t [] e = refl
occurs_filtered_out f t (x ∷ xs) e =
    let ih = occurs_filtered_out f t xs e in
    cases (f x) (λ h. cases (eqb t x) (λ k. clash (f x) h (cc (eqb-true t x k))) (λ k. rw (h, k) (omega arith))) (λ h. cc)

pub occurs_filter_le : (f : ℕ → Bool) (t : ℕ) (l : List ℕ) → occurs t (filter f l) ≤ occurs t l
occurs_filter_le f t l =
    cases (f t) (λ e. omega (arith, occurs_filter f t l e)) (λ e. omega (arith, occurs_filtered_out f t l e))

-- the first n and the rest
pub occurs_take_drop : (n t : ℕ) (l : List ℕ) → occurs t (take n l) + occurs t (drop n l) ≡ occurs t l
occurs_take_drop zero t l = omega arith
occurs_take_drop (suc n) t [] = omega arith
occurs_take_drop (suc n) t (x ∷ xs) = let ih = occurs_take_drop n t xs in omega arith

pub occurs_take_le : (n t : ℕ) (l : List ℕ) → occurs t (take n l) ≤ occurs t l
occurs_take_le n t l = omega (arith, occurs_take_drop n t l)

pub occurs_without : (t : ℕ) (ts l : List ℕ) → elem t ts ≡ false → occurs t (without ts l) ≡ occurs t l
occurs_without t ts l e = occurs_filter (λ s. not (elem s ts)) t l (rw e)

pub occurs_taken_out : (t : ℕ) (ts l : List ℕ) → elem t ts ≡ true → occurs t (without ts l) ≡ 0
occurs_taken_out t ts l e = occurs_filtered_out (λ s. not (elem s ts)) t l (rw e)

-- a list in which each number stands at most once
pub occurs_distinct : (l : List ℕ) → ((t : ℕ) → occurs t l ≤ 1) → distinct l ≡ true
occurs_distinct [] h = refl
occurs_distinct (x ∷ xs) h =
    and_intro
    (ap not (occurs_absent x xs (omega (arith, h x, ap bit (eqb_refl x)))))
    (occurs_distinct xs (λ t. omega (arith, h t)))

pub distinct_occurs : (t : ℕ) (l : List ℕ) → distinct l ≡ true → occurs t l ≤ 1
distinct_occurs t [] h = omega arith
distinct_occurs t (x ∷ xs) h =
    let ih = distinct_occurs t xs (and_right (not (elem x xs)) (distinct xs) h) in
    let out = absent_occurs x xs (not-true (elem x xs) (and_left (not (elem x xs)) (distinct xs) h)) in
    cases (eqb t x) (λ e. omega (arith, ap bit e, ap (λ u. occurs u xs) (eqb-true t x e))) (λ e. rw e (omega arith))

-- a test of the elements
pub all_elem : (f : ℕ → Bool) (l : List ℕ) → ((t : ℕ) → elem t l ≡ true → f t ≡ true) → all f l ≡ true
all_elem f [] h = refl
all_elem f (x ∷ xs) h =
    and_intro (h x (cc (eqb_refl x))) (all_elem f xs (λ t e. h t (cases (eqb t x) (λ k. rw k) (λ k. rw (k, e)))))

pub elem_all : (f : ℕ → Bool) (l : List ℕ) → all f l ≡ true → (t : ℕ) → elem t l ≡ true → f t ≡ true
elem_all f [] h t e = clash true refl (sym e)
elem_all f (x ∷ xs) h t e = cases (eqb t x)
    (λ k. rw (eqb-true t x k) (and_left (f x) (all f xs) h))
    (λ k. elem_all f xs (and_right (f x) (all f xs) h) t (rw k at e))

-- membership of a filtered list, and of two lists
pub elem_filter : (f : ℕ → Bool) (t : ℕ) (l : List ℕ) → f t ≡ true → elem t (filter f l) ≡ elem t l
elem_filter f t [] e = refl
elem_filter f t (x ∷ xs) e =
    let ih = elem_filter f t xs e in
    cases (f x) (λ h. cc) (λ h. cases (eqb t x) (λ k. clash (f x) (cc (eqb-true t x k)) h) (λ k. cc))

pub elem_filtered_out : (f : ℕ → Bool) (t : ℕ) (l : List ℕ) → f t ≡ false → elem t (filter f l) ≡ false
elem_filtered_out f t l e = occurs_absent t (filter f l) (occurs_filtered_out f t l e)

pub elem_append : (t : ℕ) (l m : List ℕ) → elem t (l ++ m) ≡ (elem t l || elem t m)
elem_append t [] m = refl
elem_append t (x ∷ xs) m = let ih = elem_append t xs m in cases (eqb t x) (λ k. cc) (λ k. cc)

pub in_first : (t : ℕ) (l m : List ℕ) → elem t l ≡ true → elem t (l ++ m) ≡ true
in_first t l m e = elem_append t l m ∙ ap (◌|| elem t m) e

pub in_second : (t : ℕ) (l m : List ℕ) → elem t m ≡ true → elem t (l ++ m) ≡ true
in_second t l m h = elem_append t l m ∙ rw h (or-true (elem t l))

pub elem_part : (f : ℕ → Bool) (t : ℕ) (l : List ℕ) → elem t (filter f l) ≡ true → elem t l ≡ true
elem_part f t l h = cases (f t)
    (λ e. sym (elem_filter f t l e) ∙ h)
    (λ e. clash (elem t (filter f l)) h (elem_filtered_out f t l e))

-- who is not among the first is among the rest
pub elem_rest : (n t : ℕ) (l : List ℕ) → elem t l ≡ true → elem t (take n l) ≡ false → elem t (drop n l) ≡ true
elem_rest n t l h out =
    sym (rw out at (elem_append t (take n l) (drop n l))) ∙ ap (elem t) (take-append-drop n l) ∙ h

-- taking numbers out, of a part and of the whole
pub without_filter : (f : ℕ → Bool) (ts l : List ℕ) → filter f (without ts l) ≡ without (filter f ts) (filter f l)
without_filter f ts [] = refl
without_filter f ts (x ∷ xs) =
    let ih = without_filter f ts xs in
    cases (f x)
    (λ e. let k = elem_filter f x ts e in cases (elem x ts) (λ d. cc) (λ d. cc))
    (λ e. cases (elem x ts) (λ d. cc) (λ d. cc))

-- tests that agree on the elements
pub filter_agree : (f g : ℕ → Bool) (l : List ℕ) → ((t : ℕ) → elem t l ≡ true → f t ≡ g t) → filter f l ≡ filter g l
filter_agree f g [] h = refl
filter_agree f g (x ∷ xs) h =
    cc (h x (rw (eqb_refl x)), filter_agree f g xs (λ t e. h t (cases (eqb t x) (λ k. rw k) (λ k. rw (k, e)))))

-- an element at a place stands in the list
pub elem_get_d : (l : List ℕ) (k d : ℕ) → k < length l → elem (get_or l k d) l ≡ true
elem_get_d [] k d h = absurd (omega arith)
elem_get_d (x ∷ xs) zero d h = rw (eqb_refl x)
elem_get_d (x ∷ xs) (suc k) d h =
    cases (eqb (get_or xs k d) x) (λ e. rw e) (λ e. rw e (elem_get_d xs k d (omega arith)))

pub without_append : (us ts l : List ℕ) → without ts (without us l) ≡ without (us ++ ts) l
without_append us ts [] = refl
without_append us ts (x ∷ xs) =
    let ih = without_append us ts xs in
    let e = elem_append x us ts in
    cases (elem x us) (λ d. cc) (λ d. cases (elem x ts) (λ k. cc) (λ k. cc))

-- the entries that are a number, as often as it stands there
pub filter_same : (t : ℕ) (l : List ℕ) → filter (λ u. eqb u t) l ≡ replicate (occurs t l) t
filter_same t [] = refl
filter_same t (x ∷ xs) =
    let ih = filter_same t xs in
    cases (eqb x t)
    (λ e. rw (e, eqb_sym t x, e, eqb-true x t e) (rw (one-add (occurs t xs)) (ap (t ∷◌) ih)))
    (λ e. rw (e, eqb_sym t x, e, zero-add (occurs t xs)) ih)

-- a list of one number
pub elem_one : (u t : ℕ) → elem u (t ∷ []) ≡ true → u ≡ t
elem_one u t e = eqb-true u t (sym (or-false (eqb u t)) ∙ e)
