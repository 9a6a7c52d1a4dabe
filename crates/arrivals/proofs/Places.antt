-- Where a number stands in a list, and a number taken out of it by its place.
use mathlib.Core.Path.{◌≡◌, refl, sym, ap, ◌∙◌}
use mathlib.Core.Bool.{true, false, not, cond, or-false}
use mathlib.Core.List.{List, [], ◌∷◌, ◌++◌}
use Prim.Native.Nat.{ℕ, suc, ◌+◌, ◌-◌, ◌≤◌}
use native.Mathlib.Omega.{arith}
use lib.ListN.{length, take, drop, get_or}
use lib.Dec.{eqb, ltb}
use borrow.Author.Tests.{eqb-true, ltb-true, lt-ltb, le-ltb, not-true}
use Rattle.lists.specs.Lists.{all, elem, without, distinct, bit, pairwise}
use Rattle.lists.proofs.Tests.{cases, clash, and_intro, and_left, and_right, bit_le, or_left, or_right, eqb_refl, eqb_sym, lt_same}
use Rattle.lists.proofs.Filter.{filter_true}
use Rattle.lists.proofs.Occurs.{all_elem, elem_all, elem_filter, occurs_filter_le, occurs_distinct, distinct_occurs, without_append}
use Rattle.lists.proofs.Padded.{length_out}
use Rattle.lists.proofs.Loops.{elem_last, elem_before}
use Rattle.lists.proofs.Pairwise.{pairwise_weaken}
use Rattle.arrivals.specs.Arrivals.{place_of}

-- one entry more
pub place_snoc : (t : ℕ) (l : List ℕ) (x : ℕ) → place_of t (l ++ (x ∷ [])) ≡ cond (eqb t x) (suc (length l)) (place_of t l)
place_snoc t [] x = cases (eqb t x) (λ e. rw e) (λ e. rw e)
place_snoc t (y ∷ l) x =
    let ih = place_snoc t l x in
    cases (eqb t x)
    (λ e. cc (ih, ap (λ u. elem u (l ++ (x ∷ []))) (eqb-true t x e) ∙ elem_last l x))
    (λ e. cc (ih, elem_before t l x e))

-- in a list of which x is the first, t stands behind, or is the first itself
behind : (t x : ℕ) (l : List ℕ) → elem t l ≡ true → place_of t (x ∷ l) ≡ suc (place_of t l)
behind t x l e = rw e

at_first_lem : (t x : ℕ) (l : List ℕ) → elem t l ≡ false → place_of t (x ∷ l) ≡ bit (eqb t x)
at_first_lem t x l e = rw e

is_first : (t x : ℕ) (l : List ℕ) → elem t (x ∷ l) ≡ true → elem t l ≡ false → eqb t x ≡ true
is_first t x l e k = sym (or-false (eqb t x)) ∙ rw k at e

-- 0 where it does not stand there
pub place_absent : (t : ℕ) (l : List ℕ) → elem t l ≡ false → place_of t l ≡ 0
place_absent t [] e = refl
place_absent t (x ∷ l) e = rw (or_right (eqb t x) (elem t l) e, or_left (eqb t x) (elem t l) e)

-- and else one of the places from 1
pub place_first : (t : ℕ) (l : List ℕ) → elem t l ≡ true → 1 ≤ place_of t l
place_first t [] e = clash true refl (sym e)
place_first t (x ∷ l) e = cases (elem t l)
    (λ k. rw k (omega arith))
    (λ k. rw k (omega (arith, ap bit (is_first t x l e k))))

pub place_most : (t : ℕ) (l : List ℕ) → place_of t l ≤ length l
place_most t [] = omega arith
place_most t (x ∷ l) = cases (elem t l)
    (λ k. rw k (omega (arith, place_most t l)))
    (λ k. rw k (omega (arith, bit_le (eqb t x))))

-- the number at a place
pub place_names : (t : ℕ) (l : List ℕ) → elem t l ≡ true → get_or l (place_of t l - 1) 0 ≡ t
place_names t [] e = clash true refl (sym e)
place_names t (x ∷ l) e = cases (elem t l)
    (λ k.
    let p = place_of t l in
    let here : place_of t (x ∷ l) - 1 ≡ suc (p - 1) = omega (arith, behind t x l k, place_first t l k) in
    ap (λ j. get_or (x ∷ l) j 0) here ∙ place_names t l k)
    (λ k.
    let is = is_first t x l e k in
    let here : place_of t (x ∷ l) - 1 ≡ 0 = omega (arith, at_first_lem t x l k, ap bit is) in
    ap (λ j. get_or (x ∷ l) j 0) here ∙ sym (eqb-true t x is))

-- In a list of different numbers: one is taken out.
module _ (t : ℕ) where
  differ : (x : ℕ) (l : List ℕ) → distinct (x ∷ l) ≡ true → elem t l ≡ true → eqb x t ≡ false
  differ x l h k = cases (eqb x t)
      (λ e. clash (elem x l) (ap (λ u. elem u l) (eqb-true x t e) ∙ k) (not-true (elem x l) (and_left (not (elem x l)) (distinct l) h)))
      (λ e. e)

  rest_distinct : (x : ℕ) (l : List ℕ) → distinct (x ∷ l) ≡ true → distinct l ≡ true
  rest_distinct x l h = and_right (not (elem x l)) (distinct l) h

  without_kept : (x : ℕ) (l : List ℕ) → eqb x t ≡ false → without (t ∷ []) (x ∷ l) ≡ x ∷ without (t ∷ []) l
  without_kept x l e = rw e

  without_first : (x : ℕ) (l : List ℕ) → eqb t x ≡ true → without (t ∷ []) (x ∷ l) ≡ without (t ∷ []) l
  without_first x l e = rw (eqb_sym x t, e)

  without_none : (l : List ℕ) → elem t l ≡ false → without (t ∷ []) l ≡ l
  without_none [] k = refl
  without_none (x ∷ l) k =
      without_kept x l (eqb_sym x t ∙ or_left (eqb t x) (elem t l) k) ∙ ap (x ∷◌) (without_none l (or_right (eqb t x) (elem t l) k))

  -- the entries before its place and those behind it
  pub place_out : (l : List ℕ) → distinct l ≡ true → elem t l ≡ true → take (place_of t l - 1) l ++ drop (place_of t l) l ≡ without (t ∷ []) l
  place_out [] h e = clash true refl (sym e)
  place_out (x ∷ l) h e = cases (elem t l)
      (λ k.
      let p = place_of t l in
      let at = behind t x l k in
      let before : place_of t (x ∷ l) - 1 ≡ suc (p - 1) = omega (arith, at, place_first t l k) in
      (λ j. take (before j) (x ∷ l) ++ drop (at j) (x ∷ l)) ∙ ap (x ∷◌) (place_out l (rest_distinct x l h) k) ∙ sym (without_kept x l (differ x l h k)))
      (λ k.
      let is = is_first t x l e k in
      let at : place_of t (x ∷ l) ≡ 1 = at_first_lem t x l k ∙ ap bit is in
      (λ j. take (at j - 1) (x ∷ l) ++ drop (at j) (x ∷ l)) ∙ sym (without_first x l is ∙ without_none l k))

  -- another number then stands one place before where it stood, if that was behind the one taken out
  pub place_moved : (u : ℕ) (l : List ℕ) → distinct l ≡ true → elem t l ≡ true → eqb u t ≡ false
      → place_of u (without (t ∷ []) l) ≡ place_of u l - bit (ltb (place_of t l) (place_of u l))
  place_moved u [] h e d = clash true refl (sym e)
  place_moved u (x ∷ l) h e d = cases (elem t l)
      (λ k.
      let q = place_of t l in
      let p = place_of u l in
      let one = place_first t l k in
      let kept : elem u (without (t ∷ []) l) ≡ elem u l = elem_filter (λ s. not (elem s (t ∷ []))) u l (rw d) in
      ap (place_of u) (without_kept x l (differ x l h k)) ∙ cases (elem u l)
      (λ m.
      let ih = place_moved u l (rest_distinct x l h) k d in
      let first = place_first u l m in
      let less : ltb (suc q) (suc p) ≡ ltb q p = lt_same (suc q) (suc p) q p (λ a. omega arith) (λ a. omega arith) in
      behind u x (without (t ∷ []) l) (kept ∙ m)
      ∙ omega (arith, ih, bit_le (ltb q p), ap bit less)
      ∙ sym (λ j. behind u x l m j - bit (ltb (behind t x l k j) (behind u x l m j))))
      (λ m.
      let none : ltb (suc q) (bit (eqb u x)) ≡ false = le-ltb (suc q) (bit (eqb u x)) (omega (arith, bit_le (eqb u x))) in
      at_first_lem u x (without (t ∷ []) l) (kept ∙ m)
      ∙ omega (arith, ap bit none)
      ∙ sym (λ j. at_first_lem u x l m j - bit (ltb (behind t x l k j) (at_first_lem u x l m j)))))
      (λ k.
      let is = is_first t x l e k in
      let at : place_of t (x ∷ l) ≡ 1 = at_first_lem t x l k ∙ ap bit is in
      let p = place_of u l in
      ap (place_of u) (without_first x l is ∙ without_none l k) ∙ cases (elem u l)
      (λ m.
      let behind_one : ltb 1 (suc p) ≡ true = lt-ltb 1 (suc p) (omega (arith, place_first u l m)) in
      omega (arith, ap bit behind_one) ∙ sym (λ j. behind u x l m j - bit (ltb (at j) (behind u x l m j))))
      (λ m.
      let other : eqb u x ≡ false = ap (eqb u) (sym (eqb-true t x is)) ∙ d in
      let none : place_of u (x ∷ l) ≡ 0 = at_first_lem u x l m ∙ ap bit other in
      omega (arith, place_absent u l m, none)))

-- the places rise along the list
pub rising_places : (l : List ℕ) → distinct l ≡ true → pairwise (λ t u. ltb (place_of t l) (place_of u l)) l ≡ true
rising_places [] h = refl
rising_places (x ∷ l) h =
    let out : elem x l ≡ false = not-true (elem x l) (and_left (not (elem x l)) (distinct l) h) in
    let at : place_of x (x ∷ l) ≡ 1 = at_first_lem x x l out ∙ ap bit (eqb_refl x) in
    and_intro
    (all_elem (λ u. ltb (place_of x (x ∷ l)) (place_of u (x ∷ l))) l
    (λ u e. lt-ltb (place_of x (x ∷ l)) (place_of u (x ∷ l)) (omega (arith, at, behind u x l e, place_first u l e))))
    (pairwise_weaken (λ t u. ltb (place_of t l) (place_of u l)) (λ t u. ltb (place_of t (x ∷ l)) (place_of u (x ∷ l))) (λ t. elem t l)
    (λ t u d e less. lt-ltb (place_of t (x ∷ l)) (place_of u (x ∷ l))
    (omega (arith, behind t x l d, behind u x l e, ltb-true (place_of t l) (place_of u l) less)))
    l (all_elem (λ t. elem t l) l (λ t e. e))
    (rising_places l (and_right (not (elem x l)) (distinct l) h)))

-- as many are left as are not taken out
pub length_without : (ts l : List ℕ) → distinct ts ≡ true → all (λ t. elem t l) ts ≡ true → distinct l ≡ true → length (without ts l) + length ts ≡ length l
length_without [] l h k d = omega (arith, ap length (filter_true l))
length_without (t ∷ ts) l h k d =
    let there = and_left (elem t l) (all (λ u. elem u l) ts) k in
    let out : elem t ts ≡ false = not-true (elem t ts) (and_left (not (elem t ts)) (distinct ts) h) in
    let less = without (t ∷ []) l in
    let shorter : length less + 1 ≡ length l = ap (λ m. length m + 1) (sym (place_out t l d there)) ∙ length_out l (place_of t l) (place_first t l there) (place_most t l) in
    let apart : distinct less ≡ true = occurs_distinct less (λ u. omega (arith, distinct_occurs u l d, occurs_filter_le (λ v. not (elem v (t ∷ []))) u l)) in
    let each : all (λ u. elem u less) ts ≡ true = all_elem (λ u. elem u less) ts
    (λ u e. elem_filter (λ v. not (elem v (t ∷ []))) u l (other u e out) ∙ elem_all (λ v. elem v l) ts (and_right (elem t l) (all (λ v. elem v l) ts) k) u e) in
    omega (arith, length_without ts less (and_right (not (elem t ts)) (distinct ts) h) each apart, shorter, ap length (without_append (t ∷ []) ts l))
  where
    other : (u : ℕ) → elem u ts ≡ true → elem t ts ≡ false → not (elem u (t ∷ [])) ≡ true
    other u e out = cases (eqb u t)
        (λ q. clash (elem t ts) (ap (λ v. elem v ts) (sym (eqb-true u t q)) ∙ e) out)
        (λ q. rw q)
