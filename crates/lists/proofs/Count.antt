-- Counting the numbers below a bound, and lists of different numbers below it.
use mathlib.Core.Path.{◌≡◌, refl, sym, ap, ◌∙◌}
use mathlib.Core.Bool.{Bool, true, false, not, ◌&&◌}
use mathlib.Core.List.{List, [], ◌∷◌}
use Prim.Native.Nat.{ℕ, suc, zero, ◌+◌, ◌≤◌, ◌<◌}
use native.Mathlib.Numerals.{add-one}
use native.Mathlib.Omega.{arith}
use lib.ListN.{length}
use lib.Dec.{eqb, ltb}
use borrow.Author.Tests.{eqb-true, eq-eqb, ne_eqb, ltb-true}
use Rattle.lists.specs.Lists.{filter, all, elem, distinct, bit, every_below, count_below}
use Rattle.lists.proofs.Tests.{cases, clash, and_intro, and_left, and_right, and_swap, bit_le, eqb_refl, lt_of_le_ne}
use Rattle.lists.proofs.Occurs.{occurs, elem_occurs, elem_all, elem_filter, absent_occurs, occurs_once, occurs_filtered_out, occurs_filter_le, distinct_occurs}

pub every_below_intro : (n : ℕ) (f : ℕ → Bool) → ((t : ℕ) → t < n → f t ≡ true) → every_below n f ≡ true
unfolding every_below
every_below_intro zero f h = refl
every_below_intro (suc n) f h = and_intro (every_below_intro n f (λ t l. h t (omega arith))) (h n (omega arith))

pub every_below_at : (n : ℕ) (f : ℕ → Bool) → every_below n f ≡ true → (t : ℕ) → t < n → f t ≡ true
unfolding every_below
every_below_at zero f h t l = absurd (omega arith)
every_below_at (suc n) f h t l = cases (eqb t n)
    (λ e. rw (eqb-true t n e) (and_right (every_below n f) (f n) h))
    (λ e. every_below_at n f (and_left (every_below n f) (f n) h) t (lt_of_le_ne t n (omega arith) e))

every_below_next : (n : ℕ) (f : ℕ → Bool) → every_below (n + 1) f ≡ (every_below n f && f n)
every_below_next n f = rw (add-one n) (unfold every_below in refl)

pub every_below_ext : (n : ℕ) (f g : ℕ → Bool) → ((t : ℕ) → t < n → f t ≡ g t) → every_below n f ≡ every_below n g
unfolding every_below
every_below_ext zero f g h = refl
every_below_ext (suc n) f g h = cc (every_below_ext n f g (λ t l. h t (omega arith)), h n (omega arith))

pub every_below_and : (n : ℕ) (f g : ℕ → Bool) → every_below n (λ t. f t && g t) ≡ (every_below n f && every_below n g)
unfolding every_below
every_below_and zero f g = refl
every_below_and (suc n) f g =
    ap (λ b. b && (f n && g n)) (every_below_and n f g) ∙ sym (and_swap (every_below n f) (every_below n g) (f n) (g n))

-- A loop that tests every number below n has tested those below i.
pub record Tested (n : ℕ) (f : ℕ → Bool) (ok : Bool) (i : ℕ) : Type 0 where
  pub within : i ≤ n
  pub done : ok ≡ every_below i f

pub tested_start : (n : ℕ) (f : ℕ → Bool) → Tested n f true 0
unfolding every_below
tested_start n f = record { within = omega arith; done = refl }

pub tested_next : (n : ℕ) (f : ℕ → Bool) (ok good : Bool) (i : ℕ) → Tested n f ok i → i < n → good ≡ f i → Tested n f (ok && good) (i + 1)
tested_next n f ok good i g more is =
    record { within = omega arith; done = cc (g.done, is, every_below_next i f) }

pub tested_all : (n : ℕ) (f : ℕ → Bool) (ok : Bool) (i : ℕ) → Tested n f ok i → n ≤ i → ok ≡ every_below n f
tested_all n f ok i g end = let e : i ≡ n = omega (arith, g.within) in g.done ∙ rw e

pub count_zero : (f : ℕ → Bool) → count_below 0 f ≡ 0
unfolding count_below
count_zero f = refl

-- one more counted
pub count_next : (n : ℕ) (f : ℕ → Bool) → count_below (n + 1) f ≡ count_below n f + bit (f n)
unfolding count_below
count_next n f = ap (λ m. count_below m f) (add-one n)

-- A loop has counted the numbers below i.
pub record Counted (n : ℕ) (f : ℕ → Bool) (k i : ℕ) : Type 0 where
  pub within : i ≤ n
  pub done : k ≡ count_below i f
  pub few : k ≤ i

pub counted_start : (n : ℕ) (f : ℕ → Bool) → Counted n f 0 0
counted_start n f = record { within = omega arith; done = sym (count_zero f); few = omega arith }

pub counted_next : (n : ℕ) (f : ℕ → Bool) (k one i : ℕ) → Counted n f k i → i < n → one ≡ bit (f i) → Counted n f (k + one) (i + 1)
counted_next n f k one i g more is =
    record { within = omega arith; done = omega (arith, g.done, count_next i f); few = omega (arith, g.few, bit_le (f i)) }

-- of a stricter test no more are counted
pub count_below_weaken : (n : ℕ) (f g : ℕ → Bool) → ((t : ℕ) → f t ≡ true → g t ≡ true) → count_below n f ≤ count_below n g
unfolding count_below
count_below_weaken zero f g h = omega arith
count_below_weaken (suc n) f g h =
    let ih = count_below_weaken n f g h in
    cases (f n) (λ e. rw (e, h n e) (omega arith)) (λ e. rw e (omega (arith, ih)))

pub count_below_ext : (n : ℕ) (f g : ℕ → Bool) → ((t : ℕ) → t < n → f t ≡ g t) → count_below n f ≡ count_below n g
unfolding count_below
count_below_ext zero f g h = refl
count_below_ext (suc n) f g h =
    let ih = count_below_ext n f g (λ t l. h t (omega arith)) in
    omega (arith, ap bit (h n (omega arith)))

module _ (n : ℕ) (l : List ℕ) where
  abbrev others : List ℕ
  others = filter (λ x. not (eqb n x)) l

  length_others : length l ≡ length others + occurs n l
  length_others = go l
    where
      go : (l : List ℕ) → length l ≡ length (filter (λ x. not (eqb n x)) l) + occurs n l
      go [] = omega arith
      go (x ∷ xs) = let ih = go xs in cases (eqb n x) (λ e. rw e (omega arith)) (λ e. rw e (omega arith))

  others_below : ((t : ℕ) → suc n ≤ t → occurs t l ≡ 0) → (t : ℕ) → n ≤ t → occurs t others ≡ 0
  others_below none t h = cases (eqb n t)
      (λ e. occurs_filtered_out (λ x. not (eqb n x)) t l (cc))
      (λ e. omega (arith, none t (lt_of_le_ne n t h e), occurs_filter_le (λ x. not (eqb n x)) t l))

-- A list of different numbers below n is as long as the count of those that stand in it.
pub length_count : (n : ℕ) (l : List ℕ) → ((t : ℕ) → occurs t l ≤ 1) → ((t : ℕ) → n ≤ t → occurs t l ≡ 0)
    → length l ≡ count_below n (λ t. elem t l)
unfolding count_below
length_count zero [] one none = refl
length_count zero (x ∷ xs) one none =
    absurd (omega (arith, none x (omega arith), elem_occurs x (x ∷ xs) (rw (eqb_refl x))))
length_count (suc n) l one none =
    let m = others n l in
    let fewer : (t : ℕ) → occurs t m ≤ 1 = λ t. omega (arith, one t, occurs_filter_le (λ x. not (eqb n x)) t l) in
    let ih = length_count n m fewer (others_below n l none) in
    let same = count_below_ext n (λ t. elem t m) (λ t. elem t l) (λ t h. elem_others t h) in
    omega (arith, length_others n l, occurs_once n l (one n))
  where
    elem_others : (t : ℕ) → t < n → elem t (others n l) ≡ elem t l
    elem_others t h =
        elem_filter (λ x. not (eqb n x)) t l (ap not (ne_eqb n t (λ e. omega arith)))

pub count_below_le : (n : ℕ) (f : ℕ → Bool) → count_below n f ≤ n
unfolding count_below
count_below_le zero f = omega arith
count_below_le (suc n) f = omega (arith, count_below_le n f, bit_le (f n))

pub length_le : (n : ℕ) (l : List ℕ) → ((t : ℕ) → occurs t l ≤ 1) → ((t : ℕ) → n ≤ t → occurs t l ≡ 0) → length l ≤ n
length_le n l one none = omega (arith, length_count n l one none, count_below_le n (λ t. elem t l))

-- tests that agree but for one number
count_but_one : (n x : ℕ) (f g : ℕ → Bool) → ((t : ℕ) → eqb t x ≡ false → f t ≡ g t) → count_below n f ≤ count_below n g + 1
unfolding count_below
count_but_one zero x f g same = omega arith
count_but_one (suc n) x f g same = cases (eqb n x)
    (λ e.
    let before = count_below_ext n f g (λ t h. same t (ne_eqb t x (λ q. omega (arith, eqb-true n x e)))) in
    omega (arith, bit_le (f n)))
    (λ e. omega (arith, count_but_one n x f g same, ap bit (same n e)))

-- one entry more counts for one at most, and for none where its number stands there already
module _ (n x : ℕ) (l : List ℕ) where
  count_more : count_below n (λ t. elem t (x ∷ l)) ≤ count_below n (λ t. elem t l) + 1
  count_more = count_but_one n x (λ t. elem t (x ∷ l)) (λ t. elem t l) (λ t e. rw e)

  count_again : elem x l ≡ true → count_below n (λ t. elem t (x ∷ l)) ≡ count_below n (λ t. elem t l)
  count_again there = count_below_ext n (λ t. elem t (x ∷ l)) (λ t. elem t l)
      (λ t h. cases (eqb t x) (λ e. rw (e, eqb-true t x e, there)) (λ e. rw e))

count_none : (n : ℕ) → count_below n (λ t. false) ≡ 0
unfolding count_below
count_none zero = refl
count_none (suc n) = omega (arith, count_none n)

count_most : (n : ℕ) (l : List ℕ) → count_below n (λ t. elem t l) ≤ length l
count_most n [] = omega (arith, count_none n)
count_most n (x ∷ l) = omega (arith, count_more n x l, count_most n l)

count_fewer : (n : ℕ) (l : List ℕ) → distinct l ≡ false → count_below n (λ t. elem t l) < length l
count_fewer n [] e = clash true refl e
count_fewer n (x ∷ l) e = cases (elem x l)
    (λ k. omega (arith, count_again n x l k, count_most n l))
    (λ k. omega (arith, count_more n x l, count_fewer n l (rw k at e)))

-- no number twice: as many different numbers as entries
pub distinct_counted : (n : ℕ) (l : List ℕ) → all (λ t. ltb t n) l ≡ true → distinct l ≡ eqb (count_below n (λ t. elem t l)) (length l)
distinct_counted n l low = cases (distinct l)
    (λ e. rw e (sym (eq-eqb _ _ (sym (length_count n l (λ t. distinct_occurs t l e) none)))))
    (λ e. rw e (sym (ne_eqb (count_below n (λ t. elem t l)) (length l) (λ q. omega (arith, count_fewer n l e)))))
  where
    none : (t : ℕ) → n ≤ t → occurs t l ≡ 0
    none t h = absent_occurs t l (cases (elem t l) (λ d. absurd (omega (arith, ltb-true t n (elem_all (λ u. ltb u n) l low t d)))) (λ d. d))
