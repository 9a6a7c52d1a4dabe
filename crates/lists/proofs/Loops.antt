-- One turn of a loop, as a law of lists: one element more of a list that is gone through, stored or tested.
use mathlib.Core.Path.{◌≡◌, refl, sym, ap, ◌∙◌}
use mathlib.Core.Bool.{Bool, true, false, not, ◌&&◌, ◌||◌, and_assoc, and-true, or-true, or-false}
use mathlib.Core.List.{List, [], ◌∷◌, ◌++◌}
use Prim.Native.Nat.{ℕ, suc, ◌+◌, ◌-◌, ◌<◌}
use native.Mathlib.Numerals.{add-one}
use native.Mathlib.Omega.{arith}
use lib.ListN.{length, take, drop, get_or, set, replicate, length-append}
use lib.Seq.{take-suc, take-suc-set, drop-cons, set-append_seam, append_snoc, get_or-set_same, get_or-set_other}
use lib.Dec.{eqb}
use borrow.Author.Tests.{eqb-true, eqb-false}
use Rattle.lists.specs.Lists.{all, elem, distinct, pad_to}
use Rattle.lists.proofs.Tests.{cases, eqb_refl, eqb_sym, lt_of_le_ne}
use Rattle.lists.proofs.Occurs.{elem_append}

module _ {A : Type 0} where
  pub take_next : (l : List A) (j : ℕ) (d : A) → j < length l → take (j + 1) l ≡ take j l ++ (get_or l j d ∷ [])
  take_next l j d h = rw add-one (take-suc l j d h)

  pub drop_next : (l : List A) (j : ℕ) (d : A) → j < length l → drop j l ≡ get_or l j d ∷ drop (j + 1) l
  drop_next l j d h = rw add-one (drop-cons l j d h)

  -- one element more of a list that is filled from the front
  pub fill_next : (xs rest whole : List A) (i : ℕ) (v : A) → i < length xs → whole ≡ take i xs ++ (v ∷ rest) → whole ≡ take (i + 1) (set xs i v) ++ rest
  fill_next xs rest whole i v h e = e ∙ sym (append_snoc (take i xs) v rest) ∙ rw (add-one, take-suc-set xs i v h)

  pub length_snoc : (l : List A) (x : A) → length (l ++ (x ∷ [])) ≡ length l + 1
  length_snoc l x = length-append l (x ∷ [])

  -- a store at the first filler
  pub pad_to_snoc : (n : ℕ) (z : A) (l : List A) (x : A) → length l < n → set (pad_to n z l) (length l) x ≡ pad_to n z (l ++ (x ∷ []))
  pad_to_snoc n z l x h =
      let more : n - length l ≡ suc (n - length (l ++ (x ∷ []))) = omega (arith, length_snoc l x) in
      rw more (set-append_seam l z (replicate (n - length (l ++ (x ∷ []))) z) x ∙ sym (append_snoc l x (replicate (n - length (l ++ (x ∷ []))) z)))

  -- a store of the filler there
  pub pad_to_filler : (n : ℕ) (z : A) (l : List A) → length l < n → set (pad_to n z l) (length l) z ≡ pad_to n z l
  pad_to_filler n z l h =
      let more : n - length l ≡ suc (n - suc (length l)) = omega arith in
      rw more (set-append_seam l z (replicate (n - suc (length l)) z) z)

  -- one element stored, where the others are already as they are to be
  pub stored_at : (l : List A) (d : A) (f : ℕ → A) (i : ℕ) (v : A) → i < length l → v ≡ f i
      → (t : ℕ) → (eqb t i ≡ false → get_or l t d ≡ f t) → get_or (set l i v) t d ≡ f t
  stored_at l d f i v h is t old = cases (eqb t i)
      (λ e. rw (eqb-true t i e) (get_or-set_same l i v d h ∙ is))
      (λ e. get_or-set_other l i t v d (eqb-false t i e) ∙ old e)

  pub stored_next : (l : List A) (d : A) (f : ℕ → A) (i : ℕ) (v : A) → i < length l → ((t : ℕ) → t < i → get_or l t d ≡ f t) → v ≡ f i
      → (t : ℕ) → t < i + 1 → get_or (set l i v) t d ≡ f t
  stored_next l d f i v h done is t b = stored_at l d f i v h is t (λ e. done t (lt_of_le_ne t i (omega arith) e))

  -- a test of every element
  pub all_snoc : (f : A → Bool) (l : List A) (x : A) → all f (l ++ (x ∷ [])) ≡ (all f l && f x)
  all_snoc f [] x = and-true (f x)
  all_snoc f (y ∷ ys) x = ap (f y &&◌) (all_snoc f ys x) ∙ sym (and_assoc (f y) (all f ys) (f x))

  pub all_next : (f : A → Bool) (ok : Bool) (l : List A) (i : ℕ) (d : A) → i < length l
      → (ok && all f (drop i l)) ≡ (ok && f (get_or l i d) && all f (drop (i + 1) l))
  all_next f ok l i d h = rw (drop_next l i d h) (sym (and_assoc ok (f (get_or l i d)) (all f (drop (i + 1) l))))

-- the numbers of a list, with one more
pub elem_snoc : (t : ℕ) (l : List ℕ) (x : ℕ) → elem t (l ++ (x ∷ [])) ≡ (elem t l || eqb t x)
elem_snoc t l x = elem_append t l (x ∷ []) ∙ ap (elem t l ||◌) (or-false (eqb t x))

pub elem_last : (l : List ℕ) (x : ℕ) → elem x (l ++ (x ∷ [])) ≡ true
elem_last l x = elem_snoc x l x ∙ rw (eqb_refl x) (or-true (elem x l))

pub elem_before : (t : ℕ) (l : List ℕ) (x : ℕ) → eqb t x ≡ false → elem t (l ++ (x ∷ [])) ≡ elem t l
elem_before t l x e = elem_snoc t l x ∙ rw e (or-false (elem t l))

-- no number twice
pub distinct_snoc : (l : List ℕ) (x : ℕ) → distinct (l ++ (x ∷ [])) ≡ (distinct l && not (elem x l))
distinct_snoc [] x = refl
distinct_snoc (y ∷ ys) x =
    let ih = distinct_snoc ys x in
    let e = elem_snoc y ys x in
    cases (eqb x y)
    (λ k. let k' : eqb y x ≡ true = cc (eqb_sym x y) in
    cases (elem y ys) (λ d. cc) (λ d. cases (distinct ys) (λ b. cc) (λ b. cc)))
    (λ k. let k' : eqb y x ≡ false = cc (eqb_sym x y) in
    cases (elem y ys) (λ d. cc) (λ d. cases (distinct ys) (λ b. cases (elem x ys) (λ q. cc) (λ q. cc)) (λ b. cc)))
