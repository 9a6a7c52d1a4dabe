-- A list that is stored with a filler behind it: an element taken out, and a list joined.
use mathlib.Core.Path.{◌≡◌, sym, ap, ◌∙◌}
use mathlib.Core.Bool.{cond}
use mathlib.Core.List.{List, [], ◌∷◌, ◌++◌, append_assoc}
use Prim.Native.Nat.{ℕ, zero, suc, ◌+◌, ◌-◌, ◌≤◌}
use native.Mathlib.Omega.{arith}
use lib.ListN.{length, take, drop, get_or, set, replicate, drop_of_length-le, length-append, length-drop, get_or-append, replicate-append-replicate}
use lib.Seq.{take_all, set-append_seam, length-take-le, take-append-le, drop-append-le, take-append_seam, drop-append-add, get_or-take, get_or-drop, get_or-append-add}
use lib.Dec.{ltb}
use borrow.Author.Tests.{ltb-true, ltb-false}
use Rattle.std.specs.List.{copy_within}
use Rattle.lists.specs.Lists.{pad_to}
use Rattle.lists.proofs.Tests.{cases}
use Rattle.lists.proofs.Loops.{drop_next}

module _ {A : Type 0} where
  drop_replicate : (m k : ℕ) (z : A) → drop m (replicate k z) ≡ replicate (k - m) z
  drop_replicate zero k z = let e : k - 0 ≡ k = omega arith in ap (λ j. replicate j z) (sym e)
  drop_replicate (suc m) zero z = let e : 0 - suc m ≡ 0 = omega arith in ap (λ j. replicate j z) (sym e)
  drop_replicate (suc m) (suc k) z = let e : suc k - suc m ≡ k - m = omega arith in drop_replicate m k z ∙ ap (λ j. replicate j z) (sym e)

  -- the first elements of a list that is stored
  pub take_padded : (n : ℕ) (z : A) (l : List A) → take (length l) (pad_to n z l) ≡ l
  take_padded n z l = take-append_seam l (replicate (n - length l) z)

  -- the element at a place, from 1, taken out
  module _ (l : List A) (p : ℕ) (first : 1 ≤ p) (within : p ≤ length l) where
    front : length (take (p - 1) l) ≡ p - 1
    front = length-take-le (p - 1) l (omega arith)

    pub length_out : length (take (p - 1) l ++ drop p l) + 1 ≡ length l
    length_out = omega (arith, length-append (take (p - 1) l) (drop p l), front, length-drop p l)

    -- those in front of it stay, and those behind it move up
    pub get_d_out : (d : A) (i : ℕ) → get_or (take (p - 1) l ++ drop p l) i d ≡ cond (ltb (i + 1) p) (get_or l i d) (get_or l (i + 1) d)
    get_d_out d i = cases (ltb (i + 1) p)
        (λ e.
        let h = ltb-true (i + 1) p e in
        rw e (get_or-append (take (p - 1) l) (drop p l) d i (omega (arith, front)) ∙ get_or-take (p - 1) l i d (omega arith)))
        (λ e.
        let h = ltb-false (i + 1) p e in
        let k = i - (p - 1) in
        let at : i ≡ length (take (p - 1) l) + k = omega (arith, front) in
        let there : p + k ≡ i + 1 = omega arith in
        rw e (ap (λ j. get_or (take (p - 1) l ++ drop p l) j d) at ∙ get_or-append-add (take (p - 1) l) (drop p l) k d ∙ get_or-drop p l k d ∙ ap (λ j. get_or l j d) there))

    -- as `copy_within` leaves the list, with a filler stored at its end
    pub copied_out : (n : ℕ) (z d : A) → n ≡ length l → set (copy_within l p n (p - 1)) (n - 1) z ≡ take (p - 1) l ++ (drop p l ++ (z ∷ []))
    copied_out n z d is =
        let m = take (p - 1) l ++ drop p l in
        let whole : take (n - p) (drop p l) ≡ drop p l = take_all (n - p) (drop p l) (omega (arith, length-drop p l)) in
        let here : p - 1 + (n - p) ≡ n - 1 = omega arith in
        let next : n - 1 + 1 ≡ n = omega arith in
        let last : drop (n - 1) l ≡ get_or l (n - 1) d ∷ [] = drop_next l (n - 1) d (omega arith) ∙ ap (get_or l (n - 1) d ∷◌) (drop_of_length-le l {i = n - 1 + 1} (omega arith)) in
        let end : n - 1 ≡ length m = omega (arith, length_out) in
        (λ j. set (take (p - 1) l ++ whole j ++ (ap (λ i. drop i l) here ∙ last) j) (end j) z)
        ∙ set-append_seam m (get_or l (n - 1) d) [] z ∙ append_assoc (take (p - 1) l) (drop p l) (z ∷ [])

    -- with a filler more behind them, the list is stored as before
    pub padded_out : (n : ℕ) (z : A) → length l ≤ n
        → take (p - 1) (pad_to n z l) ++ (drop p (pad_to n z l) ++ (z ∷ [])) ≡ pad_to n z (take (p - 1) l ++ drop p l)
    padded_out n z few =
        let k = n - length l in
        let more : k + 1 ≡ n - length (take (p - 1) l ++ drop p l) = omega (arith, length_out) in
        let fill : replicate k z ++ (z ∷ []) ≡ replicate (n - length (take (p - 1) l ++ drop p l)) z =
        replicate-append-replicate k 1 z ∙ ap (λ j. replicate j z) more in
        (λ j. take-append-le (p - 1) l (replicate k z) (omega arith) j ++ (drop-append-le p l (replicate k z) within j ++ (z ∷ [])))
        ∙ ap (take (p - 1) l ++◌) (append_assoc (drop p l) (replicate k z) (z ∷ []) ∙ ap (drop p l ++◌) fill)
        ∙ sym (append_assoc (take (p - 1) l) (drop p l) (replicate (n - length (take (p - 1) l ++ drop p l)) z))

  -- a list written behind it
  pub padded_joined : (n : ℕ) (z : A) (l m : List A)
      → take (length l) (pad_to n z l) ++ (m ++ drop (length l + length m) (pad_to n z l)) ≡ pad_to n z (l ++ m)
  padded_joined n z l m =
      let k = n - length l in
      let less : k - length m ≡ n - length (l ++ m) = omega (arith, length-append l m) in
      let rest : drop (length l + length m) (pad_to n z l) ≡ replicate (n - length (l ++ m)) z =
      drop-append-add l (replicate k z) (length m) ∙ drop_replicate (length m) k z ∙ ap (λ j. replicate j z) less in
      (λ j. take_padded n z l j ++ (m ++ rest j)) ∙ sym (append_assoc l m (replicate (n - length (l ++ m)) z))
