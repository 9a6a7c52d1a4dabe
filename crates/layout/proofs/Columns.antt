-- Columns of bytes: numbers of one width behind each other, and columns behind each other.
use mathlib.Core.Path.{◌≡◌, refl, sym, ap, ◌∙◌}
use mathlib.Core.List.{List, [], ◌∷◌, ◌++◌, map, flatten}
use Prim.Native.Nat.{ℕ, zero, suc, ◌+◌, ◌*◌, ◌≤◌, ◌<◌}
use native.Mathlib.Omega.{arith}
use native.Mathlib.Nat.{mul-zero, mul-suc, zero-add, add-zero, add_assoc}
use lib.ListN.{length, take, drop, get_or, set, length-append, length-drop}
use lib.Seq.{sets, take_at, take_all, take-append-le, drop-append-le, drop-append-add, take-add, drop-drop}
use Rattle.lists.specs.Lists.{tabulate}
use Rattle.lists.specs.LittleEndian.{bytes, Bytes, number_at}
use Rattle.lists.proofs.Stores.{sets_left, sets_right, sets_all}
use Rattle.lists.proofs.LittleEndian.{length_bytes, bytes_drop, bytes_read}
use Rattle.layout.specs.Layout.{column}

-- bytes that are read as a number and written again
pub exact : (b : List ℕ) → Bytes b → (w k : ℕ) → k + w ≤ length b → bytes w (number_at w k b) ≡ take w (drop k b)
exact b h w k fits = bytes_read w (drop k b) (bytes_drop k b h) (rw length-drop (omega arith))

-- numbers of width w behind each other
module _ {A : Type 0} (w : ℕ) (f : A → ℕ) where
  pub length_column : (xs : List A) → length (column w f xs) ≡ w * length xs
  length_column [] = sym (mul-zero w)
  length_column (x ∷ xs) = length-append (bytes w (f x)) (column w f xs) ∙ rw (length_bytes w (f x), length_column xs, mul-suc) (omega arith)

  -- one element changed is one number stored
  pub column_set : (xs : List A) (i : ℕ) (x : A) → i < length xs → column w f (set xs i x) ≡ sets (column w f xs) (w * i) (bytes w (f x))
  column_set [] i x h = absurd (omega arith)
  column_set (y ∷ xs) zero x h =
      sym (ap (λ k. sets (bytes w (f y) ++ column w f xs) k (bytes w (f x))) (mul-zero w)
      ∙ sets_left (bytes w (f y)) (column w f xs) 0 (bytes w (f x)) (rw (length_bytes w (f x), length_bytes w (f y)) (omega arith))
      ∙ ap (λ l. l ++ column w f xs) (sets_all (bytes w (f y)) (bytes w (f x)) (length_bytes w (f y) ∙ sym (length_bytes w (f x)))))
  column_set (y ∷ xs) (suc i) x h =
      let place : w * suc i ≡ length (bytes w (f y)) + w * i = rw (length_bytes w (f y), mul-suc) (omega arith) in
      sym (ap (λ k. sets (bytes w (f y) ++ column w f xs) k (bytes w (f x))) place
      ∙ sets_right (bytes w (f y)) (column w f xs) (w * i) (bytes w (f x))
      ∙ ap (λ l. bytes w (f y) ++ l) (sym (column_set xs i x (omega arith))))

  -- an element changed in another field
  pub column_same : (xs : List A) (i : ℕ) (x d : A) → f x ≡ f (get_or xs i d) → column w f (set xs i x) ≡ column w f xs
  column_same [] i x d e = refl
  column_same (y ∷ xs) zero x d e = ap (λ n. bytes w n ++ column w f xs) e
  column_same (y ∷ xs) (suc i) x d e = ap (λ l. bytes w (f y) ++ l) (column_same xs i x d e)

  -- a number of a column
  pub entry_read : (xs : List A) (i : ℕ) (d : A) → i < length xs → take w (drop (w * i) (column w f xs)) ≡ bytes w (f (get_or xs i d))
  entry_read [] i d h = absurd (omega arith)
  entry_read (x ∷ xs) zero d h = rw mul-zero (take_at (bytes w (f x)) (column w f xs) w (length_bytes w (f x)))
  entry_read (x ∷ xs) (suc i) d h =
      let place : w * suc i ≡ length (bytes w (f x)) + w * i = rw (length_bytes w (f x), mul-suc) (omega arith) in
      rw place (ap (take w) (drop-append-add (bytes w (f x)) (column w f xs) (w * i)) ∙ entry_read xs i d (omega arith))

  -- a column that is read from bytes, number by number, is these bytes
  pub column_tabulate : (n k : ℕ) (g : ℕ → A) (b : List ℕ) → ((i : ℕ) → i < n → bytes w (f (g i)) ≡ take w (drop (k + w * i) b))
      → column w f (tabulate n g) ≡ take (w * n) (drop k b)
  column_tabulate zero k g b h = rw mul-zero
  column_tabulate (suc n) k g b h =
      let here : k + w * 0 ≡ k = rw mul-zero (add-zero k) in
      let first : bytes w (f (g 0)) ≡ take w (drop k b) = h 0 (omega arith) ∙ rw here in
      let rest = column_tabulate n (k + w) (λ i. g (suc i)) b
      (λ i l. h (suc i) (omega arith) ∙ (let e : k + w * suc i ≡ k + w + w * i = rw mul-suc (omega arith) in rw e)) in
      let whole : w * suc n ≡ w + w * n = rw mul-suc (omega arith) in
      (λ i. first i ++ rest i)
      ∙ ap (λ l. take w (drop k b) ++ take (w * n) l) (sym (drop-drop w k b))
      ∙ sym (ap (λ m. take m (drop k b)) whole ∙ take-add w (w * n) (drop k b))

-- columns behind each other: where the j-th begins, by their sizes
abbrev pub before : ℕ → List ℕ → ℕ
before zero ns = 0
before (suc j) [] = 0
before (suc j) (n ∷ ns) = n + before j ns

-- a store in the j-th column
pub put_column : (cs : List (List ℕ)) (j k : ℕ) (vs : List ℕ) → k + length vs ≤ length (get_or cs j [])
    → sets (flatten cs) (before j (map length cs) + k) vs ≡ flatten (set cs j (sets (get_or cs j []) k vs))
unfolding flatten
put_column [] j k [] h = refl
put_column [] j k (v ∷ vs) h = absurd (omega arith)
put_column (c ∷ cs) zero k vs h = rw zero-add (sets_left c (flatten cs) k vs h)
put_column (c ∷ cs) (suc j) k vs h =
    ap (λ n. sets (c ++ flatten cs) n vs) (add_assoc (length c) (before j (map length cs)) k)
    ∙ sets_right c (flatten cs) (before j (map length cs) + k) vs
    ∙ ap (λ l. c ++ l) (put_column cs j k vs h)

-- a part of the j-th column
pub get_column : (cs : List (List ℕ)) (j k w : ℕ) → k + w ≤ length (get_or cs j [])
    → take w (drop (before j (map length cs) + k) (flatten cs)) ≡ take w (drop k (get_or cs j []))
unfolding flatten
get_column [] zero k w h = rw zero-add
get_column [] (suc j) k w h = rw zero-add
get_column (c ∷ cs) zero k w h =
    rw (zero-add, drop-append-le k c (flatten cs) (omega arith)) (take-append-le w (drop k c) (flatten cs) (rw length-drop (omega arith)))
get_column (c ∷ cs) (suc j) k w h =
    ap (λ n. take w (drop n (c ++ flatten cs))) (add_assoc (length c) (before j (map length cs)) k)
    ∙ ap (take w) (drop-append-add c (flatten cs) (before j (map length cs) + k))
    ∙ get_column cs j k w h

-- a whole column, of columns of these sizes
pub column_read : (cs : List (List ℕ)) {ns : List ℕ} → map length cs ≡ ns → (j at w : ℕ) (c : List ℕ) → before j ns ≡ at → get_or cs j [] ≡ c → length c ≡ w
    → take w (drop at (flatten cs)) ≡ c
column_read cs size j at w c place is long =
    let here : at ≡ before j (map length cs) + 0 = sym place ∙ ap (before j) (sym size) ∙ sym (add-zero (before j (map length cs))) in
    ap (λ n. take w (drop n (flatten cs))) here
    ∙ get_column cs j 0 w (omega (arith, ap length is, long))
    ∙ ap (take w) is
    ∙ take_all w c (omega (arith, long))

-- bytes cut into columns
abbrev pub cuts : ℕ → List ℕ → List ℕ → List (List ℕ)
cuts k [] b = []
cuts k (n ∷ ns) b = take n (drop k b) ∷ cuts (k + n) ns b

abbrev pub total : List ℕ → ℕ
total [] = 0
total (n ∷ ns) = n + total ns

pub length_flatten : (cs : List (List ℕ)) → length (flatten cs) ≡ total (map length cs)
unfolding flatten
length_flatten [] = refl
length_flatten (c ∷ cs) = length-append c (flatten cs) ∙ ap (λ n. length c + n) (length_flatten cs)

pub flatten_cuts : (k : ℕ) (ns b : List ℕ) → flatten (cuts k ns b) ≡ take (total ns) (drop k b)
unfolding flatten
flatten_cuts k [] b = refl
flatten_cuts k (n ∷ ns) b =
    ap (λ l. take n (drop k b) ++ l) (flatten_cuts (k + n) ns b ∙ ap (take (total ns)) (sym (drop-drop n k b)))
    ∙ sym (take-add n (total ns) (drop k b))
