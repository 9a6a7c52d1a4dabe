-- Laws of update: each element changed by its place.
use mathlib.Core.Path.{◌≡◌, refl, sym, ap}
use mathlib.Core.List.{List, [], ◌∷◌}
use Prim.Native.Nat.{ℕ, suc, zero, ◌<◌}
use native.Mathlib.Omega.{arith}
use lib.ListN.{length, get_or, set}
use Rattle.lists.specs.Lists.{update}

module _ {A : Type 0} where
  pub length_update : (f : ℕ → A → A) (l : List A) → length (update f l) ≡ length l
  length_update f [] = refl
  length_update f (x ∷ xs) = ap suc (length_update (λ i. f (suc i)) xs)

  pub get_d_update : (f : ℕ → A → A) (l : List A) (i : ℕ) (d : A) → i < length l → get_or (update f l) i d ≡ f i (get_or l i d)
  get_d_update f [] i d h = absurd (omega arith)
  get_d_update f (x ∷ xs) zero d h = refl
  get_d_update f (x ∷ xs) (suc i) d h = get_d_update (λ j. f (suc j)) xs i d (omega arith)

  -- where the default is left as it is, no bound is needed
  pub get_d_update_fixed : (f : ℕ → A → A) (l : List A) (i : ℕ) (d : A) → f i d ≡ d → get_or (update f l) i d ≡ f i (get_or l i d)
  get_d_update_fixed f [] i d h = sym h
  get_d_update_fixed f (x ∷ xs) zero d h = refl
  get_d_update_fixed f (x ∷ xs) (suc i) d h = get_d_update_fixed (λ j. f (suc j)) xs i d h

  -- two updates exchanged
  pub update_comm : (f g f' g' : ℕ → A → A) → ((i : ℕ) (x : A) → f i (g i x) ≡ g' i (f' i x))
      → (l : List A) → update f (update g l) ≡ update g' (update f' l)
  update_comm f g f' g' h [] = refl
  update_comm f g f' g' h (x ∷ xs) =
      cc (h zero x, update_comm (λ i. f (suc i)) (λ i. g (suc i)) (λ i. f' (suc i)) (λ i. g' (suc i)) (λ i. h (suc i)) xs)

  -- lists of one length that are updated alike at each place
  pub update_alike : (f : ℕ → A → A) (d : A) (l m : List A) → length l ≡ length m
      → ((i : ℕ) → f i (get_or l i d) ≡ f i (get_or m i d)) → update f l ≡ update f m
  update_alike f d [] [] n h = refl
  update_alike f d [] (y ∷ ys) n h = absurd (omega arith)
  update_alike f d (x ∷ xs) [] n h = absurd (omega arith)
  update_alike f d (x ∷ xs) (y ∷ ys) n h =
      cc (h zero, update_alike (λ i. f (suc i)) d xs ys (omega arith) (λ i. h (suc i)))

  pub update_id : (f : ℕ → A → A) → ((i : ℕ) (x : A) → f i x ≡ x) → (l : List A) → update f l ≡ l
  update_id f h [] = refl
  update_id f h (x ∷ xs) = cc (h zero x, update_id (λ i. f (suc i)) (λ i. h (suc i)) xs)

  -- an element that the update leaves, stored before or after it
  pub update_set : (f : ℕ → A → A) (l : List A) (i : ℕ) (v : A) → f i v ≡ v → update f (set l i v) ≡ set (update f l) i v
  update_set f [] i v h = refl
  update_set f (x ∷ xs) zero v h = cc
  update_set f (x ∷ xs) (suc i) v h = cc (update_set (λ j. f (suc j)) xs i v h)

  -- a place whose element the update forgets
  pub update_set_forgotten : (f : ℕ → A → A) (l : List A) (i : ℕ) (v : A) → ((x : A) → f i v ≡ f i x) → update f (set l i v) ≡ update f l
  update_set_forgotten f [] i v h = refl
  update_set_forgotten f (x ∷ xs) zero v h = cc (h x)
  update_set_forgotten f (x ∷ xs) (suc i) v h = cc (update_set_forgotten (λ j. f (suc j)) xs i v h)
