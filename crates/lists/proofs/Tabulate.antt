-- Laws of `tabulate`.
use mathlib.Core.Path.{◌≡◌, refl, sym, ap, ◌∙◌}
use mathlib.Core.Bool.{Bool, ◌&&◌}
use mathlib.Core.List.{List, [], ◌∷◌, ◌++◌}
use Prim.Native.Nat.{ℕ, zero, suc, ◌+◌, ◌≤◌, ◌<◌}
use native.Mathlib.Omega.{arith}
use lib.ListN.{length, take, drop, get_or, length-drop}
use lib.Seq.{get_or-take, get_or-drop, ext_get_or, length-take-le}
use Rattle.lists.specs.Lists.{all, every_below, tabulate}
use Rattle.lists.proofs.Loops.{all_snoc}

module _ {A : Type 0} where
  pub length_tabulate : (n : ℕ) (f : ℕ → A) → length (tabulate n f) ≡ n
  length_tabulate zero f = refl
  length_tabulate (suc n) f = ap suc (length_tabulate n (λ i. f (suc i)))

  pub get_d_tabulate : (n : ℕ) (f : ℕ → A) (i : ℕ) (d : A) → i < n → get_or (tabulate n f) i d ≡ f i
  get_d_tabulate zero f i d h = absurd (omega arith)
  get_d_tabulate (suc n) f zero d h = refl
  get_d_tabulate (suc n) f (suc i) d h = get_d_tabulate n (λ j. f (suc j)) i d (omega arith)

  -- one element more
  pub tabulate_next : (n : ℕ) (f : ℕ → A) → tabulate (suc n) f ≡ tabulate n f ++ (f n ∷ [])
  tabulate_next zero f = refl
  tabulate_next (suc n) f = ap (λ l. f zero ∷ l) (tabulate_next n (λ i. f (suc i)))

  pub all_tabulate : (q : A → Bool) (n : ℕ) (f : ℕ → A) → all q (tabulate n f) ≡ every_below n (λ i. q (f i))
  unfolding every_below
  all_tabulate q zero f = refl
  all_tabulate q (suc n) f = ap (all q) (tabulate_next n f) ∙ all_snoc q (tabulate n f) (f n) ∙ ap (λ b. b && q (f n)) (all_tabulate q n f)

  pub tabulate_get_d : (l : List A) (d : A) → l ≡ tabulate (length l) (λ i. get_or l i d)
  tabulate_get_d [] d = refl
  tabulate_get_d (x ∷ xs) d = ap (x ∷◌) (tabulate_get_d xs d)

  -- a test of every element is one of every place
  pub all_below : (f : A → Bool) (l : List A) (d : A) → all f l ≡ every_below (length l) (λ i. f (get_or l i d))
  all_below f l d = ap (all f) (tabulate_get_d l d) ∙ all_tabulate f (length l) (λ i. get_or l i d)

-- a part of a table
pub tabulate_part : (n from m : ℕ) (f : ℕ → ℕ) → from + m ≤ n → tabulate m (λ k. f (from + k)) ≡ take m (drop from (tabulate n f))
tabulate_part n from m f h = ext_get_or 0 (tabulate m (λ k. f (from + k))) (take m (drop from (tabulate n f)))
    (length_tabulate m (λ k. f (from + k)) ∙ sym size)
    (λ i l.
    let low : i < m = omega (arith, length_tabulate m (λ k. f (from + k))) in
    get_d_tabulate m (λ k. f (from + k)) i 0 low
    ∙ sym (get_or-take m (drop from (tabulate n f)) i 0 low ∙ get_or-drop from (tabulate n f) i 0 ∙ get_d_tabulate n f (from + i) 0 (omega arith)))
  where
    size : length (take m (drop from (tabulate n f))) ≡ m
    size = length-take-le m (drop from (tabulate n f)) (omega (arith, length-drop from (tabulate n f), length_tabulate n f))

pub tabulate_first : (n m : ℕ) (f : ℕ → ℕ) → m ≤ n → tabulate m f ≡ take m (tabulate n f)
tabulate_first n zero f h = refl
tabulate_first zero (suc m) f h = absurd (omega arith)
tabulate_first (suc n) (suc m) f h = ap (f zero ∷◌) (tabulate_first n m (λ i. f (suc i)) (omega arith))
