-- Stores of several values from a place on.
use mathlib.Core.Path.{◌≡◌, refl, sym, ap, ◌∙◌}
use mathlib.Core.List.{List, [], ◌∷◌, ◌++◌, append_assoc}
use Prim.Native.Nat.{ℕ, suc, ◌+◌, ◌≤◌, ◌<◌}
use native.Mathlib.Omega.{arith}
use native.Mathlib.Nat.{add-zero}
use lib.ListN.{length, take, drop, get_or, set, length-set, drop_of_length-le}
use lib.Seq.{sets, sets-eq, set-append_left, drop-drop}
use borrow.Rule.Slice.PartMut.{put_mid}
use Rattle.lists.proofs.Loops.{drop_next}

pub sets_append : {A : Type 0} (l : List A) (i : ℕ) (vs ws : List A) → sets (sets l i vs) (i + length vs) ws ≡ sets l i (vs ++ ws)
sets_append l i [] ws = rw add-zero
sets_append l i (v ∷ vs) ws =
    let e : i + suc (length vs) ≡ suc i + length vs = omega arith in
    rw e (sets_append (set l i v) (suc i) vs ws)

-- stores that are made, and those that are left
pub sets_on : {A : Type 0} (x y vs rest : List A) (k n : ℕ) → y ≡ sets x k vs → length vs ≡ n → sets x k (vs ++ rest) ≡ sets y (k + n) rest
sets_on x y vs rest k n e d = sym (sets_append x k vs rest) ∙ rw (d, e)

-- a list joined from two: stores in the one, or in the other
sets_cons : {A : Type 0} (x : A) (xs : List A) (i : ℕ) (vs : List A) → sets (x ∷ xs) (suc i) vs ≡ x ∷ sets xs i vs
sets_cons x xs i [] = refl
sets_cons x xs i (v ∷ vs) = sets_cons x (set xs i v) (suc i) vs

pub sets_left : {A : Type 0} (xs ys : List A) (i : ℕ) (vs : List A) → i + length vs ≤ length xs → sets (xs ++ ys) i vs ≡ sets xs i vs ++ ys
sets_left xs ys i [] h = refl
sets_left xs ys i (v ∷ vs) h =
    ap (λ l. sets l (suc i) vs) (set-append_left xs ys i v (omega arith)) ∙ sets_left (set xs i v) ys (suc i) vs (rw length-set (omega arith))

pub sets_right : {A : Type 0} (xs ys : List A) (i : ℕ) (vs : List A) → sets (xs ++ ys) (length xs + i) vs ≡ xs ++ sets ys i vs
sets_right [] ys i vs = let e : 0 + i ≡ i = omega arith in rw e
sets_right (x ∷ xs) ys i vs =
    let e : suc (length xs) + i ≡ suc (length xs + i) = omega arith in
    rw e (sets_cons x (xs ++ ys) (length xs + i) vs ∙ ap (λ l. x ∷ l) (sets_right xs ys i vs))

-- every value of a list stored over
pub sets_all : {A : Type 0} (xs vs : List A) → length xs ≡ length vs → sets xs 0 vs ≡ vs
sets_all [] [] h = refl
sets_all [] (v ∷ vs) h = absurd (omega arith)
sets_all (x ∷ xs) [] h = absurd (omega arith)
sets_all (x ∷ xs) (v ∷ vs) h = sets_cons v xs 0 vs ∙ ap (λ l. v ∷ l) (sets_all xs vs (omega arith))

-- values copied over a part of a list, as the library puts the part back
pub sets_copied : {A : Type 0} (l vs part : List A) (k m : ℕ) → part ≡ vs → m ≡ length vs → k + length vs ≤ length l → put_mid k m l part ≡ sets l k vs
sets_copied l vs part k m copied all room =
    rw (copied, all, drop-drop (length vs) k l) (sym (append_assoc (take k l) vs (drop (k + length vs) l)))
    ∙ sym (sets-eq vs l k room)

-- A loop that stores the values of a list from the place k on has stored i.
module _ {A : Type 0} (b₀ vs : List A) (k : ℕ) where
  pub record Storing (b : List A) (i : ℕ) : Type 0 where
    pub within : i ≤ length vs
    pub long : length b ≡ length b₀
    pub done : sets b₀ k vs ≡ sets b (k + i) (drop i vs)

  pub storing_start : Storing b₀ 0
  storing_start = record { within = omega arith; long = refl; done = rw add-zero }

  pub storing_next : (b : List A) (i : ℕ) (v d : A) → Storing b i → i < length vs → v ≡ get_or vs i d → Storing (set b (k + i) v) (i + 1)
  storing_next b i v d g more is =
      let here : suc (k + i) ≡ k + (i + 1) = omega arith in
      record {
        within = omega arith;
        long = length-set b (k + i) v ∙ g.long;
        done = g.done ∙ ap (sets b (k + i)) (drop_next vs i d more) ∙ (λ j. sets (set b (k + i) (sym is j)) (here j) (drop (i + 1) vs));
      }

  pub storing_all : (b : List A) (i : ℕ) → Storing b i → length vs ≤ i → b ≡ sets b₀ k vs
  storing_all b i g end = sym (g.done ∙ ap (sets b (k + i)) (drop_of_length-le vs {i = i} end))
