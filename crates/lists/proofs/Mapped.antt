-- What a closure that changes no capture made of each element of an array, and of each index.
use mathlib.Core.Path.{◌≡◌, subst}
use mathlib.Core.List.{List}
use Prim.Native.Nat.{ℕ, zero, suc, ◌+◌, ◌≤◌, ◌<◌}
use native.Mathlib.Omega.{arith}
use denote.Param.Members.{Mut, Called}
use lib.Dec.{eqb}
use lib.ListN.{get_or}
use borrow.Author.Tests.{eqb-true, eqb-false}
use Rattle.std.specs.Array.{IsMapOf, MapsFrom, IsFromFnResult, IsFromFnResultFrom}
use Rattle.lists.proofs.Tests.{cases}

module _ {F A B : Type 0} (g : Mut F (A × Unit {0}) B) (f : F) (h : A → B) (one : (x : A) (y : B) (q : F) → Called g f (x, tt) y q → (y ≡ h x) × (q ≡ f)) where
  mapped_from : (xs : List A) (ys : List B) (i n : ℕ) → MapsFrom g f xs ys i n → (k : ℕ) → i ≤ k → k < i + n → (d : A) (e : B) → get_or ys k e ≡ h (get_or xs k d)
  mapped_from xs ys i zero m k low high d e = absurd (omega arith)
  mapped_from xs ys i (suc n) (q, x, y, at, there, call, rest) k low high d e =
      let one_is = one x y q call in
      cases (eqb k i)
      (λ t. let here = eqb-true k i t in
      rw (here, there.1 e, at.1 d) one_is.0)
      (λ t. let later : i + 1 ≤ k = omega (arith, eqb-false k i t) in
      mapped_from xs ys (i + 1) n (subst (λ p. MapsFrom g p xs ys (i + 1) n) one_is.1 rest) k later (omega arith) d e)

  pub mapped : (xs : List A) (ys : List B) (n : ℕ) → IsMapOf g f xs ys n → (k : ℕ) → k < n → (d : A) (e : B) → get_or ys k e ≡ h (get_or xs k d)
  mapped xs ys n m k low d e = mapped_from xs ys 0 n m.each k (omega arith) (omega arith) d e

module _ {F B : Type 0} (g : Mut F (ℕ × Unit {0}) B) (f : F) (h : ℕ → B) (one : (i : ℕ) (y : B) (q : F) → Called g f (i, tt) y q → (y ≡ h i) × (q ≡ f)) where
  made_from : (ys : List B) (i n : ℕ) → IsFromFnResultFrom g f ys i n → (k : ℕ) → i ≤ k → k < i + n → (e : B) → get_or ys k e ≡ h k
  made_from ys i zero m k low high e = absurd (omega arith)
  made_from ys i (suc n) (q, y, there, call, rest) k low high e =
      let one_is = one i y q call in
      cases (eqb k i)
      (λ t. rw (eqb-true k i t, there.1 e) one_is.0)
      (λ t. let later : i + 1 ≤ k = omega (arith, eqb-false k i t) in
      made_from ys (i + 1) n (subst (λ p. IsFromFnResultFrom g p ys (i + 1) n) one_is.1 rest) k later (omega arith) e)

  pub made : (ys : List B) (n : ℕ) → IsFromFnResult g f ys n → (k : ℕ) → k < n → (e : B) → get_or ys k e ≡ h k
  made ys n m k low e = made_from ys 0 n m.each k (omega arith) (omega arith) e
