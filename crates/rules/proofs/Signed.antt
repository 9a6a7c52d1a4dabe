-- Signed numbers in fields of so many bits: which number a field stands for, that their order is that of the fields with the top bit turned, and
-- sums of them in a word.
use mathlib.Core.Path.{◌≡◌, refl, sym, ap, subst, ◌∙◌}
use mathlib.Core.Bool.{true, false, not, ◌&&◌, and_comm}
use mathlib.Core.Logic.{◌↔◌}
use Prim.Native.Nat.{ℕ, zero, suc, ◌+◌, ◌-◌, ◌%◌, ◌^◌, ◌≤◌, ◌<◌}
use native.Mathlib.Nat.{mod-eq_of_lt, mod-lt, mod-eq-sub-mod}
use native.Mathlib.Omega.{arith}
use lib.Dec.{eqb, leb, ltb}
use lib.IntN.{ℤ, pos, negsuc, ◌+ℤ◌}
use lib.Signed.{lt_z}
use mir.Syntax.{w32}
use mir.Val.{to_z}
use borrow.Author.Tests.{leb-true, leb-false, le-leb, lt-leb, ltb-true, ltb-false, lt-ltb, le-ltb, eqb-true}
use Rattle.lists.proofs.Tests.{cases, clash, eqb_refl, lt_same, eqb_ordered}
use Rattle.tables.specs.Sizes.{word_bits, word_limit}
use Rattle.rules.specs.Signed.{signed, Within, modulo, turned, eq_z}

eq_z_ordered : (y z : ℤ) → eq_z y z ≡ (not (lt_z y z) && not (lt_z z y))
eq_z_ordered (pos a) (pos b) = eqb_ordered a b
eq_z_ordered (pos a) (negsuc b) = refl
eq_z_ordered (negsuc a) (pos b) = refl
eq_z_ordered (negsuc a) (negsuc b) = eqb_ordered a b ∙ and_comm (not (ltb a b)) (not (ltb b a))

pub eq_z_true : (y z : ℤ) → eq_z y z ≡ true → y ≡ z
eq_z_true (pos a) (pos b) e = ap pos (eqb-true a b e)
eq_z_true (pos a) (negsuc b) e = clash false e refl
eq_z_true (negsuc a) (pos b) e = clash false e refl
eq_z_true (negsuc a) (negsuc b) e = ap negsuc (eqb-true a b e)

eq_z_refl : (z : ℤ) → eq_z z z ≡ true
eq_z_refl (pos a) = eqb_refl a
eq_z_refl (negsuc a) = eqb_refl a

pub eq_eq_z : (y z : ℤ) → y ≡ z → eq_z y z ≡ true
eq_eq_z y z e = subst (λ x. eq_z y x ≡ true) e (eq_z_refl y)

halves : (bits : ℕ) → 0 < bits → 2 ^ bits ≡ 2 ^ (bits - 1) + 2 ^ (bits - 1)
halves zero h = absurd (omega arith)
halves (suc n) h = let e : suc n - 1 ≡ n = omega arith in rw e (omega arith)

pub modulo_low : (n : ℕ) (z : ℤ) → 0 < n → modulo n z < n
unfolding modulo
modulo_low n (pos k) h = mod-lt k h
modulo_low n (negsuc k) h = omega arith

module _ (bits : ℕ) (some : 0 < bits) where
  signed_low : (x : ℕ) → x < 2 ^ (bits - 1) → signed bits x ≡ pos x
  unfolding signed
  signed_low x h = rw (lt-leb (2 ^ (bits - 1)) x h)

  signed_high : (x : ℕ) → 2 ^ (bits - 1) ≤ x → x < 2 ^ bits → signed bits x ≡ negsuc (2 ^ bits - suc x)
  unfolding signed
  signed_high x h k = rw (le-leb (2 ^ (bits - 1)) x h, lt-ltb x (2 ^ bits) k)

  turned_low : (x : ℕ) → x < 2 ^ (bits - 1) → turned bits x ≡ x + 2 ^ (bits - 1)
  turned_low x h = let d = halves bits some in mod-eq_of_lt (omega arith)

  turned_high : (x : ℕ) → 2 ^ (bits - 1) ≤ x → x < 2 ^ bits → turned bits x ≡ x - 2 ^ (bits - 1)
  turned_high x h k = let d = halves bits some in
      mod-eq-sub-mod {n = x + 2 ^ (bits - 1)} {m = 2 ^ bits} (omega arith)
      ∙ (let e : x + 2 ^ (bits - 1) - 2 ^ bits ≡ x - 2 ^ (bits - 1) = omega arith in rw e (mod-eq_of_lt (omega arith)))

  -- a field, by whether its top bit is set
  by_sign {ℓ} : {P : Type ℓ} (x : ℕ) → (x < 2 ^ (bits - 1) → P) → (2 ^ (bits - 1) ≤ x → P) → P
  by_sign x low high = cases (leb (2 ^ (bits - 1)) x) (λ e. high (leb-true _ x e)) (λ e. low (leb-false _ x e))

  pub signed_within : (x : ℕ) → x < 2 ^ bits → Within bits (signed bits x)
  signed_within x k = by_sign x (λ h. rw (signed_low x h) h) (λ h. let d = halves bits some in rw (signed_high x h k) (omega arith))

  pub signed_back : (x : ℕ) → x < 2 ^ bits → modulo (2 ^ bits) (signed bits x) ≡ x
  unfolding modulo
  signed_back x k = by_sign x
      (λ h. rw (signed_low x h) (mod-eq_of_lt k))
      (λ h. let m : 2 ^ bits - suc x < 2 ^ bits = omega arith in rw (signed_high x h k, mod-eq_of_lt m) (omega arith))

  pub signed_of : (z : ℤ) → Within bits z → signed bits (modulo (2 ^ bits) z) ≡ z
  unfolding modulo
  signed_of (pos k) h =
      let d = halves bits some in
      let m : k < 2 ^ bits = omega arith in
      rw (mod-eq_of_lt m) (signed_low k h)
  signed_of (negsuc k) h =
      let d = halves bits some in
      let m : k < 2 ^ bits = omega arith in
      rw (mod-eq_of_lt m) (signed_high (2 ^ bits - suc k) (omega arith) (omega arith) ∙ ap negsuc (omega arith))

  pub signed_exactly : (x : ℕ) (z : ℤ) → x < 2 ^ bits → (signed bits x ≡ z) ↔ (Within bits z × (modulo (2 ^ bits) z ≡ x))
  signed_exactly x z k = (
    (λ e. (subst (Within bits) e (signed_within x k), subst (λ y. modulo (2 ^ bits) y ≡ x) e (signed_back x k))),
    (λ h. ap (signed bits) (sym h.1) ∙ signed_of z h.0),
  )

  -- the order is that of the fields with the top bit turned
  pub below_turned : (x y : ℕ) → x < 2 ^ bits → y < 2 ^ bits → lt_z (signed bits x) (signed bits y) ≡ ltb (turned bits x) (turned bits y)
  below_turned x y kx ky =
      let h = 2 ^ (bits - 1) in
      let n = 2 ^ bits in
      let d = halves bits some in
      by_sign x
      (λ lx. by_sign y
      (λ ly. rw (signed_low x lx, signed_low y ly, turned_low x lx, turned_low y ly) (lt_same x y (x + h) (y + h) (λ l. omega arith) (λ l. omega arith)))
      (λ ly. rw (signed_low x lx, signed_high y ly ky, turned_low x lx, turned_high y ly ky) (sym (le-ltb (x + h) (y - h) (omega arith)))))
      (λ lx. by_sign y
      (λ ly. rw (signed_high x lx kx, signed_low y ly, turned_high x lx kx, turned_low y ly) (sym (lt-ltb (x - h) (y + h) (omega arith))))
      (λ ly. rw (signed_high x lx kx, signed_high y ly ky, turned_high x lx kx, turned_high y ly ky)
      (lt_same (n - suc y) (n - suc x) (x - h) (y - h) (λ l. omega arith) (λ l. omega arith))))

  pub same_turned : (x y : ℕ) → x < 2 ^ bits → y < 2 ^ bits → eq_z (signed bits x) (signed bits y) ≡ eqb (turned bits x) (turned bits y)
  same_turned x y kx ky =
      eq_z_ordered (signed bits x) (signed bits y)
      ∙ rw (below_turned x y kx ky, below_turned y x ky kx) (sym (eqb_ordered (turned bits x) (turned bits y)))

-- a word is read as the library reads its bits
pub signed_word : (x : ℕ) → x < word_limit → signed word_bits x ≡ to_z w32 x
signed_word x k = by_sign word_bits (omega arith) x
    (λ h. rw (signed_low word_bits (omega arith) x h, lt-ltb x (2 ^ (word_bits - 1)) h))
    (λ h. rw (signed_high word_bits (omega arith) x h k, le-ltb x (2 ^ (word_bits - 1)) h))

-- "modulo 2^32" goes through a sum
pub sum_modulo : (y z : ℤ) → (modulo word_limit y + modulo word_limit z) % word_limit ≡ modulo word_limit (y +ℤ z)
unfolding modulo
sum_modulo (pos a) (pos b) = omega arith
sum_modulo (pos a) (negsuc b) = cases (ltb a (suc b))
    (λ e. let h = ltb-true a (suc b) e in rw e (omega arith))
    (λ e. let h = ltb-false a (suc b) e in rw e (omega arith))
sum_modulo (negsuc a) (pos b) = cases (ltb b (suc a))
    (λ e. let h = ltb-true b (suc a) e in rw e (omega arith))
    (λ e. let h = ltb-false b (suc a) e in rw e (omega arith))
sum_modulo (negsuc a) (negsuc b) = omega arith
