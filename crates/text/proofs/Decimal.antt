-- What io::decimal leaves is a number's text: the fewest digits are one number.
use mathlib.Core.Path.{◌≡◌, refl, ap, sym, ◌∙◌}
use mathlib.Core.Bool.{true}
use mathlib.Core.List.{List, [], ◌∷◌, ◌++◌}
use Prim.Native.Nat.{ℕ, zero, suc, ◌+◌, ◌-◌, ◌*◌, ◌/◌, ◌%◌, ◌^◌, ◌≤◌, ◌<◌}
use native.Mathlib.Omega.{arith}
use native.Mathlib.Nat.{pow-succ', pow-le-pow_right}
use lib.ListN.{length, length-append}
use lib.Dec.{leb, ltb}
use borrow.Author.Tests.{ltb-true, ltb-false, lt-ltb, le-leb}
use Rattle.io.specs.Digits.{hex_digit_ascii, last_digits, IsDigitCount}
use Rattle.tables.specs.Sizes.{word_limit}
use Rattle.lists.specs.Lists.{all}
use Rattle.lists.proofs.Tests.{cases}
use Rattle.lists.proofs.Filter.{all_append}
use Rattle.text.specs.Text.{places_for, most_digits, word_digits, decimal, value_from, is_digit}

pow_up : (i j : ℕ) → i ≤ j → 10 ^ i ≤ 10 ^ j
pow_up i j h = pow-le-pow_right {n = 10} (omega arith) h

not_more : (n j k : ℕ) → IsDigitCount 10 1 n j → IsDigitCount 10 1 n k → k < j → ⊥
not_more n j k a b h =
    let u = a.2 (omega (arith, b.0)) in
    let v = pow_up k (j - 1) (omega arith) in
    omega (arith, b.1)

fewest_one : (n j k : ℕ) → IsDigitCount 10 1 n j → IsDigitCount 10 1 n k → j ≡ k
fewest_one n j k a b = let u = not_more n j k a b in let v = not_more n k j b a in omega arith

pub places_fewest : (f n : ℕ) → n < 10 ^ (f + 1) → IsDigitCount 10 1 n (places_for f n)
places_fewest zero n h = (omega arith, h, λ p. absurd (omega arith))
places_fewest (suc f) n h =
    cases (ltb n 10)
    (λ e. let u = ltb-true n 10 e in rw e ((omega arith, omega arith, λ p. absurd (omega arith))))
    (λ e.
    let u = ltb-false n 10 e in
    let w : suc f + 1 ≡ suc (f + 1) = omega arith in
    let g : n < 10 * 10 ^ (f + 1) = rw (w, pow-succ') at h in
    let p = places_for f (n / 10) in
    let ih = places_fewest f (n / 10) (omega arith) in
    let a : suc p - 1 ≡ p = omega arith in
    let b : 10 ^ p ≤ n =
    cases (ltb 1 p)
    (λ q. let r = ih.2 (ltb-true 1 p q) in
    let t : p ≡ suc (p - 1) = omega (arith, ltb-true 1 p q) in
    let s : 10 ^ p ≡ 10 * 10 ^ (p - 1) = ap (λ (x : ℕ). 10 ^ x) t ∙ pow-succ' 10 (p - 1) in
    omega arith)
    (λ q. let r = ltb-false 1 p q in let t : p ≡ 1 = omega (arith, ih.0) in rw t (omega arith)) in
    rw e ((omega arith, rw pow-succ' (omega (arith, ih.1)), λ x. rw a b)))

pub length_digits : (k n : ℕ) → length (last_digits 10 k n) ≡ k
length_digits zero n = refl
length_digits (suc k) n = rw (length-append, length_digits k (n / 10)) (omega arith)

-- the digits of a number stand for it
value_then : (n d : ℕ) (xs : List ℕ) → value_from n (xs ++ (d ∷ [])) ≡ 10 * value_from n xs + (d - 48)
value_then n d [] = refl
value_then n d (x ∷ xs) = value_then (10 * n + (x - 48)) d xs

glyph_digit : (d : ℕ) → d < 10 → hex_digit_ascii d ≡ 48 + d
glyph_digit d h = rw (lt-ltb d 10 h)

pub digits_value : (k n : ℕ) → n < 10 ^ k → value_from 0 (last_digits 10 k n) ≡ n
digits_value zero n h = omega arith
digits_value (suc k) n h =
    let g : n < 10 * 10 ^ k = rw pow-succ' at h in
    let ih = digits_value k (n / 10) (omega arith) in
    let e = glyph_digit (n % 10) (omega arith) in
    value_then 0 (hex_digit_ascii (n % 10)) (last_digits 10 k (n / 10)) ∙ omega (arith, ih, e)

pub digits_digits : (k n : ℕ) → all is_digit (last_digits 10 k n) ≡ true
digits_digits zero n = refl
digits_digits (suc k) n =
    let e = glyph_digit (n % 10) (omega arith) in
    let low : leb 48 (hex_digit_ascii (n % 10)) ≡ true = le-leb 48 (hex_digit_ascii (n % 10)) (omega (arith, e)) in
    let high : leb (hex_digit_ascii (n % 10)) 57 ≡ true = le-leb (hex_digit_ascii (n % 10)) 57 (omega (arith, e)) in
    all_append is_digit (last_digits 10 k (n / 10)) (hex_digit_ascii (n % 10) ∷ []) (digits_digits k (n / 10)) (rw (low, high))

-- what io::decimal leaves is the number's text
pub decimal_is : (n r : ℕ) → n < word_limit → IsDigitCount 10 1 n r → (last_digits 10 r n ≡ decimal n) × (r ≡ length (decimal n)) × (r ≤ word_digits)
unfolding decimal
decimal_is n r h f =
    let w = places_fewest (most_digits - 1) n (omega arith) in
    let e : r ≡ places_for (most_digits - 1) n = fewest_one n r (places_for (most_digits - 1) n) f w in
    let few : r ≤ word_digits = cases (ltb word_digits r) (λ q. let a = ltb-true word_digits r q in let b = f.2 (omega arith) in let c = pow_up word_digits (r - 1) (omega arith) in absurd (omega arith)) (λ q. ltb-false word_digits r q) in
    (ap (λ (x : ℕ). last_digits 10 x n) e, e ∙ sym (length_digits (places_for (most_digits - 1) n) n), few)
