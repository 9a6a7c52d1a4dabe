-- The waiting set of a panel query, bit by bit.
use mathlib.Core.Path.{◌≡◌, refl, ap, ◌∙◌}
use mathlib.Core.Bool.{Bool, true, false}
use mir.Val.{bool_byte}
use Prim.Native.Nat.{ℕ, ◌+◌, ◌*◌, ◌%◌, ◌^◌, ◌≤◌, ◌<◌}
use native.Mathlib.Nat.{one-mul, zero-mul}
use native.Mathlib.Numerals.{add-one}
use native.Mathlib.Omega.{arith}
use lib.Pow.{pow_mono}
use Rattle.std.specs.Int.Bits.{bit_or, or_shifted_r}
use Rattle.lists.specs.Lists.{bit}
use Rattle.lists.proofs.Tests.{cases}
use Rattle.rules.specs.Events.{bits_below}
use Rattle.kernel.proofs.Events.{bits_small}

flag : (b : Bool) → bool_byte b ≡ bit b
flag true = refl
flag false = refl

next : (n : ℕ) (f : ℕ → Bool) → bit (f n) * 2 ^ n + bits_below n f ≡ bits_below (n + 1) f
next n f = rw (add-one n) (unfold bits_below in omega arith)

one_bit : (n : ℕ) (f : ℕ → Bool) → bit (f n) * 2 ^ n ≤ 2 ^ n
one_bit n f = cases (f n) (λ e. rw (e, one-mul (2 ^ n)) (omega arith)) (λ e. rw (e, zero-mul (2 ^ n)) (omega arith))

-- a bit more, of a flag as a byte
pub bit_set : (n : ℕ) (f : ℕ → Bool) {bits x : ℕ} → n < 8 → bits ≡ bits_below n f → x ≡ bool_byte (f n) → bit_or bits (x * 2 ^ n % 256) ≡ bits_below (n + 1) f
bit_set n f {x = x} low before is =
    let small : 2 ^ n ≤ 2 ^ 7 = pow_mono {j = 7} (omega arith) in
    let whole : bit (f n) * 2 ^ n % 256 ≡ bit (f n) * 2 ^ n = omega (arith, one_bit n f) in
    ap (λ k. bit_or k (x * 2 ^ n % 256)) before ∙ ap (λ k. bit_or (bits_below n f) (k * 2 ^ n % 256)) (is ∙ flag (f n))
    ∙ rw whole (or_shifted_r (bit (f n)) n (bits_below n f) (bits_small n f) ∙ next n f)
