-- The line of a number with a sign, by its size and whether it is below 0.
use mathlib.Core.Path.{◌≡◌, refl}
use mathlib.Core.Bool.{true, false, cond}
use native.Mathlib.Omega.{arith}
use lib.IntN.{ℤ, pos, negsuc, nat_abs}
use lib.Signed.{lt_z}
use lib.Dec.{eqb}
use borrow.Author.Tests.{ltb-true}
use Rattle.rules.specs.Answers.{asleep_number}
use Rattle.text.specs.Text.{asleep_line, count_line, refusal_line, host_line}

pub below : (z : ℤ) → lt_z z (pos 0) ≡ true → refusal_line (nat_abs z) ≡ host_line z
unfolding host_line
below (pos n) h = absurd (omega (arith, ltb-true n 0 h))
below (negsuc n) h = refl

pub above : (z : ℤ) → lt_z z (pos 0) ≡ false → cond (eqb (nat_abs z) asleep_number) asleep_line (count_line (nat_abs z)) ≡ host_line z
unfolding host_line
above (pos n) h = refl
above (negsuc n) h = cc
