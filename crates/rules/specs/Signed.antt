-- Request (ii): signed numbers in fields of so many bits.
use Rattle.std.specs.Prelude.{Bool, false, cond, ℕ, suc, ◌+◌, ◌-◌, ◌%◌, ◌^◌, ◌<◌, eqb, leb, ℤ, pos, negsuc}
use Rattle.std.proofs.Math.IntN.{sub_ℕ}
use Rattle.std.specs.Int.Signed.{mag}

-- "a field of 2048 or more", of a field of 12 bits: its top bit is set
abbrev pub negative : ℕ → ℕ → Bool
negative bits x = leb (2 ^ (bits - 1)) x

-- What a field of so many bits stands for: "a field of 2048 or more standing for itself less 4096".
unfoldable pub signed : ℕ → ℕ → ℤ
signed bits x = cond (negative bits x) (sub_ℕ x (2 ^ bits)) (pos x)

-- the numbers that such a field stands for, "from -2048 to 2047" (`mag` is n of n and of -(n + 1))
abbrev pub Within : ℕ → ℤ → Type 0
Within bits z = mag z < 2 ^ (bits - 1)

-- "taken modulo 2^32": the number below n that differs from z by a multiple of n
unfoldable pub modulo : ℕ → ℤ → ℕ
modulo n (pos k) = k % n
modulo n (negsuc k) = n - suc (k % n)

-- a field with its top bit turned: in the order of the numbers that fields stand for
abbrev pub turned : ℕ → ℕ → ℕ
turned bits x = (x + 2 ^ (bits - 1)) % 2 ^ bits

abbrev pub eq_z : ℤ → ℤ → Bool
eq_z (pos a) (pos b) = eqb a b
eq_z (pos a) (negsuc b) = false
eq_z (negsuc a) (pos b) = false
eq_z (negsuc a) (negsuc b) = eqb a b
