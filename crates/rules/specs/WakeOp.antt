-- "WAKE_OP 5": what its val3 stands for, as request (ii) amended it.
use Rattle.std.specs.Prelude.{Bool, not, cond, ◌||◌, ℕ, ◌+◌, ◌-◌, ◌*◌, ◌/◌, ◌%◌, ◌^◌, eqb, leb, ltb, ℤ}
use Rattle.std.specs.Int.Bits.{bit_and, bit_or, bit_xor}
use Rattle.std.specs.Int.Signed.{lt_z}
use Rattle.tables.specs.Sizes.{word_bits, word_limit, match_any}
use Rattle.rules.specs.Signed.{signed, modulo, eq_z}

-- "val3 is, from the top, 4 bits op, 4 cmp, 12 oparg, 12 cmparg"
abbrev pub code_bits : ℕ
code_bits = 4

abbrev pub arg_bits : ℕ
arg_bits = 12

-- where cmp and op begin
abbrev pub cmp_at : ℕ
cmp_at = arg_bits + arg_bits

abbrev pub op_at : ℕ
op_at = cmp_at + code_bits

abbrev pub op_field : ℕ → ℕ
op_field v = v / 2 ^ op_at % 2 ^ code_bits

abbrev pub cmp_field : ℕ → ℕ
cmp_field v = v / 2 ^ cmp_at % 2 ^ code_bits

abbrev pub op_arg_field : ℕ → ℕ
op_arg_field v = v / 2 ^ arg_bits % 2 ^ arg_bits

abbrev pub cmp_arg_field : ℕ → ℕ
cmp_arg_field v = v % 2 ^ arg_bits

-- "the 12-bit oparg and cmparg run from -2048 to 2047"
abbrev pub op_arg : ℕ → ℤ
op_arg v = signed arg_bits (op_arg_field v)

abbrev pub cmp_arg : ℕ → ℤ
cmp_arg v = signed arg_bits (cmp_arg_field v)

-- op's top bit (FUTEX_OP_OPARG_SHIFT)
abbrev pub shift_bit : ℕ
shift_bit = 8

abbrev pub is_power : ℕ → Bool
is_power v = leb shift_bit (op_field v)

-- "Op's low three bits"
abbrev pub op_code : ℕ → ℕ
op_code v = op_field v % shift_bit

-- "5 to 7 undefined", "the rest undefined"
unfoldable pub undefined_op : ℕ → Bool
undefined_op v = ltb 4 (op_code v) || ltb 5 (cmp_field v)

-- "If its top bit is set the operand is 2 to the power (oparg mod 32), else oparg." "A negative operand is taken modulo 2^32 for every operation."
unfoldable pub operand : ℕ → ℕ
operand v = cond (is_power v) (2 ^ modulo word_bits (op_arg v)) (modulo word_limit (op_arg v))

-- "0 set, 1 add, 2 or, 3 and-not, 4 xor", "the new word (modulo 2^32)": an operation by its number, its operand and the old word
unfoldable pub operate : ℕ → ℕ → ℕ → ℕ
operate code x old =
    cond (eqb code 0) x
    (cond (eqb code 1) ((old + x) % word_limit)
    (cond (eqb code 2) (bit_or old x)
    (cond (eqb code 3) (bit_and old (match_any - x))
    (bit_xor old x))))

unfoldable pub new_word : ℕ → ℕ → ℕ
new_word v old = operate (op_code v) (operand v) old

-- "cmp: 0 =, 1 not =, 2 <, 3 <=, 4 >, 5 >=": a comparison by its number, whatever its numbers are and by whichever tests they are equal and below
unfoldable pub compare_by : {A : Type 0} → (A → A → Bool) → (A → A → Bool) → ℕ → A → A → Bool
compare_by same below cmp x y =
    cond (eqb cmp 0) (same x y)
    (cond (eqb cmp 1) (not (same x y))
    (cond (eqb cmp 2) (below x y)
    (cond (eqb cmp 3) (not (below y x))
    (cond (eqb cmp 4) (below y x)
    (not (below x y))))))

-- "the old word is compared as a signed 32-bit number"
unfoldable pub compares : ℕ → ℕ → Bool
compares v old = compare_by eq_z lt_z (cmp_field v) (signed word_bits old) (cmp_arg v)

-- a whole val3 from its four parts, as FUTEX_OP of linux/futex.h makes it
abbrev pub val3_of : ℕ → ℤ → ℕ → ℤ → ℕ
val3_of op oparg cmp cmparg = op * 2 ^ op_at + cmp * 2 ^ cmp_at + modulo (2 ^ arg_bits) oparg * 2 ^ arg_bits + modulo (2 ^ arg_bits) cmparg
