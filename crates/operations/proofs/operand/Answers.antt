use Rattle.std.proofs.Common.{◌≡◌, ◌*◌, ◌%◌, ◌^◌, ◌<◌, ℤ, ap, ◌∙◌, mod-eq_of_lt, one-mul, arith, le-leb}
use lib.Pow.{pow-lt}
use Rattle.tables.specs.Sizes.{word_bits, word_limit}
use Rattle.rules.specs.Signed.{modulo}
use Rattle.rules.specs.WakeOp.{op_field, op_arg, operand}
use Rattle.rules.proofs.WakeOp.{shift_of_word}
use Rattle.operations.proofs.operand.Goals as goal

-- a power below the word's limit
power : (z : ℤ) → 1 * 2 ^ (modulo word_limit z % word_bits) % word_limit ≡ 2 ^ modulo word_bits z
power z =
    let h : modulo word_limit z % word_bits < word_bits = omega arith in
    rw (one-mul (2 ^ (modulo word_limit z % word_bits))) (mod-eq_of_lt (pow-lt h) ∙ ap (2 ^◌) (shift_of_word z))

pub returns-then-op_field-ge-OPARG_SHIFT : goal.returns-then-op_field-ge-OPARG_SHIFT
unfolding operand
returns-then-op_field-ge-OPARG_SHIFT c =
    rw (le-leb 8 (op_field c.args.v) (rw c.op_field.ensures at c.if-op_field-ge-OPARG_SHIFT.true), c.op_arg-arg.ensures) (power (op_arg c.args.v))
