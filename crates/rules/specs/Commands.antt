-- "The calls": the commands, what an op stands for, and which arguments each command uses.
use Rattle.std.specs.Prelude.{Bool, true, false, cond, ◌||◌, ℕ, ◌*◌, ◌-◌, ◌/◌, ◌%◌, eqb}
use Rattle.rules.specs.declared.event.Command.{Command}
use Rattle.rules.specs.declared.event.Uses.{Uses}
use Rattle.rules.specs.declared.event.Command.TheVariants.{Wait, Wake, Requeue, CmpRequeue, WakeOp, WaitBitset, WakeBitset, Unknown}

-- "The op is a command number plus option bits 128 (private, no effect here) and 256 (public header linux/futex.h)"
abbrev pub private_bit : ℕ
private_bit = 128

abbrev pub clock_bit : ℕ
clock_bit = 256

-- 1 where the bit, a power of 2, is set in op, else 0
abbrev pub bit_set : ℕ → ℕ → ℕ
bit_set op b = op / b % 2

abbrev pub command_number : ℕ → ℕ
command_number op = op - private_bit * bit_set op private_bit - clock_bit * bit_set op clock_bit

-- "any other bit makes the command unknown"
abbrev pub numbered : ℕ → Command
numbered n =
    cond (eqb n 0) Wait
    (cond (eqb n 1) Wake
    (cond (eqb n 3) Requeue
    (cond (eqb n 4) CmpRequeue
    (cond (eqb n 5) WakeOp
    (cond (eqb n 9) WaitBitset
    (cond (eqb n 10) WakeBitset Unknown))))))

unfoldable pub command_of : ℕ → Command
command_of op = numbered (command_number op)

abbrev pub is_unknown : Command → Bool
is_unknown Wait = false
is_unknown Wake = false
is_unknown Requeue = false
is_unknown CmpRequeue = false
is_unknown WakeOp = false
is_unknown WaitBitset = false
is_unknown WakeBitset = false
is_unknown Unknown = true

-- "unknown command, or the clock bit (256) is set"
unfoldable pub not_implemented : ℕ → Bool
not_implemented op = is_unknown (command_of op) || eqb (bit_set op clock_bit) 1

-- "Arguments that a command doesn't use are ignored, as in source document 004." uaddr is used by all.
abbrev uses_row : Bool → Bool → Bool → Bool → Bool → Bool → Uses
uses_row a b c d e f = record { cap = a; second = b; mask = c; compare = d; deadline = e; moves = f }

-- a row for each command: cap, second, mask, compare, deadline, moves
abbrev pub uses : Command → Uses
uses Wait = uses_row false false false true true false
uses WaitBitset = uses_row false false true true true false
uses Wake = uses_row true false false false false false
uses WakeBitset = uses_row true false true false false false
uses Requeue = uses_row true true false false false true
uses CmpRequeue = uses_row true true false true false true
uses WakeOp = uses_row true true false false false false
uses Unknown = uses_row false false false false false false
