-- What a call does, by its command: it waits, wakes, requeues, is WAKE_OP, or is none that is known.
use mathlib.Core.Path.{refl}
use mathlib.Core.Logic.{inl, inr}
use Rattle.rules.specs.declared.event.Command.{Command}
use Rattle.rules.specs.declared.event.Command.TheVariants.{Wait, Wake, Requeue, CmpRequeue, WakeOp, WaitBitset, WakeBitset, Unknown}
use Rattle.rules.specs.declared.event.Call.{Call}
use Rattle.rules.specs.declared.answer.Answer.TheVariants.{Refused}
use Rattle.rules.specs.declared.answer.Errno.TheVariants.{ENOSYS}
use Rattle.tables.specs.Tables.{World}
use Rattle.rules.specs.Answers.{plain, Outcome, outcome}
use Rattle.rules.specs.Calls.{wait, wake, requeue, wake_op, call_effect}
use Rattle.rules.specs.Claims.{IsWait}

-- what holds of a command and its effect, in these five cases, holds of every command
pub by_command {ℓ} : (P : Command → (Call → World → Outcome) → Type ℓ)
    → ((k : Command) → IsWait k → P k (wait k)) → ((k : Command) → P k (wake k)) → ((k : Command) → P k (requeue k))
    → P WakeOp (wake_op WakeOp) → P Unknown (λ c w. outcome (Refused (plain ENOSYS)) w) → (k : Command) → P k (λ c w. call_effect k c w)
unfolding call_effect
by_command P waits wakes requeues op none Wait = waits Wait (inl refl)
by_command P waits wakes requeues op none WaitBitset = waits WaitBitset (inr refl)
by_command P waits wakes requeues op none Wake = wakes Wake
by_command P waits wakes requeues op none WakeBitset = wakes WakeBitset
by_command P waits wakes requeues op none Requeue = requeues Requeue
by_command P waits wakes requeues op none CmpRequeue = requeues CmpRequeue
by_command P waits wakes requeues op none WakeOp = op
by_command P waits wakes requeues op none Unknown = none
