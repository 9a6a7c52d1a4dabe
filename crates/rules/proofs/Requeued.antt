-- A requeue that changed anything was answered a count.
use mathlib.Core.Path.{◌≡◌, ap, ◌∙◌}
use mathlib.Core.Bool.{true, false}
use Prim.Native.Nat.{ℕ}
use Rattle.lists.proofs.Tests.{clash, by_cases}
use Rattle.rules.specs.declared.event.Command.{Command}
use Rattle.rules.specs.declared.event.Call.{Call}
use Rattle.rules.specs.declared.event.Event.TheVariants.{Call as CallEvent}
use Rattle.rules.specs.declared.answer.Answer.TheVariants.{Count}
use Rattle.tables.specs.Tables.{World}
use Rattle.rules.specs.Answers.{Outcome}
use Rattle.rules.specs.Commands.{command_of, uses}
use Rattle.rules.specs.Events.{refusals, effect, step}
use Rattle.rules.specs.Claims.{IsWait}
use Rattle.rules.proofs.Rows.{verdicts, step_refused, step_clear}
use Rattle.rules.proofs.Passed.{clear_passed}
use Rattle.rules.proofs.Refused.{granted_answer}
use Rattle.rules.proofs.Sleeps.{asleep_sleeps}

wait_moves_none : (k : Command) → IsWait k → (uses k).moves ≡ false
wait_moves_none k i = by_cases i (λ e. rw e) (λ e. rw e)

pub requeue_answered : (c : Call) (w : World) → (uses (command_of c.op)).moves ≡ true → ((step (CallEvent c) w).world ≡ w → ⊥)
    → (n : ℕ) × ((step (CallEvent c) w).answer ≡ Count n)
unfolding refusals effect
requeue_answered c w m changed = verdicts (CallEvent c) w
    (λ x r. absurd (changed (ap (λ (o : Outcome). o.world) (step_refused (CallEvent c) w x r))))
    (λ r.
    let same = ap (λ (o : Outcome). o.answer) (step_clear (CallEvent c) w r) in
    by_cases (granted_answer (command_of c.op) c w (clear_passed c w r).known)
    (λ h. clash (uses (command_of c.op)).moves m (wait_moves_none (command_of c.op) (asleep_sleeps c w (same ∙ h)).is_wait))
    (λ h. (h.0, same ∙ h.1)))
