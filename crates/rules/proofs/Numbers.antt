-- What an event is answered, by the paper's numbers: the first row that applies, and else what the event does.
use mathlib.Core.Path.{◌≡◌, refl, sym, ap, ◌∙◌}
use mathlib.Core.Bool.{true, false}
use mathlib.Core.List.{List, [], ◌∷◌}
use Prim.Native.Nat.{◌<◌, ◌≤◌}
use native.Mathlib.Omega.{arith}
use native.Mathlib.Nat.{add-zero}
use lib.ListN.{length}
use lib.IntN.{ℤ, pos, neg_ℤ}
use Rattle.lists.proofs.Tests.{cases, clash}
use Rattle.rules.specs.declared.event.Command.{Command}
use Rattle.rules.specs.declared.event.Command.TheVariants.{Wait, Wake, Requeue, CmpRequeue, WakeOp, WaitBitset, WakeBitset, Unknown}
use Rattle.rules.specs.declared.event.Call.{Call}
use Rattle.rules.specs.declared.event.Event.{Event}
use Rattle.rules.specs.declared.event.Event.TheVariants.{Call as CallEvent, Store, Clock, Interrupt, Query, SetPriority}
use Rattle.rules.specs.declared.answer.Errno.{Errno}
use Rattle.rules.specs.declared.answer.Errno.TheVariants.{ENXIO, EBADF, ESRCH, EBUSY, ENOSYS, EINVAL, EFAULT, EAGAIN, ETIMEDOUT}
use Rattle.rules.specs.declared.answer.Answer.{Answer}
use Rattle.rules.specs.declared.answer.Answer.TheVariants.{Asleep, Count, Refused, Waiting}
use Rattle.std.specs.Prelude.{None}
use Rattle.tables.specs.Tables.{World, thread_number, thread_of}
use Rattle.rules.specs.Answers.{Row, Outcome, errno_number, answer_numbers, reason_of, first, judged}
use Rattle.rules.specs.Commands.{command_of}
use Rattle.rules.specs.Calls.{released, rows_in, wait, wake, requeue, wake_op, call_effect}
use Rattle.rules.specs.Events.{is_query, refusals, clock_effect, interrupt_effect, panel_in, effect, step}
use Rattle.rules.specs.Numbers.{done, numbers_of}
use Rattle.rules.specs.Before.{step_without_reasons, without_reason}
use Rattle.rules.proofs.Arguments.{by_errno, arguments_one}
use Rattle.rules.proofs.Before.{as_before_reasons}

abbrev refuse_by : List Row → List ℤ → List ℤ
refuse_by rs below = by_errno (λ x. neg_ℤ (pos (errno_number x)) ∷ []) rs below

judged_number : (rs : List Row) (o : Outcome) (w : World) → answer_numbers (judged (first rs) o w).answer ≡ refuse_by rs (answer_numbers o.answer)
judged_number [] o w = refl
judged_number (r ∷ rs) o w = cases r.applies (λ e. rw e) (λ e. rw e (judged_number rs o w))

step_number : (e : Event) (w : World) → answer_numbers (step e w).answer ≡ refuse_by (refusals e w) (answer_numbers (effect e w).answer)
unfolding step
step_number e w = judged_number (refusals e w) (effect e w) w

call_done : (k : Command) (c : Call) (w : World) → answer_numbers (call_effect k c w).answer ≡ done k c w
unfolding call_effect wait wake requeue wake_op
call_done Wait c w = refl
call_done WaitBitset c w = refl
call_done Wake c w = refl
call_done WakeBitset c w = refl
call_done Requeue c w = ap (λ n. pos n ∷ []) (add-zero (length (released Requeue c w.state)))
call_done CmpRequeue c w = refl
call_done WakeOp c w = refl
call_done Unknown c w = refl

effect_number : (e : Event) (w : World) → refuse_by (refusals e w) (answer_numbers (effect e w).answer) ≡ numbers_of e w
unfolding numbers_of refusals rows_in effect clock_effect interrupt_effect panel_in
effect_number (CallEvent c) w = rw (arguments_one (λ x. neg_ℤ (pos (errno_number x)) ∷ []) (command_of c.op) c _ _, call_done (command_of c.op) c w)
effect_number (Store p a v) w = refl
effect_number (Clock now) w = refl
effect_number (Interrupt p i) w = cases (thread_of w.state (thread_number p i)).waiting (λ e. rw e) (λ e. rw e)
effect_number (Query p) w = refl
effect_number (SetPriority p i n) w = refl

pub by_number : (e : Event) (w : World) → answer_numbers (step e w).answer ≡ numbers_of e w
by_number e w = step_number e w ∙ effect_number e w

-- no error number is 0, and none above ETIMEDOUT's
pub errno_small : (x : Errno) → (0 < errno_number x) × (errno_number x ≤ errno_number ETIMEDOUT)
errno_small ENXIO = (omega arith, omega arith)
errno_small EBADF = (omega arith, omega arith)
errno_small ESRCH = (omega arith, omega arith)
errno_small EBUSY = (omega arith, omega arith)
errno_small ENOSYS = (omega arith, omega arith)
errno_small EINVAL = (omega arith, omega arith)
errno_small EFAULT = (omega arith, omega arith)
errno_small EAGAIN = (omega arith, omega arith)
errno_small ETIMEDOUT = (omega arith, omega arith)

-- every event but a panel query is answered by one number

refused_one : (rs : List Row) (below : List ℤ) → length below ≡ 1 → length (refuse_by rs below) ≡ 1
refused_one [] below one = one
refused_one (r ∷ rs) below one = cases r.applies (λ e. rw e) (λ e. rw e (refused_one rs below one))

done_one : (k : Command) (c : Call) (w : World) → length (done k c w) ≡ 1
done_one Wait c w = refl
done_one WaitBitset c w = refl
done_one Wake c w = refl
done_one WakeBitset c w = refl
done_one Requeue c w = refl
done_one CmpRequeue c w = refl
done_one WakeOp c w = refl
done_one Unknown c w = refl

effect_one : (e : Event) (w : World) → is_query e ≡ false → length (answer_numbers (effect e w).answer) ≡ 1
unfolding effect clock_effect interrupt_effect
effect_one (CallEvent c) w some = ap length (call_done (command_of c.op) c w) ∙ done_one (command_of c.op) c w
effect_one (Store p a v) w some = refl
effect_one (Clock now) w some = refl
effect_one (Interrupt p i) w some = cases (thread_of w.state (thread_number p i)).waiting (λ e. rw e) (λ e. rw e)
effect_one (Query p) w some = clash true refl some
effect_one (SetPriority p i n) w some = refl

pub answered_once : (e : Event) (w : World) → is_query e ≡ false → length (answer_numbers (step e w).answer) ≡ 1
answered_once e w some = ap length (step_number e w) ∙ refused_one (refusals e w) (answer_numbers (effect e w).answer) (effect_one e w some)

-- the rules before reasons gave the same numbers, and no reason
plain_number : (a : Answer) → (answer_numbers (without_reason a) ≡ answer_numbers a) × (reason_of (without_reason a) ≡ None)
plain_number Asleep = (refl, refl)
plain_number (Count n) = (refl, refl)
plain_number (Refused x) = (refl, refl)
plain_number (Waiting v) = (refl, refl)

pub before_numbers : (e : Event) (w : World) → (answer_numbers (step_without_reasons e w).answer ≡ numbers_of e w) × (reason_of (step_without_reasons e w).answer ≡ None)
before_numbers e w =
    let same = ap (λ (o : Outcome). o.answer) (as_before_reasons e w) in
    let plain = plain_number (step e w).answer in
    (rw (sym same) (plain.0 ∙ by_number e w), rw (sym same) plain.1)
