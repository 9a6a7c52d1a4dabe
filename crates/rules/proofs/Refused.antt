-- Demand 1: an event is answered a refusal exactly when a row applies; and an answer below 0 is a refusal.
use mathlib.Core.Path.{◌≡◌, refl, sym, ap, ◌∙◌}
use mathlib.Core.Bool.{true, false}
use mathlib.Core.Logic.{◌⊎◌, inl, inr}
use mathlib.Core.List.{List, [], ◌∷◌}
use Prim.Native.Nat.{ℕ, suc, zero}
use native.Mathlib.Omega.{arith}
use lib.IntN.{ℤ, pos, negsuc, neg_ℤ}
use Rattle.lists.proofs.Tests.{cases, clash, by_cases}
use Rattle.rules.specs.declared.event.Command.{Command}
use Rattle.rules.specs.declared.event.Call.{Call}
use Rattle.rules.specs.declared.event.Event.{Event}
use Rattle.rules.specs.declared.event.Event.TheVariants.{Call as CallEvent, Store, Clock, Interrupt, Query, SetPriority}
use Rattle.rules.specs.declared.answer.Refusal.{Refusal}
use Rattle.std.specs.Prelude.{Err}
use Rattle.rules.specs.declared.answer.Answer.{Answer}
use Rattle.rules.specs.declared.answer.Answer.TheVariants.{Asleep, Count, Refused, Waiting}
use Rattle.tables.specs.Tables.{World, thread_number, thread_of}
use Rattle.rules.specs.Answers.{errno_number, answer_numbers, first, is_refused}
use Rattle.rules.specs.Commands.{command_of, is_unknown}
use Rattle.rules.specs.Calls.{wait, wake, requeue, wake_op, call_effect}
use Rattle.rules.specs.Events.{refusals, clock_effect, interrupt_effect, effect, step}
use Rattle.rules.specs.Claims.{Clear}
use Rattle.rules.proofs.Commands.{by_command}
use Rattle.rules.proofs.Rows.{verdicts, step_refused, step_clear}
use Rattle.rules.proofs.Passed.{clear_passed}

-- a call that is not refused sleeps or is answered a count
pub granted_answer : (k : Command) (c : Call) (w : World) → is_unknown k ≡ false
    → ((call_effect k c w).answer ≡ Asleep) ⊎ ((n : ℕ) × ((call_effect k c w).answer ≡ Count n))
unfolding wait wake requeue wake_op
granted_answer k c w = by_command (λ k f. is_unknown k ≡ false → ((f c w).answer ≡ Asleep) ⊎ ((n : ℕ) × ((f c w).answer ≡ Count n)))
    (λ k i h. inl refl) (λ k h. inr (_, refl)) (λ k h. inr (_, refl)) (λ h. inr (_, refl)) (λ h. clash true refl h) k

call_granted : (k : Command) (c : Call) (w : World) → is_unknown k ≡ false → is_refused (call_effect k c w).answer ≡ false
call_granted k c w h = by_cases (granted_answer k c w h) (λ a. rw a) (λ a. rw a.1)

-- where no row applies, the answer is no refusal
pub granted : (e : Event) (w : World) → Clear (refusals e w) → is_refused (effect e w).answer ≡ false
unfolding effect refusals clock_effect interrupt_effect
granted (CallEvent c) w h = call_granted (command_of c.op) c w (clear_passed c w h).known
granted (Store p a v) w h = refl
granted (Clock now) w h = refl
granted (Interrupt p i) w h = cases (thread_of w.state (thread_number p i)).waiting (λ e. rw e) (λ e. rw e)
granted (Query p) w h = refl
granted (SetPriority p i n) w h = refl

pub refused_row : (e : Event) (w : World) (x : Refusal) → (step e w).answer ≡ Refused x → first (refusals e w) ≡ Err x
refused_row e w x h = verdicts e w
    (λ y r. let same : y ≡ x = cc (step_refused e w y r) in r ∙ ap Err same)
    (λ r. clash (is_refused (step e w).answer) (cc) (cc (step_clear e w r, granted e w r)))

-- an answer that is a number below 0 is a refusal, whose error has that number
abbrev below_zero : List ℤ → ℕ
below_zero [] = 0
below_zero (pos n ∷ l) = 0
below_zero (negsuc n ∷ l) = suc n

below_zero_neg : (n : ℕ) → below_zero (neg_ℤ (pos n) ∷ []) ≡ n
below_zero_neg zero = refl
below_zero_neg (suc n) = refl

not_below : {P : Type 0} {n : ℕ} → 0 ≡ suc n → P
not_below h = absurd (omega arith)

pub refusal_of : (a : Answer) (n : ℕ) → answer_numbers a ≡ neg_ℤ (pos (suc n)) ∷ [] → (x : Refusal) × (a ≡ Refused x) × (errno_number x.errno ≡ suc n)
refusal_of Asleep n h = not_below (ap below_zero h)
refusal_of (Count k) n h = not_below (ap below_zero h)
refusal_of (Refused x) n h = (x, refl, sym (below_zero_neg (errno_number x.errno)) ∙ ap below_zero h)
refusal_of (Waiting v) n h = not_below (ap below_zero h)
