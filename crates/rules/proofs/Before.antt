-- The rules before reasons, of which the errors agree, whatever their reasons; before signs, which agree where nothing is negative; and with -12,
-- which agree everywhere.
use mathlib.Core.Path.{◌≡◌, refl, sym, ap, ◌∙◌}
use mathlib.Core.Bool.{Bool, true, false, not, cond, ◌&&◌, ◌||◌, or-true}
use Prim.Native.Nat.{◌-◌, ◌^◌, ◌<◌}
use mathlib.Core.List.{List, [], ◌∷◌, map}
use lib.Dec.{eqb}
use lib.IntN.{pos, neg_ℤ}
use borrow.Author.Tests.{eq-eqb, not-true, lt-leb}
use Rattle.lists.proofs.Tests.{cases, clash, and_left, and_right}
use Rattle.rules.specs.declared.event.Command.{Command}
use Rattle.rules.specs.declared.event.Command.TheVariants.{Wait, Wake, Requeue, CmpRequeue, WakeOp, WaitBitset, WakeBitset, Unknown}
use Rattle.rules.specs.declared.event.Call.{Call}
use Rattle.rules.specs.declared.event.Event.{Event}
use Rattle.rules.specs.declared.event.Event.TheVariants.{Call as CallEvent, Store, Clock, Interrupt, Query, SetPriority}
use Rattle.rules.specs.declared.answer.Errno.{Errno}
use Rattle.rules.specs.declared.answer.Errno.TheVariants.{ENXIO, EBADF, ESRCH, EBUSY, ENOSYS, EINVAL, EFAULT, EAGAIN, ETIMEDOUT}
use Rattle.rules.specs.declared.answer.Refusal.{Refusal}
use Rattle.std.specs.Prelude.{Err}
use Rattle.rules.specs.declared.answer.Answer.TheVariants.{Refused}
use Rattle.tables.specs.Sizes.{threads, word_bits}
use Rattle.tables.specs.Tables.{World, thread_number, thread_of}
use Rattle.rules.specs.Answers.{errno_number, Row, plain, first, Outcome, outcome, judged}
use Rattle.rules.specs.Commands.{command_of}
use Rattle.rules.specs.Signed.{negative}
use Rattle.rules.specs.WakeOp.{arg_bits, is_power, op_arg_field, cmp_arg_field}
use Rattle.rules.specs.Calls.{caller, is_wake_op, old_word, rows_in, released_second, wait, wake, requeue, wake_op, call_effect}
use Rattle.rules.specs.Events.{own_rows, is_query, of_call, refusals, clock_effect, interrupt_effect, effect, step}
use Rattle.rules.specs.Before.{own_rows_without_reasons, row_without_reason, refusals_without_reasons, step_without_reasons, without_reason, effect_unsigned, step_unsigned, none_negative, minus12, numbers_with12, OutcomeWith12, as_with12, full, judged_with12, step_with12}
use Rattle.rules.specs.Claims.{Clear}
use Rattle.tables.proofs.Sound.{room}
use Rattle.rules.proofs.ByEvent.{by_call}
use Rattle.rules.proofs.Rows.{rows_clear, rows_refused, ◌and◌, verdicts, step_refused, step_clear}
use Rattle.rules.proofs.Passed.{clear_passed, caller_below}
use Rattle.rules.proofs.Refused.{refusal_of}
use Rattle.rules.proofs.Arguments.{by_errno, arguments_one}
use Rattle.rules.proofs.Commands.{by_command}
use Rattle.rules.proofs.WakeOp.{new_word_plain, compares_plain}

-- of an event that asks nothing, the rows before are those now, their reasons taken away
before_own : (e : Event) (w : World) → ((A : Type 0) (f : Call → A) (x : A) → of_call f x e ≡ x)
    → own_rows_without_reasons e w ≡ map row_without_reason (own_rows e w)
before_own e w none = none (List Row) _ _

module _ {ℓ} {A : Type ℓ} (f : Errno → A) where
  plain_rows : (rs : List Row) (below : A) → by_errno f rs below ≡ by_errno f (map row_without_reason rs) below
  plain_rows [] below = refl
  plain_rows (r ∷ rs) below = ap (cond r.applies (f r.refusal.errno)) (plain_rows rs below)

  rows_before : (e : Event) (w : World) (below : A) → by_errno f (refusals e w) below ≡ by_errno f (refusals_without_reasons e w) below
  unfolding refusals refusals_without_reasons rows_in
  rows_before e w below = by_call (λ e. by_errno f (refusals e w) below ≡ by_errno f (refusals_without_reasons e w) below)
      (λ c. rw (arguments_one f (command_of c.op) c _ below))
      (λ e none. cases (is_query e) (λ q. rw q) (λ q. let same = before_own e w none in rw (q, same, plain_rows (own_rows e w) below))) e

-- a step by its errors: of the rules that hold now, reasons taken away, and of the rules before
now_by_errno : (rs : List Row) (o : Outcome) (w : World)
    → outcome (without_reason (judged (first rs) o w).answer) (judged (first rs) o w).world
    ≡ by_errno (λ x. outcome (Refused (plain x)) w) rs (outcome (without_reason o.answer) o.world)
now_by_errno [] o w = refl
now_by_errno (r ∷ rs) o w = cases r.applies (λ e. rw e) (λ e. rw e (now_by_errno rs o w))

-- no row has a reason
abbrev Plain : List Row → Type 0
Plain [] = Unit {0}
Plain (r ∷ rs) = (r.refusal ≡ plain r.refusal.errno) × Plain rs

before_by_errno : (rs : List Row) → Plain rs → (o : Outcome) (w : World) → judged (first rs) o w ≡ by_errno (λ x. outcome (Refused (plain x)) w) rs o
before_by_errno [] h o w = refl
before_by_errno (r ∷ rs) h o w = cases r.applies (λ e. rw e (ap (λ x. outcome (Refused x) w) h.0)) (λ e. rw e (before_by_errno rs h.1 o w))

plain_mapped : (rs : List Row) → Plain (map row_without_reason rs)
plain_mapped [] = tt
plain_mapped (r ∷ rs) = refl and plain_mapped rs

plain_before : (e : Event) (w : World) → Plain (refusals_without_reasons e w)
unfolding refusals_without_reasons
plain_before e w = by_call (λ e. Plain (refusals_without_reasons e w))
    (λ c. refl and refl and refl and refl and refl and refl and refl and refl and refl and refl and tt)
    (λ e none. cases (is_query e) (λ q. rw q tt) (λ q. let same = before_own e w none in rw (q, same) (refl and refl and plain_mapped (own_rows e w)))) e

-- what an event does where nothing refuses it has no reason beside it
command_plain : (k : Command) (c : Call) (w : World) → without_reason (call_effect k c w).answer ≡ (call_effect k c w).answer
unfolding wait wake requeue wake_op
command_plain k c w = by_command (λ k f. without_reason (f c w).answer ≡ (f c w).answer) (λ k i. refl) (λ k. refl) (λ k. refl) refl refl k

effect_plain : (e : Event) (w : World) → without_reason (effect e w).answer ≡ (effect e w).answer
unfolding effect clock_effect interrupt_effect
effect_plain (CallEvent c) w = command_plain (command_of c.op) c w
effect_plain (Store p a v) w = refl
effect_plain (Clock now) w = refl
effect_plain (Interrupt p i) w = cases (thread_of w.state (thread_number p i)).waiting (λ e. rw e) (λ e. rw e)
effect_plain (Query p) w = refl
effect_plain (SetPriority p i n) w = refl

pub as_before_reasons : (e : Event) (w : World) → outcome (without_reason (step e w).answer) (step e w).world ≡ step_without_reasons e w
unfolding step step_without_reasons
as_before_reasons e w =
    let f : Errno → Outcome = λ x. outcome (Refused (plain x)) w in
    now_by_errno (refusals e w) (effect e w) w
    ∙ ap (λ a. by_errno f (refusals e w) (outcome a (effect e w).world)) (effect_plain e w)
    ∙ rows_before f e w (effect e w)
    ∙ sym (before_by_errno (refusals_without_reasons e w) (plain_before e w) (effect e w) w)

-- Before signs.

-- the one command that reads an operation and a comparison out of val3
wake_op_lem : (k : Command) (c : Call) (w : World) → is_wake_op k ≡ true → call_effect k c w ≡ wake_op k c w
unfolding call_effect
wake_op_lem Wait c w h = clash false h refl
wake_op_lem Wake c w h = clash false h refl
wake_op_lem Requeue c w h = clash false h refl
wake_op_lem CmpRequeue c w h = clash false h refl
wake_op_lem WakeOp c w h = refl
wake_op_lem WaitBitset c w h = clash false h refl
wake_op_lem WakeBitset c w h = clash false h refl
wake_op_lem Unknown c w h = clash false h refl

call_unsigned : (c : Call) (w : World) → none_negative (CallEvent c) w ≡ true → effect (CallEvent c) w ≡ effect_unsigned (CallEvent c) w
unfolding effect wake_op released_second
call_unsigned c w h =
    let k = command_of c.op in
    let p = is_power c.val3 || not (negative arg_bits (op_arg_field c.val3)) in
    let q = negative arg_bits (cmp_arg_field c.val3) in
    let r = negative word_bits (old_word c w) in
    cases (is_wake_op k)
    (λ e. let low : (p && not q && not r) ≡ true = rw e at h in
    let both = and_left (p && not q) (not r) low in
    rw (
      e,
      wake_op_lem k c w e,
      new_word_plain c.val3 (old_word c w) (and_left p (not q) both),
      compares_plain c.val3 (old_word c w) (not-true q (and_right p (not q) both)) (not-true r (and_right (p && not q) (not r) low)),
    ))
    (λ e. rw e)

effect_unsigned_lem : (e : Event) (w : World) → none_negative e w ≡ true → effect e w ≡ effect_unsigned e w
effect_unsigned_lem e w = by_call (λ e. none_negative e w ≡ true → effect e w ≡ effect_unsigned e w)
    (λ c. call_unsigned c w) (λ e none h. sym (none Outcome _ (effect e w))) e

pub as_before_signs : (e : Event) (w : World) → none_negative e w ≡ true → step e w ≡ step_unsigned e w
unfolding step step_unsigned
as_before_signs e w h = ap (λ o. judged (first (refusals e w)) o w) (effect_unsigned_lem e w h)

pub as_before_below : (c : Call) (w : World) → op_arg_field c.val3 < 2 ^ (arg_bits - 1) → cmp_arg_field c.val3 < 2 ^ (arg_bits - 1) → old_word c w < 2 ^ (word_bits - 1)
    → step (CallEvent c) w ≡ step_unsigned (CallEvent c) w
as_before_below c w p q r =
    as_before_signs (CallEvent c) w
    (rw (lt-leb _ _ p, lt-leb _ _ q, lt-leb _ _ r, or-true (is_power c.val3)) (or-true (not (is_wake_op (command_of c.op)))))

-- With -12.

never_full : (e : Event) (w : World) → Clear (refusals e w) → full e w ≡ false
never_full e w = by_call (λ e. Clear (refusals e w) → full e w ≡ false)
    (λ c h.
    let g = clear_passed c w h in
    lt-leb threads w.state.count (room w.state g.sound (caller c) (caller_below c g.process g.index) g.runs))
    (λ e none h. none Bool _ false) e

pub judged_refused : (x : Refusal) (rows : List Row) (applies : Bool) (o : Outcome) (w : World) → first rows ≡ Err x
    → judged_with12 rows applies o w ≡ as_with12 (outcome (Refused x) w)
unfolding judged_with12
judged_refused x rows applies o w h = rows_refused _ rows _ x h

pub judged_clear : (rows : List Row) (applies : Bool) (o : Outcome) (w : World) → Clear rows
    → judged_with12 rows applies o w ≡ cond applies (record { answer = minus12; world = w }) (as_with12 o)
unfolding judged_with12
judged_clear rows applies o w h = rows_clear _ rows _ h

pub as_before_12 : (e : Event) (w : World) → as_with12 (step e w) ≡ step_with12 e w
unfolding step_with12
as_before_12 e w = verdicts e w
    (λ x h. rw (judged_refused x (refusals e w) (full e w) (effect e w) w h, step_refused e w x h))
    (λ h. rw (judged_clear (refusals e w) (full e w) (effect e w) w h, never_full e w h, step_clear e w h))

errno_12 : (x : Errno) → eqb (errno_number x) 12 ≡ false
errno_12 ENXIO = refl
errno_12 EBADF = refl
errno_12 ESRCH = refl
errno_12 EBUSY = refl
errno_12 ENOSYS = refl
errno_12 EINVAL = refl
errno_12 EFAULT = refl
errno_12 EAGAIN = refl
errno_12 ETIMEDOUT = refl

pub never_12 : (e : Event) (w : World) → numbers_with12 (step_with12 e w).answer ≡ neg_ℤ (pos 12) ∷ [] → ⊥
never_12 e w h =
    let r = refusal_of (step e w).answer 11 (ap (λ (o : OutcomeWith12). numbers_with12 o.answer) (as_before_12 e w) ∙ h) in
    clash (eqb (errno_number r.0.errno) 12) (eq-eqb _ 12 r.2) (errno_12 r.0.errno)
