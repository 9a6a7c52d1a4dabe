-- Demand 2, waits: when exactly a call is answered "asleep", and what it then leaves.
use mathlib.Core.Path.{◌≡◌, sym, ap, ◌∙◌}
use mathlib.Core.Bool.{true, false, ◌&&◌}
use Prim.Native.Nat.{ℕ, ◌%◌, ◌<◌}
use lib.Dec.{eqb}
use borrow.Author.Tests.{eqb-true, eqb-false, eq-eqb, ne_eqb, leb-false, lt-leb, not-false}
use Rattle.lists.proofs.Tests.{cases, by_cases, never}
use Rattle.rules.specs.declared.event.Command.{Command}
use Rattle.rules.specs.declared.event.Command.TheVariants.{WaitBitset}
use Rattle.rules.specs.declared.event.Call.{Call}
use Rattle.rules.specs.declared.event.Event.TheVariants.{Call as CallEvent}
use Rattle.rules.specs.declared.answer.Answer.TheVariants.{Asleep}
use Rattle.tables.specs.Sizes.{word_bytes, bytes_per_process}
use Rattle.tables.specs.Tables.{World, word_at, with_state, fall_asleep}
use Rattle.rules.specs.Commands.{command_of, is_unknown, bit_set, clock_bit, uses}
use Rattle.rules.specs.WakeOp.{undefined_op}
use Rattle.rules.specs.Calls.{caller, timeout_given, deadline_of, argument_rows, bad_address, is_wake_op, differs, late, wait, wake, requeue, wake_op, call_effect}
use Rattle.rules.specs.Events.{refusals, effect, step}
use Rattle.rules.specs.Claims.{Clear, IsWait, Sleeps, sleeps_by}
use Rattle.rules.proofs.Commands.{by_command}
use Rattle.rules.proofs.Rows.{◌and◌, verdicts, step_refused, step_clear}
use Rattle.tables.proofs.Sound.{tables_sound, sound_tables}
use Rattle.rules.proofs.Passed.{Passed, clear_passed, passed_clear, uaddr_aligned, mask_given, uaddr_inside}

-- the answers of the commands
wait_answer : (k : Command) (c : Call) (w : World) → (call_effect k c w).answer ≡ Asleep → IsWait k
unfolding wake requeue wake_op
wait_answer k c w = by_command (λ k f. (f c w).answer ≡ Asleep → IsWait k)
    (λ k i h. i) (λ k h. never (cc)) (λ k h. never (cc)) (λ h. never (cc)) (λ h. never (cc)) k

wait_is : (k : Command) (c : Call) (w : World) → IsWait k → call_effect k c w ≡ wait k c w
unfolding call_effect
wait_is k c w i = by_cases i (λ e. rw e) (λ e. rw e)

-- what a wait uses
wait_deadline : (k : Command) → IsWait k → (uses k).deadline ≡ true
wait_deadline k i = by_cases i (λ e. rw e) (λ e. rw e)

wait_compare : (k : Command) → IsWait k → (uses k).compare ≡ true
wait_compare k i = by_cases i (λ e. rw e) (λ e. rw e)

wait_known : (k : Command) → IsWait k → is_unknown k ≡ false
wait_known k i = by_cases i (λ e. rw e) (λ e. rw e)

-- each row at a wait, and the fact that it tests
module _ (k : Command) (c : Call) (w : World) (i : IsWait k) where
  abbrev due : ℕ
  due = deadline_of k c w.state.clock

  equal_of : differs k c (word_at w c.process c.uaddr) ≡ false → word_at w c.process c.uaddr ≡ c.val
  equal_of h = eqb-true _ _ (not-false (eqb (word_at w c.process c.uaddr) c.val) (rw (wait_compare k i, wait_deadline k i) at h))

  of_equal : word_at w c.process c.uaddr ≡ c.val → differs k c (word_at w c.process c.uaddr) ≡ false
  of_equal h = rw (wait_compare k i, wait_deadline k i, eq-eqb (word_at w c.process c.uaddr) c.val h)

  ahead_of : late k c w.state.clock ≡ false → timeout_given c ≡ true → w.state.clock < due
  ahead_of h g = leb-false due w.state.clock (rw (wait_deadline k i, g) at h)

  of_ahead : (timeout_given c ≡ true → w.state.clock < due) → late k c w.state.clock ≡ false
  of_ahead h = cases (timeout_given c)
      (λ g. rw (wait_deadline k i, g, lt-leb due w.state.clock (h g)))
      (λ g. rw (wait_deadline k i, g))

  arguments_of : c.uaddr % word_bytes ≡ 0 → (k ≡ WaitBitset → c.val3 ≡ 0 → ⊥) → Clear (argument_rows k c)
  unfolding argument_rows
  arguments_of al m =
      let off = eq-eqb (c.uaddr % word_bytes) 0 al in
      by_cases i
      (λ e. (rw e) and (rw e) and (rw e) and (rw off) and (rw e) and (rw e) and tt)
      (λ e. (rw e) and (rw e) and (rw (e, ne_eqb c.val3 0 (m e))) and (rw off) and (rw e) and (rw e) and tt)

  addresses_of : c.uaddr < bytes_per_process → bad_address k c ≡ false
  unfolding bad_address
  addresses_of h = by_cases i (λ e. rw (e, lt-leb bytes_per_process c.uaddr h)) (λ e. rw (e, lt-leb bytes_per_process c.uaddr h))

  no_operation : (is_wake_op k && undefined_op c.val3) ≡ false
  no_operation = by_cases i (λ e. rw e) (λ e. rw e)

passed_sleeps : (c : Call) (w : World) → IsWait (command_of c.op) → Passed (command_of c.op) c w → Sleeps c w
passed_sleeps c w i g =
    let k = command_of c.op in
    record {
      is_wait = i;
      memory = g.memory;
      tables = sound_tables w.state g.sound;
      process = g.process;
      index = g.index;
      runs = g.runs;
      monotonic = eqb-false (bit_set c.op clock_bit) 1 g.monotonic;
      mask = λ e. eqb-false c.val3 0 (mask_given k c g.arguments (rw e));
      alignment = eqb-true (c.uaddr % word_bytes) 0 (uaddr_aligned k c g.arguments);
      inside = leb-false bytes_per_process c.uaddr (uaddr_inside k c g.addresses);
      equal = equal_of k c w i g.equal;
      ahead = ahead_of k c w i g.ahead;
    }

sleeps_passed : (c : Call) (w : World) → Sleeps c w → Passed (command_of c.op) c w
sleeps_passed c w s =
    let k = command_of c.op in
    record {
      memory = s.memory;
      sound = tables_sound w.state s.tables;
      process = s.process;
      index = s.index;
      runs = s.runs;
      known = wait_known k s.is_wait;
      monotonic = ne_eqb (bit_set c.op clock_bit) 1 s.monotonic;
      arguments = arguments_of k c w s.is_wait s.alignment s.mask;
      addresses = addresses_of k c w s.is_wait s.inside;
      defined = no_operation k c w s.is_wait;
      equal = of_equal k c w s.is_wait s.equal;
      ahead = of_ahead k c w s.is_wait s.ahead;
    }

-- a call that no row refuses does what its command does
call_done : (c : Call) (w : World) → Passed (command_of c.op) c w → step (CallEvent c) w ≡ call_effect (command_of c.op) c w
unfolding effect refusals
call_done c w g = step_clear (CallEvent c) w (passed_clear c w g)

pub asleep_sleeps : (c : Call) (w : World) → (step (CallEvent c) w).answer ≡ Asleep → Sleeps c w
unfolding refusals
asleep_sleeps c w h = verdicts (CallEvent c) w
    (λ x r. never (cc (step_refused (CallEvent c) w x r)))
    (λ r.
    let g = clear_passed c w r in
    passed_sleeps c w (wait_answer (command_of c.op) c w (ap (λ o. o.answer) (sym (call_done c w g)) ∙ h)) g)

wait_done : (c : Call) (w : World) → Sleeps c w → step (CallEvent c) w ≡ wait (command_of c.op) c w
wait_done c w s = call_done c w (sleeps_passed c w s) ∙ wait_is (command_of c.op) c w s.is_wait

pub sleeps_asleep : (c : Call) (w : World) → Sleeps c w → (step (CallEvent c) w).answer ≡ Asleep
unfolding wait
sleeps_asleep c w s = ap (λ o. o.answer) (wait_done c w s)

-- what a wait that sleeps leaves
pub asleep_leaves : (c : Call) (w : World) → (step (CallEvent c) w).answer ≡ Asleep
    → (step (CallEvent c) w).world ≡ with_state (fall_asleep (sleeps_by c w) (caller c) w.state) w
unfolding wait
asleep_leaves c w h = ap (λ o. o.world) (wait_done c w (asleep_sleeps c w h))
