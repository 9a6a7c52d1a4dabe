-- Every event, from any sound tables over full-length memory, leaves sound tables and full-length memory; so does every history.
use mathlib.Core.Path.{◌≡◌, refl, ap, ◌∙◌}
use mathlib.Core.Bool.{Bool, true, false, not, cond, ◌&&◌}
use mathlib.Core.List.{List, [], ◌∷◌}
use Prim.Native.Nat.{ℕ}
use lib.ListN.{length, length-set}
use lib.Dec.{eqb, leb, ltb}
use borrow.Author.Tests.{leb-false, ltb-false, lt-ltb}
use Rattle.lists.proofs.Tests.{cases, and_intro}
use Rattle.tables.specs.declared.LastAnswer.TheVariants.{Woken, Interrupted}
use Rattle.rules.specs.declared.event.Command.{Command}
use Rattle.rules.specs.declared.event.Command.TheVariants.{Wait, Wake, Requeue, CmpRequeue, WakeOp, WaitBitset, WakeBitset, Unknown}
use Rattle.rules.specs.declared.event.Call.{Call}
use Rattle.rules.specs.declared.event.Event.{Event}
use Rattle.rules.specs.declared.event.Event.TheVariants.{Call as CallEvent, Store, Clock, Interrupt, Query, SetPriority}
use Rattle.tables.specs.Sizes.{memory_words, max_priority}
use Rattle.tables.specs.Editions.{Edition, present}
use Rattle.tables.specs.Tables.{WorldIn, thread_number_in, thread_of, record_ok, asleep_at, end_in, write_word}
use Rattle.rules.specs.Commands.{command_of, uses}
use Rattle.rules.specs.Calls.{caller_in, timeout_given, deadline_of, mask_of, released_in, moved_in, wait, wake, requeue, wake_op, call_effect}
use Rattle.rules.specs.Events.{refusals, clock_effect, interrupt_effect, effect, step}
use Rattle.rules.specs.History.{start_in, start, final}
use Rattle.rules.specs.Claims.{Clear}
use Rattle.rules.proofs.Rows.{step_keeps}
use Rattle.tables.proofs.Changes.{arrivals_end}
use Rattle.tables.proofs.Sound.{SoundIn, fresh_sound, priority_kept}
use Rattle.tables.proofs.Kept.{below_ok, ending, sound_move, sound_sleep, sound_clock, sound_priority}
use Rattle.rules.proofs.Chosen.{moved_left}
use Rattle.rules.proofs.Passed.{Passed, clear_passed, caller_there, uaddr_aligned, uaddr2_aligned, mask_given, uaddr_inside, uaddr2_inside}

-- memory of full length and tables that keep the rules
pub record Valid {ed : Edition} (w : WorldIn ed) : Type 0 where
  pub memory : length w.words ≡ memory_words
  pub sound : SoundIn ed w.state

written : {ed : Edition} (p a v : ℕ) (w : WorldIn ed) → Valid w → Valid (write_word p a v w)
unfolding write_word
written p a v w g = record { memory = length-set w.words _ v ∙ g.memory; sound = g.sound }

module _ {ed : Edition} (k : Command) (c : Call) (w : WorldIn ed) (g : Passed k c w) where
  sleeper_ok : eqb (mask_of k c) 0 ≡ false → (timeout_given c && leb (deadline_of k c w.state.clock) w.state.clock) ≡ false
      → record_ok w.state.clock (asleep_at c.uaddr (mask_of k c) (timeout_given c) (deadline_of k c w.state.clock) (thread_of w.state (caller_in ed c))) ≡ true
  unfolding record_ok
  sleeper_ok mask time =
      and_intro
      (and_intro (and_intro (and_intro (uaddr_aligned k c g.arguments) (below_ok c.uaddr (uaddr_inside k c g.addresses))) (ap not mask))
      (ahead (timeout_given c) time))
      (priority_kept w.state g.sound (caller_in ed c))
    where
      ahead : (b : Bool) → (b && leb (deadline_of k c w.state.clock) w.state.clock) ≡ false
          → cond b (ltb w.state.clock (cond b (deadline_of k c w.state.clock) 0)) (eqb (cond b (deadline_of k c w.state.clock) 0) 0) ≡ true
      ahead true e = lt-ltb w.state.clock (deadline_of k c w.state.clock) (leb-false (deadline_of k c w.state.clock) w.state.clock e)
      ahead false e = refl

  wait_valid : eqb (mask_of k c) 0 ≡ false → (timeout_given c && leb (deadline_of k c w.state.clock) w.state.clock) ≡ false
      → Valid (wait k c w).world
  unfolding wait
  wait_valid mask time =
      record {
        memory = g.memory;
        sound = sound_sleep _ (caller_in ed c) w.state (caller_there ed c g.process g.index) g.runs refl (sleeper_ok mask time) g.sound;
      }

  wake_valid : Valid (wake k c w).world
  unfolding wake
  wake_valid = record { memory = g.memory; sound = ending Woken _ w.state g.sound }

  requeue_valid : (uses k).second ≡ true → Valid (requeue k c w).world
  unfolding requeue
  requeue_valid two =
      let s = end_in ed Woken (released_in ed k c w.state) w.state in
      record {
        memory = g.memory;
        sound = sound_move c.uaddr2 (moved_in ed k c w.state) s
            (uaddr2_aligned k c g.arguments two) (uaddr2_inside k c g.addresses two)
            (λ t. rw (arrivals_end ed Woken (released_in ed k c w.state) w.state) (moved_left ed k c w.state g.sound t))
            (ending Woken _ w.state g.sound);
      }

  wake_op_valid : Valid (wake_op k c w).world
  unfolding wake_op
  wake_op_valid = written _ _ _ _ (record { memory = g.memory; sound = ending Woken _ w.state g.sound })

call_valid : {ed : Edition} (k : Command) (c : Call) (w : WorldIn ed) → Passed k c w → Valid (call_effect k c w).world
unfolding call_effect
call_valid Wait c w g = wait_valid Wait c w g refl g.ahead
call_valid WaitBitset c w g = wait_valid WaitBitset c w g (mask_given WaitBitset c g.arguments refl) g.ahead
call_valid Wake c w g = wake_valid Wake c w g
call_valid WakeBitset c w g = wake_valid WakeBitset c w g
call_valid Requeue c w g = requeue_valid Requeue c w g refl
call_valid CmpRequeue c w g = requeue_valid CmpRequeue c w g refl
call_valid WakeOp c w g = wake_op_valid WakeOp c w g
call_valid Unknown c w g = record { memory = g.memory; sound = g.sound }

effect_valid : {ed : Edition} (e : Event) (w : WorldIn ed) → Valid w → Clear (refusals e w) → Valid (effect e w).world
unfolding effect refusals clock_effect interrupt_effect
effect_valid (CallEvent c) w g h = call_valid (command_of c.op) c w (clear_passed c w h)
effect_valid (Store p a v) w g h = written p a v w g
effect_valid (Clock now) w g h = record { memory = g.memory; sound = sound_clock now w.state g.sound }
effect_valid {ed} (Interrupt p i) w g h = cases (thread_of w.state (thread_number_in ed p i)).waiting
    (λ e. rw e (record { memory = g.memory; sound = ending Interrupted _ w.state g.sound }))
    (λ e. rw e g)
effect_valid (Query p) w g h = g
effect_valid {ed} (SetPriority p i n) w g h =
    record { memory = g.memory; sound = sound_priority n (thread_number_in ed p i) w.state (ltb-false max_priority n h.1.1.1.0) g.sound }

pub step_valid : {ed : Edition} (e : Event) (w : WorldIn ed) → Valid w → Valid (step e w).world
step_valid e w g = step_keeps Valid e w g (effect_valid e w g)

pub final_valid : {ed : Edition} (h : List Event) (w : WorldIn ed) → Valid w → Valid (final h w)
final_valid [] w g = g
final_valid (e ∷ es) w g = final_valid es (step e w).world (step_valid e w g)

pub valid_start : (ed : Edition) (words : List ℕ) → length words ≡ memory_words → Valid (start_in ed words)
valid_start ed words h = record { memory = h; sound = fresh_sound ed }

pub start_valid : (words : List ℕ) → length words ≡ memory_words → Valid (start words)
start_valid = valid_start present
