-- "in any tables whose priorities are all equal, each event's answer and all that it leaves stay as before": the rules of any edition, beside those that
-- take sleepers by arrival.
use mathlib.Core.Path.{◌≡◌, refl, sym, ap, ◌∙◌}
use mathlib.Core.Bool.{Bool, true}
use mathlib.Core.List.{List, [], ◌∷◌}
use Prim.Native.Nat.{ℕ}
use native.Mathlib.Omega.{arith}
use lib.ListN.{take, drop}
use lib.Dec.{eqb, ltb}
use borrow.Author.Tests.{eq-eqb, ltb-true}
use Rattle.lists.specs.Lists.{filter, all}
use Rattle.lists.proofs.Tests.{cases}
use Rattle.lists.proofs.Filter.{all_filtered, all_weaken}
use Rattle.tables.specs.declared.Thread.{Thread}
use Rattle.rules.specs.declared.event.Command.{Command}
use Rattle.rules.specs.declared.event.Command.TheVariants.{Wait, Wake, Requeue, CmpRequeue, WakeOp, WaitBitset, WakeBitset, Unknown}
use Rattle.rules.specs.declared.event.Call.{Call}
use Rattle.rules.specs.declared.event.Event.{Event}
use Rattle.rules.specs.declared.event.Event.TheVariants.{Call as CallEvent, Store, Clock, Interrupt, Query, SetPriority}
use Rattle.tables.specs.Editions.{Edition, threads_in}
use Rattle.tables.specs.Tables.{WorldIn, thread_number_in, thread_of, arrivals, tables_in, end_in, move_in, sleep_in, write_word}
use Rattle.rules.specs.Answers.{Row}
use Rattle.rules.specs.Commands.{command_of}
use Rattle.rules.specs.Calls.{second_cap, matches, candidates_in, released_in, moved_in, released_second, wait, wake, requeue, wake_op, call_effect, rows_in}
use Rattle.rules.specs.Events.{refusals, clock_effect, interrupt_effect, waiting_in, panel_in, effect, step}
use Rattle.rules.specs.Before.{taken_by_arrival, under_arrival, back_to, step_by_arrival, Level}
use Rattle.rules.specs.Claims.{Clear}
use Rattle.tables.proofs.Sound.{SoundIn, all_low}
use Rattle.rules.proofs.Rows.{Same, same_rows}
use Rattle.rules.proofs.Passed.{clear_passed}
use Rattle.rules.proofs.Chosen.{candidate, candidates_are, ordered_level}

rows_same : (rs : List Row) → Same rs rs
rows_same [] = tt
rows_same (r ∷ rs) = (refl, refl, λ h. rows_same rs)

module _ {ed : Edition} (w : WorldIn ed) (level : Level w.state) where
  abbrev same : ℕ → Bool
  same t = eqb (thread_of w.state t).priority (thread_of w.state 0).priority

  listed_same : SoundIn ed w.state → all same (arrivals w.state) ≡ true
  listed_same g = all_weaken (λ t. ltb t (threads_in ed)) same
      (λ t e. let low = ltb-true t (threads_in ed) e in eq-eqb _ _ (level t 0 (omega (arith, g.records)) (omega (arith, g.records))))
      (arrivals w.state) (all_low w.state g)

  module _ (g : SoundIn ed w.state) where
    same_candidates : (q : Thread → Bool) (p a : ℕ) → candidates_in (taken_by_arrival ed) q p a w.state ≡ candidates_in ed q p a w.state
    same_candidates q p a =
        let s = w.state in
        candidates_are (taken_by_arrival ed) q p a s
        ∙ sym (candidates_are ed q p a s
        ∙ ordered_level ed.order s (thread_of s 0).priority (filter (candidate ed q p a s) (arrivals s)) (all_filtered same (candidate ed q p a s) (arrivals s) (listed_same g)))

    module _ (k : Command) (c : Call) where
      same_released : released_in (taken_by_arrival ed) k c w.state ≡ released_in ed k c w.state
      unfolding released_in
      same_released = ap (take c.val) (same_candidates (matches k c) c.process c.uaddr)

      same_moved : moved_in (taken_by_arrival ed) k c w.state ≡ moved_in ed k c w.state
      unfolding moved_in
      same_moved = ap (λ l. take (second_cap c) (drop c.val l)) (same_candidates (matches k c) c.process c.uaddr)

      same_second : released_second k c (under_arrival w) ≡ released_second k c w
      unfolding released_second
      same_second = rw (same_released, same_candidates (matches k c) c.process c.uaddr2)

      same_wake : back_to ed (wake k c (under_arrival w)) ≡ wake k c w
      unfolding wake end_in
      same_wake = rw same_released

      same_requeue : back_to ed (requeue k c (under_arrival w)) ≡ requeue k c w
      unfolding requeue end_in move_in
      same_requeue = rw (same_released, same_moved)

      same_wake_op : back_to ed (wake_op k c (under_arrival w)) ≡ wake_op k c w
      unfolding wake_op end_in write_word
      same_wake_op = rw (same_released, same_second)

    same_call : (k : Command) (c : Call) → back_to ed (call_effect k c (under_arrival w)) ≡ call_effect k c w
    unfolding call_effect wait sleep_in
    same_call Wait c = refl
    same_call WaitBitset c = refl
    same_call Wake c = same_wake Wake c
    same_call WakeBitset c = same_wake WakeBitset c
    same_call Requeue c = same_requeue Requeue c
    same_call CmpRequeue c = same_requeue CmpRequeue c
    same_call WakeOp c = same_wake_op WakeOp c
    same_call Unknown c = refl

  same_refusals : (e : Event) → refusals e w ≡ refusals e (under_arrival w)
  unfolding refusals rows_in tables_in
  same_refusals (CallEvent c) = refl
  same_refusals (Store p a v) = refl
  same_refusals (Clock now) = refl
  same_refusals (Interrupt p i) = refl
  same_refusals (Query p) = refl
  same_refusals (SetPriority p i n) = refl

  same_effect : (e : Event) → Clear (refusals e w) → effect e w ≡ back_to ed (effect e (under_arrival w))
  unfolding refusals effect clock_effect interrupt_effect panel_in waiting_in tables_in end_in write_word
  same_effect (CallEvent c) r = sym (same_call (clear_passed c w r).sound (command_of c.op) c)
  same_effect (Store p a v) r = refl
  same_effect (Clock now) r = refl
  same_effect (Interrupt p i) r = cases (thread_of w.state (thread_number_in ed p i)).waiting (λ e. rw e) (λ e. rw e)
  same_effect (Query p) r = refl
  same_effect (SetPriority p i n) r = refl

  pub as_before : (e : Event) → step e w ≡ step_by_arrival e w
  unfolding step_by_arrival
  as_before e = same_rows e w (under_arrival w) (rw (← same_refusals e) (rows_same (refusals e w))) (λ x y. x ≡ back_to ed y) (λ x. refl) (same_effect e)
