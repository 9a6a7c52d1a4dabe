-- An event that names another process leaves the view as it was.
use mathlib.Core.Path.{◌≡◌, refl, sym, ap, ◌∙◌}
use mathlib.Core.Bool.{true}
use mathlib.Core.List.{List, [], ◌∷◌, ◌++◌}
use Prim.Native.Nat.{ℕ}
use borrow.Author.Tests.{eqb-true, ne_eqb}
use Rattle.lists.specs.Lists.{filter, all}
use Rattle.lists.proofs.Tests.{cases, never}
use Rattle.lists.proofs.Filter.{filter_none, all_append}
use Rattle.tables.specs.declared.State.{State}
use Rattle.tables.specs.declared.LastAnswer.{LastAnswer}
use Rattle.tables.specs.declared.LastAnswer.TheVariants.{Woken, Interrupted}
use Rattle.rules.specs.declared.event.Command.{Command}
use Rattle.rules.specs.declared.event.Command.TheVariants.{WakeOp}
use Rattle.rules.specs.declared.event.Call.{Call}
use Rattle.rules.specs.declared.event.Event.{Event}
use Rattle.rules.specs.declared.event.Event.TheVariants.{Call as CallEvent, Store, Clock, Interrupt, Query, SetPriority}
use Rattle.tables.specs.Tables.{World, thread_number, process_of, thread_of, end_sleeps, move_sleeps, with_state}
use Rattle.rules.specs.Commands.{command_of, uses}
use Rattle.rules.specs.Calls.{caller, released, moved, released_second, wait, wake, requeue, wake_op, call_effect}
use Rattle.rules.specs.Events.{refusals, interrupt_effect, effect, step}
use Rattle.rules.specs.History.{process, named}
use Rattle.rules.specs.Claims.{Clear}
use Rattle.rules.proofs.Commands.{by_command}
use Rattle.rules.proofs.Rows.{step_keeps}
use Rattle.rules.proofs.Passed.{Passed, clear_passed, thread_index, uaddr2_inside}
use Rattle.rules.proofs.View.{own_thread, view_state, view, own_thread_lem, other_thread, view_end, view_move, view_sleep_other, view_priority_other, view_write_other, end_none, move_none}
use Rattle.rules.proofs.Own.{released_own, moved_own, second_own}

module _ (p q : ℕ) (apart : p ≡ q → ⊥) where
  -- threads of the other process are none of the process's
  other_threads : (ts : List ℕ) → all (own_thread q) ts ≡ true → filter (own_thread p) ts ≡ []
  other_threads ts h =
      filter_none (own_thread p) (own_thread q) (λ t e. ne_eqb (process_of t) p (λ d. apart (sym d ∙ eqb-true (process_of t) q e))) ts h

  end_other : (a : LastAnswer) (ts : List ℕ) (s : State) → all (own_thread q) ts ≡ true → view_state p (end_sleeps a ts s) ≡ view_state p s
  end_other a ts s h = view_end p a ts s ∙ ap (λ l. end_sleeps a l (view_state p s)) (other_threads ts h) ∙ end_none p a s

  move_other : (a : ℕ) (ts : List ℕ) (s : State) → all (own_thread q) ts ≡ true → view_state p (move_sleeps a ts s) ≡ view_state p s
  move_other a ts s h = view_move p a ts s ∙ ap (λ l. move_sleeps a l (view_state p s)) (other_threads ts h) ∙ move_none p a s

-- a state that the process sees as before
same_view : (p : ℕ) (s : State) (w : World) → view_state p s ≡ view_state p w.state → view p (with_state s w) ≡ view p w
unfolding view
same_view p s w e = cc

module _ (p : ℕ) (k : Command) (c : Call) (w : World) (apart : p ≡ c.process → ⊥) (g : Passed k c w) where
  wait_other : view p (wait k c w).world ≡ view p w
  unfolding wait
  wait_other = same_view p _ w (view_sleep_other p _ (caller c) w.state (other_thread p c.process c.index apart g.index))

  wake_other : view p (wake k c w).world ≡ view p w
  unfolding wake
  wake_other = same_view p _ w (end_other p c.process apart Woken (released k c w.state) w.state (released_own k c w.state))

  requeue_other : view p (requeue k c w).world ≡ view p w
  unfolding requeue
  requeue_other = same_view p _ w
      (move_other p c.process apart c.uaddr2 (moved k c w.state) _ (moved_own k c w.state)
      ∙ end_other p c.process apart Woken (released k c w.state) w.state (released_own k c w.state))

  wake_op_other : (uses k).second ≡ true → view p (wake_op k c w).world ≡ view p w
  unfolding wake_op
  wake_op_other two =
      let out = released k c w.state ++ released_second k c w in
      view_write_other p c.process c.uaddr2 _ (with_state (end_sleeps Woken out w.state) w) apart (uaddr2_inside k c g.addresses two)
      ∙ same_view p _ w (end_other p c.process apart Woken out w.state
      (all_append (own_thread c.process) (released k c w.state) (released_second k c w) (released_own k c w.state) (second_own k c w)))

call_other : (p : ℕ) (k : Command) (c : Call) (w : World) → (p ≡ c.process → ⊥) → Passed k c w → view p (call_effect k c w).world ≡ view p w
call_other p = by_command (λ k f. (c : Call) (w : World) → (p ≡ c.process → ⊥) → Passed k c w → view p (f c w).world ≡ view p w)
    (λ k i. wait_other p k) (wake_other p) (requeue_other p) (λ c w apart g. wake_op_other p WakeOp c w apart g refl) (λ c w apart g. refl)

effect_other : (p q : ℕ) → (p ≡ q → ⊥) → (e : Event) → named e ≡ process q → (w : World) → Clear (refusals e w) → view p (effect e w).world ≡ view p w
unfolding effect refusals interrupt_effect
effect_other p q apart (CallEvent c) is w h =
    call_other p (command_of c.op) c w (λ e. apart (let d : c.process ≡ q = cc in e ∙ d)) (clear_passed c w h)
effect_other p q apart (Store r a v) is w h =
    view_write_other p r a v w (λ e. apart (let d : r ≡ q = cc in e ∙ d)) h.1.1.1.1.0
effect_other p q apart (Clock now) is w h = never (cc)
effect_other p q apart (Interrupt r i) is w h =
    let t = thread_number r i in
    let d : r ≡ q = cc in
    let other : all (own_thread r) (t ∷ []) ≡ true = rw (own_thread_lem r i (thread_index r i h.1.1.0)) in
    cases (thread_of w.state t).waiting
    (λ e. rw e (same_view p _ w (end_other p r (λ f. apart (f ∙ d)) Interrupted (t ∷ []) w.state other)))
    (λ e. rw e)
effect_other p q apart (Query r) is w h = refl
effect_other p q apart (SetPriority r i n) is w h =
    let d : r ≡ q = cc in
    same_view p _ w (view_priority_other p n (thread_number r i) w.state (other_thread p r i (λ f. apart (f ∙ d)) (thread_index r i h.1.1.0)))

pub step_other : (p q : ℕ) → (p ≡ q → ⊥) → (e : Event) → named e ≡ process q → (w : World) → view p (step e w).world ≡ view p w
step_other p q apart e is w = step_keeps (λ v. view p v ≡ view p w) e w refl (effect_other p q apart e is w)
