-- An event of the process, on the view, is answered and leaves what it does on the whole; a clock event leaves it.
use mathlib.Core.Path.{◌≡◌, refl, sym, ap, ◌∙◌}
use mathlib.Core.Bool.{Bool, true, false, not, ◌&&◌, and-false}
use mathlib.Core.List.{[], ◌∷◌, ◌++◌}
use Prim.Native.Nat.{ℕ, suc, zero, ◌<◌}
use native.Mathlib.Omega.{arith}
use lib.ListN.{take, drop}
use Rattle.lists.specs.Lists.{filter, all}
use Rattle.lists.proofs.Tests.{cases}
use Rattle.lists.proofs.Filter.{filter_within, filter_all, filter_filter, all_filter, all_weaken, all_append}
use Rattle.tables.specs.declared.State.{State}
use Rattle.tables.specs.declared.Thread.{Thread}
use Rattle.tables.specs.declared.LastAnswer.TheVariants.{Woken, TimedOut, Interrupted}
use Rattle.rules.specs.declared.event.Command.{Command}
use Rattle.rules.specs.declared.event.Command.TheVariants.{WakeOp}
use Rattle.rules.specs.declared.event.Call.{Call}
use Rattle.rules.specs.declared.event.Event.{Event}
use Rattle.rules.specs.declared.event.Event.TheVariants.{Call as CallEvent, Store, Clock, Interrupt, Query, SetPriority}
use Rattle.rules.specs.declared.answer.Answer.TheVariants.{Waiting}
use Rattle.tables.specs.Sizes.{threads_per_process}
use Rattle.tables.specs.Editions.{present}
use Rattle.tables.specs.Tables.{expired, expired_sleepers, World, thread_number, thread_of, arrivals, word_at, end_sleeps, set_priority, with_clock, with_state, tables_ok}
use Rattle.rules.specs.Answers.{Outcome, outcome}
use Rattle.rules.specs.Commands.{command_of, uses}
use Rattle.rules.specs.WakeOp.{new_word}
use Rattle.rules.specs.Calls.{wrong_memory, caller, second_cap, argument_rows, matches, ordered, candidates, released_in, released, moved_in, moved, released_second, wait, wake, requeue, wake_op, call_effect, rows_in}
use Rattle.rules.specs.Events.{refusals, clock_effect, interrupt_effect, bits_below, waiting_in, panel_in, panel, effect, step}
use Rattle.rules.specs.Claims.{Clear}
use Rattle.rules.proofs.Commands.{by_command}
use Rattle.rules.proofs.Rows.{Same, ◌then◌, same_behind, same_rows}
use Rattle.rules.proofs.Preserved.{Valid}
use Rattle.rules.proofs.Passed.{Passed, clear_passed, memory_right, sound_right, thread_index, uaddr_inside, uaddr2_inside}
use Rattle.rules.proofs.Chosen.{candidate, candidate_own, candidates_are, ordered_agree, released_pass, moved_pass, second_pass, at_first, at_second}
use Rattle.rules.proofs.View.{own_thread, view_state, view, view_state_lem, view_with_state, own_thread_lem, view_arrivals, view_own, view_clock, view_word, view_end, view_move, view_sleep_own, view_with_clock, view_priority_own, view_write_own, view_valid}

abbrev pub view_out : ℕ → Outcome → Outcome
view_out p o = outcome o.answer (view p o.world)

-- whom the process's wakes and requeues take: own sleepers, whom the view shows
module _ (p : ℕ) where
  own_candidates : (q : Thread → Bool) (a : ℕ) (s : State) → candidates q p a (view_state p s) ≡ candidates q p a s
  own_candidates q a s =
      candidates_are present q p a (view_state p s)
      ∙ ap (ordered present.order (view_state p s))
      (ap (filter (candidate present q p a (view_state p s))) (view_arrivals p s)
      ∙ filter_within (candidate present q p a (view_state p s)) (candidate present q p a s) (own_thread p) same none (arrivals s))
      ∙ ordered_agree present.order (own_thread p) s (view_state p s) (view_own p s) (filter (candidate present q p a s) (arrivals s))
      (all_weaken (candidate present q p a s) (own_thread p) (candidate_own present q p a s) (filter (candidate present q p a s) (arrivals s)) (all_filter (candidate present q p a s) (arrivals s)))
      ∙ sym (candidates_are present q p a s)
    where
      same : (t : ℕ) → own_thread p t ≡ true → candidate present q p a (view_state p s) t ≡ candidate present q p a s t
      same t e = rw (view_own p s t e)

      none : (t : ℕ) → own_thread p t ≡ false → candidate present q p a s t ≡ false
      none t e = rw e (and-false (q (thread_of s t)))

module _ (k : Command) (c : Call) where
  pub released_own : (s : State) → all (own_thread c.process) (released k c s) ≡ true
  released_own s = all_weaken (at_first present k c s) _ (candidate_own present (matches k c) c.process c.uaddr s) (released k c s) (released_pass present k c s)

  pub moved_own : (s : State) → all (own_thread c.process) (moved k c s) ≡ true
  moved_own s = all_weaken (at_first present k c s) _ (candidate_own present (matches k c) c.process c.uaddr s) (moved k c s) (moved_pass present k c s)

  pub second_own : (w : World) → all (own_thread c.process) (released_second k c w) ≡ true
  second_own w =
      all_weaken (at_second present k c w.state) _ (candidate_own present (matches k c) c.process c.uaddr2 w.state) (released_second k c w) (second_pass present k c w)

  released_view : (s : State) → released k c (view_state c.process s) ≡ released k c s
  unfolding released_in
  released_view s = ap (take c.val) (own_candidates c.process (matches k c) c.uaddr s)

  moved_view : (s : State) → moved k c (view_state c.process s) ≡ moved k c s
  unfolding moved_in
  moved_view s = ap (λ l. take (second_cap c) (drop c.val l)) (own_candidates c.process (matches k c) c.uaddr s)

  second_view : (w : World) → word_at (view c.process w) c.process c.uaddr2 ≡ word_at w c.process c.uaddr2
      → released_second k c (view c.process w) ≡ released_second k c w
  unfolding released_second
  second_view w e =
      cc (e, view_state_lem c.process w, released_view w.state, own_candidates c.process (matches k c) c.uaddr2 w.state)

-- the commands
module _ (k : Command) (c : Call) (w : World) (g : Passed k c w) where
  wait_own : view_out c.process (wait k c w) ≡ wait k c (view c.process w)
  unfolding wait
  wait_own =
      let p = c.process in
      cc (view_with_state p _ w, view_sleep_own p _ (caller c) w.state (own_thread_lem p c.index g.index), view_state_lem p w, view_clock p w.state)

  wake_own : view_out c.process (wake k c w) ≡ wake k c (view c.process w)
  unfolding wake
  wake_own =
      let p = c.process in
      let out = released k c w.state in
      cc (
        view_with_state p (end_sleeps Woken out w.state) w,
        view_end p Woken out w.state,
        filter_all (own_thread p) out (released_own k c w.state),
        view_state_lem p w,
        released_view k c w.state,
      )

  requeue_own : view_out c.process (requeue k c w) ≡ requeue k c (view c.process w)
  unfolding requeue
  requeue_own =
      let p = c.process in
      let out = released k c w.state in
      let on = moved k c w.state in
      cc (
        view_with_state p _ w,
        view_move p c.uaddr2 on (end_sleeps Woken out w.state),
        view_end p Woken out w.state,
        filter_all (own_thread p) out (released_own k c w.state),
        filter_all (own_thread p) on (moved_own k c w.state),
        view_state_lem p w,
        released_view k c w.state,
        moved_view k c w.state,
      )

  wake_op_own : (uses k).second ≡ true → view_out c.process (wake_op k c w) ≡ wake_op k c (view c.process w)
  unfolding wake_op
  wake_op_own two =
      let p = c.process in
      let out = released k c w.state in
      let out2 = released_second k c w in
      let near = uaddr2_inside k c g.addresses two in
      let old = view_word p w c.uaddr2 near in
      cc (
        view_write_own p c.uaddr2 (new_word c.val3 (word_at w p c.uaddr2)) (with_state (end_sleeps Woken (out ++ out2) w.state) w) near,
        view_with_state p (end_sleeps Woken (out ++ out2) w.state) w,
        view_end p Woken (out ++ out2) w.state,
        filter_all (own_thread p) (out ++ out2) (all_append (own_thread p) out out2 (released_own k c w.state) (second_own k c w)),
        view_state_lem p w,
        released_view k c w.state,
        second_view k c w old,
        old,
      )

call_own : (k : Command) (c : Call) (w : World) → Passed k c w → view_out c.process (call_effect k c w) ≡ call_effect k c (view c.process w)
call_own = by_command (λ k f. (c : Call) (w : World) → Passed k c w → view_out c.process (f c w) ≡ f c (view c.process w))
    (λ k i. wait_own k) wake_own requeue_own (λ c w g. wake_op_own WakeOp c w g refl) (λ c w g. refl)

-- the tests: each is the same on the view, where those before it do not apply
both_false : {a b : Bool} → a ≡ false → b ≡ false → a ≡ b
both_false e d = e ∙ sym d

module _ (p : ℕ) (w : World) (g : Valid w) where
  same_memory : wrong_memory w ≡ wrong_memory (view p w)
  same_memory = both_false (memory_right w g.memory) (memory_right (view p w) (view_valid p w g).memory)

  same_tables : not (tables_ok w.state) ≡ not (tables_ok (view p w).state)
  same_tables = both_false (sound_right w g.sound) (sound_right (view p w) (view_valid p w g).sound)

  same_waiting : (i : ℕ) → i < threads_per_process
      → (thread_of w.state (thread_number p i)).waiting ≡ (thread_of (view p w).state (thread_number p i)).waiting
  same_waiting i h = rw (view_state_lem p w, view_own p w.state (thread_number p i) (own_thread_lem p i h))

call_rows_lem : (c : Call) (w : World) → Valid w → Same (refusals (CallEvent c) w) (refusals (CallEvent c) (view c.process w))
unfolding refusals rows_in
call_rows_lem c w g =
    let p = c.process in
    same_memory p w g then λ h1.
    same_tables p w g then λ h2.
    refl then λ h3.
    same_waiting p w g c.index (thread_index p c.index h3) then λ h4.
    refl then λ h5.
    same_behind (argument_rows (command_of c.op) c) _ _
    (refl then λ h6.
    refl then λ h7.
    (rw (view_word p w c.uaddr (uaddr_inside (command_of c.op) c h6))) then λ h8.
    (rw (view_state_lem p w, view_clock p w.state)) then λ h9.
    tt)

-- the panel
bits_below_ext : (n : ℕ) (f h : ℕ → Bool) → ((i : ℕ) → i < n → f i ≡ h i) → bits_below n f ≡ bits_below n h
unfolding bits_below
bits_below_ext zero f h e = refl
bits_below_ext (suc n) f h e = cc (bits_below_ext n f h (λ i l. e i (omega arith)), e n (omega arith))

panel_own : (p : ℕ) (w : World) → Valid w → panel p (view p w).state ≡ panel p w.state
unfolding panel_in waiting_in
panel_own p w g =
    cc (
      same_tables p w g,
      bits_below_ext threads_per_process (λ i. (thread_of w.state (thread_number p i)).waiting) (λ i. (thread_of (view p w).state (thread_number p i)).waiting) (same_waiting p w g),
    )

-- the sleepers whose deadline has come
expired_view : (p now : ℕ) (s : State) → filter (own_thread p) (expired_sleepers now s) ≡ expired_sleepers now (view_state p s)
unfolding expired_sleepers
expired_view p now s =
    filter_filter (own_thread p) (λ t. expired now (thread_of s t)) (arrivals s)
    ∙ sym (ap (filter (λ t. expired now (thread_of (view_state p s) t))) (view_arrivals p s)
    ∙ filter_within (λ t. expired now (thread_of (view_state p s) t)) (λ t. own_thread p t && expired now (thread_of s t)) (own_thread p) same none (arrivals s))
  where
    same : (t : ℕ) → own_thread p t ≡ true → expired now (thread_of (view_state p s) t) ≡ (own_thread p t && expired now (thread_of s t))
    same t e = rw (e, view_own p s t e)

    none : (t : ℕ) → own_thread p t ≡ false → (own_thread p t && expired now (thread_of s t)) ≡ false
    none t e = rw e

-- a step, where the tests and the effect are the same on the view
module _ (p : ℕ) (e : Event) (w : World) (rows : Same (refusals e w) (refusals e (view p w))) where
  own_step : (Clear (refusals e w) → view_out p (effect e w) ≡ effect e (view p w)) → view_out p (step e w) ≡ step e (view p w)
  own_step h = same_rows e w (view p w) rows (λ o u. view_out p o ≡ u) (λ x. refl) h

  kept_step : (Clear (refusals e w) → view p (effect e w).world ≡ (effect e (view p w)).world) → view p (step e w).world ≡ (step e (view p w)).world
  kept_step h = same_rows e w (view p w) rows (λ o u. view p o.world ≡ u.world) (λ x. refl) h

module _ (w : World) (g : Valid w) where
  pub step_call : (c : Call) → view_out c.process (step (CallEvent c) w) ≡ step (CallEvent c) (view c.process w)
  unfolding refusals effect
  step_call c = own_step c.process (CallEvent c) w (call_rows_lem c w g) (λ h. call_own (command_of c.op) c w (clear_passed c w h))

  pub step_store : (p a v : ℕ) → view_out p (step (Store p a v) w) ≡ step (Store p a v) (view p w)
  unfolding refusals effect
  step_store p a v = own_step p (Store p a v) w
      (same_memory p w g then λ h1. same_tables p w g then λ h2. refl then λ h3. refl then λ h4. refl then λ h5. tt)
      (λ h. cc (view_write_own p a v w h.1.1.1.1.0))

  pub step_interrupt : (p i : ℕ) → view_out p (step (Interrupt p i) w) ≡ step (Interrupt p i) (view p w)
  unfolding refusals effect interrupt_effect
  step_interrupt p i = own_step p (Interrupt p i) w
      (same_memory p w g then λ h1. same_tables p w g then λ h2. refl then λ h3. tt)
      (λ h.
      let t = thread_number p i in
      let small = thread_index p i h.1.1.0 in
      let on = same_waiting p w g i small in
      let own = filter_all (own_thread p) (t ∷ []) (rw (own_thread_lem p i small)) in
      cases (thread_of w.state t).waiting
      (λ e. cc (on, view_with_state p (end_sleeps Interrupted (t ∷ []) w.state) w, view_end p Interrupted (t ∷ []) w.state, own, view_state_lem p w))
      (λ e. cc (on)))

  pub step_query : (p : ℕ) → view_out p (step (Query p) w) ≡ step (Query p) (view p w)
  unfolding refusals effect
  step_query p = own_step p (Query p) w tt (λ h. ap (λ v. outcome (Waiting v) (view p w)) (sym (panel_own p w g)))

  pub step_priority : (p i n : ℕ) → view_out p (step (SetPriority p i n) w) ≡ step (SetPriority p i n) (view p w)
  unfolding refusals effect
  step_priority p i n = own_step p (SetPriority p i n) w
      (same_memory p w g then λ h1. same_tables p w g then λ h2. refl then λ h3. refl then λ h4. tt)
      (λ h.
      let t = thread_number p i in
      cc (view_with_state p (set_priority n t w.state) w, view_priority_own p n t w.state (own_thread_lem p i (thread_index p i h.1.1.0)), view_state_lem p w))

  pub step_clock : (p now : ℕ) → view p (step (Clock now) w).world ≡ (step (Clock now) (view p w)).world
  unfolding refusals effect clock_effect
  step_clock p now =
      let out = expired_sleepers now w.state in
      kept_step p (Clock now) w
      (same_memory p w g then λ h1. same_tables p w g then λ h2. (rw (view_state_lem p w, view_clock p w.state)) then λ h3. tt)
      (λ h. cc (
        view_with_state p (end_sleeps TimedOut out (with_clock now w.state)) w,
        view_end p TimedOut out (with_clock now w.state),
        view_with_clock p now w.state,
        expired_view p now w.state,
        view_state_lem p w,
      ))
