-- Demand 2, wakes and requeues: whom they take, what they leave, and what their count counts.
use mathlib.Core.Path.{◌≡◌, refl, sym, ap, ◌∙◌}
use mathlib.Core.Bool.{true, false, not, cond, ◌&&◌}
use mathlib.Core.List.{List, [], ◌∷◌, ◌++◌, append-nil}
use Prim.Native.Nat.{ℕ, ◌+◌, ◌≤◌}
use native.Mathlib.Omega.{arith}
use lib.ListN.{length, length-append}
use lib.Dec.{eqb, leb}
use borrow.Author.Tests.{eqb-true}
use Rattle.lists.specs.Lists.{elem, bit, count_below}
use Rattle.lists.proofs.Tests.{cases, clash, never, and_left}
use Rattle.lists.proofs.Count.{count_below_ext}
use Rattle.lists.proofs.Occurs.{occurs, elem_occurs, absent_occurs, occurs_absent, occurs_append, occurs_without, occurs_taken_out, occurs_filter_le, elem_all, elem_filter}
use Rattle.tables.specs.declared.State.{State}
use Rattle.tables.specs.declared.Thread.{Thread}
use Rattle.tables.specs.declared.LastAnswer.{LastAnswer}
use Rattle.tables.specs.declared.LastAnswer.TheVariants.{Woken, TimedOut, Interrupted}
use Rattle.rules.specs.declared.event.Command.{Command}
use Rattle.rules.specs.declared.event.Command.TheVariants.{Wait, Wake, Requeue, CmpRequeue, WakeOp, WaitBitset, WakeBitset, Unknown}
use Rattle.rules.specs.declared.event.Call.{Call}
use Rattle.rules.specs.declared.event.Event.{Event}
use Rattle.rules.specs.declared.event.Event.TheVariants.{Call as CallEvent, Store, Clock, Interrupt, Query, SetPriority}
use Rattle.rules.specs.declared.answer.Answer.TheVariants.{Count}
use Rattle.tables.specs.Sizes.{threads}
use Rattle.tables.specs.Editions.{present}
use Rattle.tables.specs.Tables.{expired, expired_sleepers, World, thread_number, thread_of, arrivals, fresh_thread, with_priority, end_in, end_sleeps, move_in, move_sleeps, set_priority, write_word, with_clock}
use Rattle.rules.specs.Answers.{Outcome}
use Rattle.rules.specs.Commands.{command_of, uses}
use Rattle.rules.specs.Calls.{matches, released, moved, released_second, wait, wake, requeue, wake_op, call_effect}
use Rattle.rules.specs.Events.{refusals, effect, step, clock_effect, interrupt_effect}
use Rattle.rules.specs.Claims.{Clear, Took, Takes, woke, shifted, woken_count, shifted_count, counts_moves}
use Rattle.rules.proofs.Rows.{counted_clear, counted_done}
use Rattle.tables.proofs.Changes.{change_kept}
use Rattle.tables.proofs.Sound.{Sound, once, listed_waiting, part_below}
use Rattle.rules.proofs.Passed.{Passed, clear_passed, sound_of, addresses_apart}
use Rattle.rules.proofs.Chosen.{candidate_at, moved_pass, at_first, parts_listed, second_listed}
use Rattle.rules.proofs.Took.{took_none, took_end, took_move, took_clock, count_woke, count_shifted}

module _ (k : Command) (c : Call) (w : World) (g : Sound w.state) where
  released_listed : (t : ℕ) → occurs t (released k c w.state) ≤ occurs t (arrivals w.state)
  released_listed t = omega (arith, parts_listed present k c w.state t)

  moved_listed : (t : ℕ) → occurs t (moved k c w.state) ≤ occurs t (arrivals w.state)
  moved_listed t = omega (arith, parts_listed present k c w.state t)

  moved_not_released : (t : ℕ) → elem t (moved k c w.state) ≡ true → elem t (released k c w.state) ≡ false
  moved_not_released t e =
      occurs_absent t (released k c w.state) (omega (arith, parts_listed present k c w.state t, elem_occurs t (moved k c w.state) e, once w.state g t))

  both_listed : (t : ℕ) → occurs t (released k c w.state ++ released_second k c w) ≤ occurs t (arrivals w.state)
  both_listed t =
      let out = released k c w.state in
      cases (elem t out)
      (λ e. omega (arith, occurs_append t out (released_second k c w), second_listed present k c w t, occurs_taken_out t out (arrivals w.state) e, released_listed t))
      (λ e. omega (arith, occurs_append t out (released_second k c w), second_listed present k c w t, occurs_without t out (arrivals w.state) e, absent_occurs t out e))

  took_released : Took Woken (released k c w.state) [] c.uaddr2 w.state (end_sleeps Woken (released k c w.state) w.state)
  took_released = took_end Woken (released k c w.state) w.state g.records (part_below w.state g (released k c w.state) released_listed) c.uaddr2

  took_requeue : Took Woken (released k c w.state) (moved k c w.state) c.uaddr2 w.state
      (move_sleeps c.uaddr2 (moved k c w.state) (end_sleeps Woken (released k c w.state) w.state))
  took_requeue =
      took_move Woken (released k c w.state) w.state g.records (part_below w.state g (released k c w.state) released_listed) c.uaddr2
      (moved k c w.state) (part_below w.state g (moved k c w.state) moved_listed) moved_not_released

  took_both : Took Woken (released k c w.state ++ released_second k c w) [] c.uaddr2 w.state
      (end_sleeps Woken (released k c w.state ++ released_second k c w) w.state)
  took_both =
      let out = released k c w.state ++ released_second k c w in
      took_end Woken out w.state g.records (part_below w.state g out both_listed) c.uaddr2

-- a released list alone
alone : (k : Command) (c : Call) (w : World) (on : List ℕ) (u : State) → Took Woken (released k c w.state) on c.uaddr2 w.state u
    → Took Woken (released k c w.state ++ []) on c.uaddr2 w.state u
alone k c w on u took = rw (append-nil (released k c w.state)) took

effect_takes : (k : Command) (c : Call) (w : World) (n : ℕ) → Sound w.state → (call_effect k c w).answer ≡ Count n
    → Takes k c w (call_effect k c w).world
unfolding call_effect wait wake requeue wake_op end_in move_in write_word
effect_takes Wait c w n g h = never (cc)
effect_takes WaitBitset c w n g h = never (cc)
effect_takes Wake c w n g h = record { took = alone Wake c w _ _ (took_released Wake c w g); clock = refl; words = refl }
effect_takes WakeBitset c w n g h = record { took = alone WakeBitset c w _ _ (took_released WakeBitset c w g); clock = refl; words = refl }
effect_takes Requeue c w n g h = record { took = alone Requeue c w _ _ (took_requeue Requeue c w g); clock = refl; words = refl }
effect_takes CmpRequeue c w n g h = record { took = alone CmpRequeue c w _ _ (took_requeue CmpRequeue c w g); clock = refl; words = refl }
effect_takes WakeOp c w n g h = record { took = took_both WakeOp c w g; clock = refl; words = refl }
effect_takes Unknown c w n g h = never (cc)

-- the clock's and an interrupt's sleepers
expired_listed : (now : ℕ) (s : State) (t : ℕ) → occurs t (expired_sleepers now s) ≤ occurs t (arrivals s)
unfolding expired_sleepers
expired_listed now s t = occurs_filter_le (λ t. expired now (thread_of s t)) t (arrivals s)

pub took_expired : (now : ℕ) (s : State) → Sound s
    → Took TimedOut (expired_sleepers now s) [] 0 s (end_sleeps TimedOut (expired_sleepers now s) (with_clock now s))
took_expired now s g =
    took_clock now
    (took_end TimedOut (expired_sleepers now s) (with_clock now s) g.records (part_below s g (expired_sleepers now s) (expired_listed now s)) 0)

one_listed : (t : ℕ) (s : State) → Sound s → (thread_of s t).waiting ≡ true → (u : ℕ) → occurs u (t ∷ []) ≤ occurs u (arrivals s)
one_listed t s g e u = cases (eqb u t)
    (λ d. rw (d, eqb-true u t d) (omega (arith, g.exact t, ap bit e)))
    (λ d. rw d (omega arith))

pub took_interrupted : (t : ℕ) (s : State) → Sound s → (thread_of s t).waiting ≡ true → Took Interrupted (t ∷ []) [] 0 s (end_sleeps Interrupted (t ∷ []) s)
took_interrupted t s g e = took_end Interrupted (t ∷ []) s g.records (part_below s g (t ∷ []) (one_listed t s g e)) 0

-- A wake or requeue takes these, and leaves every other record and the order of every other entry as they were.
pub takes_first : (c : Call) (w : World) (n : ℕ) → (step (CallEvent c) w).answer ≡ Count n
    → Takes (command_of c.op) c w (step (CallEvent c) w).world
unfolding refusals effect
takes_first c w n h =
    let done = counted_done (CallEvent c) w n h in
    let g = clear_passed c w (counted_clear (CallEvent c) w n h) in
    rw done (effect_takes (command_of c.op) c w n g.sound (ap (λ (o : Outcome). o.answer) (sym done) ∙ h))

-- The clock ends every sleep whose deadline it reaches, an interrupt that of the thread it names, and neither ends another.
pub clock_ends : (now : ℕ) (w : World) (n : ℕ) → (step (Clock now) w).answer ≡ Count n
    → Took TimedOut (expired_sleepers now w.state) [] 0 w.state (step (Clock now) w).world.state
unfolding refusals effect clock_effect
clock_ends now w n h =
    rw (counted_done (Clock now) w n h) (took_expired now w.state (sound_of w (counted_clear (Clock now) w n h).1.0))

pub expired_all : (now : ℕ) (w : World) (n : ℕ) → (step (Clock now) w).answer ≡ Count n
    → (t : ℕ) → expired now (thread_of w.state t) ≡ true → elem t (expired_sleepers now w.state) ≡ true
unfolding refusals expired_sleepers
expired_all now w n h t e =
    let g = sound_of w (counted_clear (Clock now) w n h).1.0 in
    let r = thread_of w.state t in
    elem_filter (λ t. expired now (thread_of w.state t)) t (arrivals w.state) e
    ∙ listed_waiting w.state g t
    ∙ and_left r.waiting r.timed (and_left (r.waiting && r.timed) (leb r.deadline now) e)

pub interrupt_ends : (p i : ℕ) (w : World) (n : ℕ) → (step (Interrupt p i) w).answer ≡ Count n → (thread_of w.state (thread_number p i)).waiting ≡ true
    → Took Interrupted (thread_number p i ∷ []) [] 0 w.state (step (Interrupt p i) w).world.state
unfolding refusals effect interrupt_effect
interrupt_ends p i w n h e =
    rw (counted_done (Interrupt p i) w n h, e) (took_interrupted (thread_number p i) w.state (sound_of w (counted_clear (Interrupt p i) w n h).1.0) e)

-- The count.

-- nothing but sleeps that ended
ends_counted : (a : LastAnswer) (out : List ℕ) (target : ℕ) (s u : State) → Sound s → Took a out [] target s u → ((t : ℕ) → occurs t out ≤ occurs t (arrivals s))
    → length out ≡ count_below threads (woke s u)
ends_counted a out target s u g took sub = count_woke a out [] target s u g took (λ t. omega (arith, sub t)) (λ t e. clash false e refl)

module _ (k : Command) (c : Call) (w : World) (g : Sound w.state) where
  module _ (v : State) (took : Took Woken (released k c w.state) (moved k c w.state) c.uaddr2 w.state v) (apart : eqb c.uaddr c.uaddr2 ≡ false) where
    away : (t : ℕ) → elem t (moved k c w.state) ≡ true → eqb (thread_of w.state t).uaddr c.uaddr2 ≡ false
    away t e =
        let here = elem_all (at_first present k c w.state) (moved k c w.state) (moved_pass present k c w.state) t e in
        rw (candidate_at present (matches k c) c.process c.uaddr w.state t here) apart

    released_counted : length (released k c w.state) ≡ count_below threads (woke w.state v)
    released_counted = count_woke Woken _ (moved k c w.state) c.uaddr2 w.state v g took (parts_listed present k c w.state) away

    moved_counted : length (moved k c w.state) ≡ count_below threads (shifted w.state v)
    moved_counted = count_shifted Woken _ (moved k c w.state) c.uaddr2 w.state v g took (parts_listed present k c w.state) away

  both_counted : (v : State) → Took Woken (released k c w.state ++ released_second k c w) [] c.uaddr2 w.state v
      → length (released k c w.state) + length (released_second k c w) ≡ count_below threads (woke w.state v)
  both_counted v took =
      sym (length-append (released k c w.state) (released_second k c w))
      ∙ ends_counted Woken (released k c w.state ++ released_second k c w) c.uaddr2 w.state v g took (both_listed k c w g)

call_counted : (k : Command) (c : Call) (w : World) (n : ℕ) → Passed k c w → (call_effect k c w).answer ≡ Count n
    → n ≡ woken_count w (call_effect k c w).world + cond ((uses k).moves && (uses k).compare) (shifted_count w (call_effect k c w).world) 0
unfolding call_effect wait wake requeue wake_op write_word
call_counted Wait c w n g h = never (cc)
call_counted WaitBitset c w n g h = never (cc)
call_counted Wake c w n g h = let m : n ≡ length (released Wake c w.state) = cc in
    omega (arith, ends_counted Woken _ _ w.state _ g.sound (took_released Wake c w g.sound) (released_listed Wake c w g.sound))
call_counted WakeBitset c w n g h = let m : n ≡ length (released WakeBitset c w.state) = cc in
    omega (arith, ends_counted Woken _ _ w.state _ g.sound (took_released WakeBitset c w g.sound) (released_listed WakeBitset c w g.sound))
call_counted Requeue c w n g h = let m : n ≡ length (released Requeue c w.state) + 0 = cc in
    omega (arith, released_counted Requeue c w g.sound _ (took_requeue Requeue c w g.sound) (addresses_apart Requeue c g.arguments refl))
call_counted CmpRequeue c w n g h = let m : n ≡ length (released CmpRequeue c w.state) + length (moved CmpRequeue c w.state) = cc in
    let apart = addresses_apart CmpRequeue c g.arguments refl in
    let took = took_requeue CmpRequeue c w g.sound in
    omega (arith, released_counted CmpRequeue c w g.sound _ took apart, moved_counted CmpRequeue c w g.sound _ took apart)
call_counted WakeOp c w n g h = let m : n ≡ length (released WakeOp c w.state) + length (released_second WakeOp c w) = cc in
    omega (arith, both_counted WakeOp c w g.sound _ (took_both WakeOp c w g.sound))
call_counted Unknown c w n g h = never (cc)

nothing_woken : (w : World) → Sound w.state → 0 ≡ woken_count w w
nothing_woken w g = ends_counted Woken [] 0 w.state w.state g (took_none Woken 0 w.state) (λ t. omega arith)

-- a priority that is set wakes nobody
still_waiting : (n t : ℕ) (s : State) (u : ℕ) → (thread_of (set_priority n t s) u).waiting ≡ (thread_of s u).waiting
unfolding set_priority
still_waiting n t s u = change_kept (λ (r : Thread). r.waiting) (with_priority n) (λ r. refl) (t ∷ []) s.threads u fresh_thread

effect_counted : (e : Event) (w : World) (n : ℕ) → Clear (refusals e w) → (effect e w).answer ≡ Count n
    → n ≡ woken_count w (effect e w).world + cond (counts_moves e) (shifted_count w (effect e w).world) 0
unfolding effect refusals clock_effect interrupt_effect write_word
effect_counted (CallEvent c) w n r h = call_counted (command_of c.op) c w n (clear_passed c w r) h
effect_counted (Store p a v) w n r h = let m : n ≡ 0 = cc in omega (arith, nothing_woken w (sound_of w r.1.0))
effect_counted (Clock now) w n r h =
    let g = sound_of w r.1.0 in
    let m : n ≡ length (expired_sleepers now w.state) = cc in
    omega (arith, ends_counted TimedOut (expired_sleepers now w.state) 0 w.state _ g (took_expired now w.state g) (expired_listed now w.state))
effect_counted (Interrupt p i) w n r h = cases (thread_of w.state (thread_number p i)).waiting
    (λ e.
    let g = sound_of w r.1.0 in
    let m : n ≡ 1 = cc in
    rw e (omega (arith, ends_counted Interrupted (thread_number p i ∷ []) 0 w.state _ g (took_interrupted (thread_number p i) w.state g e) (one_listed (thread_number p i) w.state g e))))
    (λ e. let m : n ≡ 0 = cc in rw e (omega (arith, nothing_woken w (sound_of w r.1.0))))
effect_counted (Query p) w n r h = never (cc)
effect_counted (SetPriority p i k) w n r h =
    let m : n ≡ 0 = cc in
    omega (arith, nothing_woken w (sound_of w r.1.0), count_below_ext threads _ _ (λ t l. ap (λ b. (thread_of w.state t).waiting && not b) (sym (still_waiting k (thread_number p i) w.state t))))

-- "it is the number of records that went from waiting to running, and, where moves count, of those still waiting whose address changed"
pub counted : (e : Event) (w : World) (n : ℕ) → (step e w).answer ≡ Count n
    → n ≡ woken_count w (step e w).world + cond (counts_moves e) (shifted_count w (step e w).world) 0
counted e w n h =
    let done = counted_done e w n h in
    rw done (effect_counted e w n (counted_clear e w n h) (ap (λ (o : Outcome). o.answer) (sym done) ∙ h))
