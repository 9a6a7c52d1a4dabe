-- No lost wake: over any history, a thread is asleep at a word only by a wait that saw its number there, or by a requeue to it.
use mathlib.Core.Path.{◌≡◌, refl, sym, ap, ◌∙◌}
use mathlib.Core.Bool.{true, false, ◌&&◌}
use mathlib.Core.List.{List, [], ◌∷◌}
use mathlib.Core.Logic.{◌⊎◌, inl, inr}
use Prim.Native.Nat.{ℕ, ◌≤◌}
use lib.ListN.{length, take}
use lib.Seq.{take_all}
use lib.Dec.{eqb}
use borrow.Author.Tests.{eqb-true, eq-eqb}
use Rattle.lists.specs.Lists.{elem}
use Rattle.lists.proofs.Tests.{cases, clash, by_cases, and_intro, and_left, and_right}
use Rattle.lists.proofs.Filter.{filter_true}
use Rattle.lists.proofs.Occurs.{elem_filter, elem_all, elem_append}
use Rattle.tables.specs.declared.Thread.{Thread}
use Rattle.tables.specs.declared.LastAnswer.TheVariants.{Woken}
use Rattle.rules.specs.declared.event.Command.{Command}
use Rattle.rules.specs.declared.event.Command.TheVariants.{Wake}
use Rattle.rules.specs.declared.event.Call.{Call}
use Rattle.rules.specs.declared.event.Event.{Event}
use Rattle.rules.specs.declared.event.Event.TheVariants.{Call as CallEvent}
use Rattle.rules.specs.declared.answer.Answer.TheVariants.{Count}
use Rattle.tables.specs.Editions.{present}
use Rattle.tables.specs.Tables.{World, process_of, thread_of, arrivals, sleeps_at, queue_in, queue}
use Rattle.rules.specs.Commands.{command_of, uses}
use Rattle.rules.specs.Calls.{ordered, matches, candidates_in, released_in, released, moved}
use Rattle.rules.specs.Events.{refusals, step}
use Rattle.rules.specs.History.{final}
use Rattle.rules.specs.Claims.{Took, woken_by, moved_by, Fate, stays, sleeps, wakes, moves, times_out, is_interrupted, is_set, asleep_there, Enters, by_wait, by_requeue, slept_through, Since}
use Rattle.tables.proofs.Sound.{Sound, listed_waiting}
use Rattle.rules.proofs.Passed.{clear_passed}
use Rattle.rules.proofs.Chosen.{candidate_own, moved_pass, ordered_length, ordered_elem}
use Rattle.rules.proofs.Rows.{counted_clear}
use Rattle.rules.proofs.Taken.{takes_first}
use Rattle.rules.proofs.Requeued.{requeue_answered}
use Rattle.rules.proofs.Fate.{fate}

module _ (t a : ℕ) where
  not_running : (r : Thread) → r.waiting ≡ false → (r.waiting && eqb r.uaddr a) ≡ true → false ≡ true
  not_running r off h = sym off ∙ and_left r.waiting (eqb r.uaddr a) h

  at_address : (r : Thread) → (r.waiting && eqb r.uaddr a) ≡ true → r.uaddr ≡ a
  at_address r h = eqb-true r.uaddr a (and_right r.waiting (eqb r.uaddr a) h)

  requeued : (c : Call) (w : World) → elem t (moved_by (command_of c.op) c w) ≡ true
      → ((uses (command_of c.op)).moves ≡ true) × (c.process ≡ process_of t) × (elem t (moved (command_of c.op) c w.state) ≡ true)
  requeued c w h = cases (uses k).moves
      (λ m.
      let e : elem t (moved k c w.state) ≡ true = rw m at h in
      (m, sym (eqb-true (process_of t) c.process (candidate_own present (matches k c) c.process c.uaddr w.state t (elem_all _ (moved k c w.state) (moved_pass present k c w.state) t e))), e))
      (λ m. clash false (rw m at h) refl)
    where
      k : Command
      k = command_of c.op

  enters : (e : Event) (w : World) → asleep_there t a w ≡ false → asleep_there t a (step e w).world ≡ true → Enters t a e w
  enters e w was-not now-asleep = go (fate e w t)
    where
      go : Fate e w t → Enters t a e w
      go (stays same) = clash (asleep_there t a w) (ap (λ (r : Thread). r.waiting && eqb r.uaddr a) (sym same) ∙ now-asleep) was-not
      go (sleeps c is it s new) = by_wait c is it (ap (λ (r : Thread). r.uaddr) (sym new) ∙ at_address (thread_of (step e w).world.state t) now-asleep) s
      go (wakes c is out new) = clash false (not_running (thread_of (step e w).world.state t) (ap (λ (r : Thread). r.waiting) new) now-asleep) refl
      go (moves c is on new) =
          let m = requeued c w on in
          let n = requeue_answered c w m.0 (λ same. clash (asleep_there t a w) (ap (asleep_there t a) (sym (ap (λ x. (step x w).world) is ∙ same)) ∙ now-asleep) was-not) in
          by_requeue c n.0 is (ap (λ x. (step x w).answer) is ∙ n.1) m.0 m.1 (ap (λ (r : Thread). r.uaddr) (sym new) ∙ at_address (thread_of (step e w).world.state t) now-asleep) m.2
      go (times_out now is late new) = clash false (not_running (thread_of (step e w).world.state t) (ap (λ (r : Thread). r.waiting) new) now-asleep) refl
      go (is_interrupted p i is it on new) = clash false (not_running (thread_of (step e w).world.state t) (ap (λ (r : Thread). r.waiting) new) now-asleep) refl
      go (is_set set) = clash (asleep_there t a w) (ap (λ (r : Thread). r.waiting && eqb r.uaddr a) (sym set.left) ∙ now-asleep) was-not

  pub starts_asleep : (h : List Event) (w : World) → slept_through t a h w ≡ true → asleep_there t a w ≡ true
  starts_asleep [] w h = h
  starts_asleep (e ∷ es) w h = and_left (asleep_there t a w) (slept_through t a es (step e w).world) h

  -- who is asleep at the end slept all the time, or since an event of the history
  pub since : (h : List Event) (w : World) → asleep_there t a (final h w) ≡ true → (slept_through t a h w ≡ true) ⊎ Since t a h w
  since [] w now-asleep = inl now-asleep
  since (e ∷ es) w now-asleep =
      by_cases (since es (step e w).world now-asleep)
      (λ all. cases (asleep_there t a w)
      (λ was. inl (and_intro was all))
      (λ was-not. inr (record {
        earlier = [];
        entry = e;
        later = es;
        split = refl;
        entered = enters e w was-not (starts_asleep es (step e w).world all);
        slept = all;
      })))
      (λ s. inr (record {
        earlier = e ∷ s.earlier;
        entry = s.entry;
        later = s.later;
        split = ap (e ∷◌) s.split;
        entered = s.entered;
        slept = s.slept;
      }))

-- A WAKE whose cap is not below the number of the word's sleepers leaves nobody asleep there.
pub wake_empties : (c : Call) (w : World) (n : ℕ) → command_of c.op ≡ Wake → (step (CallEvent c) w).answer ≡ Count n
    → length (queue c.process c.uaddr w.state) ≤ c.val
    → (t : ℕ) → process_of t ≡ c.process → asleep_there t c.uaddr (step (CallEvent c) w).world ≡ false
unfolding refusals
wake_empties c w n wake h enough t own = cases (elem t (woken_by k c w))
    (λ e. rw (took.ran t e))
    (λ e. cases (asleep_there t c.uaddr w)
    (λ was. clash (elem t (woken_by k c w)) (awake was) e)
    (λ was-not. rw (took.stayed t e (rw wake)) was-not))
  where
    k : Command
    k = command_of c.op

    took : Took Woken (woken_by k c w) (moved_by k c w) c.uaddr2 w.state (step (CallEvent c) w).world.state
    took = (takes_first c w n h).took

    g : Sound w.state
    g = (clear_passed c w (counted_clear (CallEvent c) w n h)).sound

    here : asleep_there t c.uaddr w ≡ true → sleeps_at c.process c.uaddr w.state t ≡ true
    here was = and_intro (eq-eqb (process_of t) c.process own) was

    queued : asleep_there t c.uaddr w ≡ true → elem t (queue c.process c.uaddr w.state) ≡ true
    queued was = unfold queue_in in
        (elem_filter (sleeps_at c.process c.uaddr w.state) t (arrivals w.state) (here was)
        ∙ listed_waiting w.state g t
        ∙ and_left (thread_of w.state t).waiting (eqb (thread_of w.state t).uaddr c.uaddr) was)

    line : List ℕ
    line = queue c.process c.uaddr w.state

    whole : released k c w.state ≡ ordered present.order w.state line
    whole = rw wake (unfold released_in candidates_in in
        (ap (λ l. take c.val (ordered present.order w.state l)) (filter_true line)
        ∙ take_all c.val (ordered present.order w.state line) (rw (ordered_length present.order w.state line) enough)))

    awake : asleep_there t c.uaddr w ≡ true → elem t (woken_by k c w) ≡ true
    awake was = elem_append t (released k c w.state) _ ∙ rw (whole, ordered_elem present.order w.state t line, queued was)
