-- The ways to fall asleep, to come back and to move, read from a thread's record before and after an event.
use mathlib.Core.Path.{◌≡◌, sym, ap, ◌∙◌}
use mathlib.Core.Bool.{Bool, true, false, cond, ◌&&◌}
use mathlib.Core.List.{[]}
use mathlib.Core.Logic.{◌⊎◌, inl, inr}
use Prim.Native.Nat.{ℕ}
use lib.Dec.{eqb, leb}
use lib.IntN.{pos, neg_ℤ}
use Rattle.lists.specs.Lists.{elem}
use Rattle.lists.proofs.Tests.{cases, clash, by_cases, and_left, and_right}
use Rattle.lists.proofs.Filter.{all_weaken, all_append}
use Rattle.lists.proofs.Occurs.{elem_all}
use Rattle.tables.specs.declared.State.{State}
use Rattle.tables.specs.declared.Thread.{Thread}
use Rattle.rules.specs.declared.event.Command.{Command}
use Rattle.rules.specs.declared.event.Call.{Call}
use Rattle.rules.specs.declared.event.Event.{Event}
use Rattle.rules.specs.declared.event.Event.TheVariants.{Call as CallEvent, Clock, Interrupt}
use Rattle.rules.specs.declared.answer.Answer.TheVariants.{Count}
use Rattle.tables.specs.Editions.{present}
use Rattle.tables.specs.Tables.{World, thread_number, process_of, thread_of, sleeps_at, expired, moved_to}
use Rattle.rules.specs.Answers.{Outcome, last_number}
use Rattle.rules.specs.Commands.{command_of, uses}
use Rattle.rules.specs.Calls.{is_wake_op, caller, matches, released, moved, released_second}
use Rattle.rules.specs.Events.{refusals, effect, step}
use Rattle.rules.specs.Claims.{Sleeps, sleeps_by, woken_by, moved_by, before, after, PrioritySet, Fate, stays, sleeps, wakes, moves, times_out, is_interrupted, is_set}
use Rattle.tables.proofs.Sound.{listed_waiting}
use Rattle.rules.proofs.Rows.{verdicts, step_refused, step_clear}
use Rattle.rules.proofs.Passed.{clear_passed}
use Rattle.rules.proofs.Refused.{granted_answer}
use Rattle.rules.proofs.Sleeps.{asleep_leaves}
use Rattle.rules.proofs.Elsewhere.{others_kept}
use Rattle.rules.proofs.Chosen.{candidate, released_pass, moved_pass, second_pass, at_first, at_second}

-- who is released or moved waits
pub candidate_waits : (q : Thread → Bool) (p a : ℕ) (s : State) (t : ℕ) → candidate present q p a s t ≡ true → (thread_of s t).waiting ≡ true
candidate_waits q p a s t h =
    let r = thread_of s t in
    and_left r.waiting (eqb r.uaddr a) (and_right (eqb (process_of t) p) (r.waiting && eqb r.uaddr a) (and_right (q r) (sleeps_at p a s t) h))

module _ (k : Command) (c : Call) (w : World) (t : ℕ) where
  abbrev waits : ℕ → Bool
  waits u = (before w u).waiting

  woken_waits : elem t (woken_by k c w) ≡ true → (before w t).waiting ≡ true
  woken_waits = elem_all waits (woken_by k c w)
      (all_append waits (released k c w.state) (cond (is_wake_op k) (released_second k c w) [])
      (all_weaken (at_first present k c w.state) waits (candidate_waits (matches k c) c.process c.uaddr w.state) (released k c w.state) (released_pass present k c w.state))
      (cases (is_wake_op k)
      (λ e. rw e (all_weaken (at_second present k c w.state) waits (candidate_waits (matches k c) c.process c.uaddr2 w.state) (released_second k c w) (second_pass present k c w)))
      (λ e. rw e))) t

  moved_waits : elem t (moved_by k c w) ≡ true → (before w t).waiting ≡ true
  moved_waits = elem_all waits (moved_by k c w)
      (cases (uses k).moves
      (λ e. rw e (all_weaken (at_first present k c w.state) waits (candidate_waits (matches k c) c.process c.uaddr w.state) (moved k c w.state) (moved_pass present k c w.state)))
      (λ e. rw e)) t

-- a call that ends a sleep is answered a count
release_answered : (c : Call) (w : World) (t : ℕ) → (before w t).waiting ≡ true → (after (CallEvent c) w t).waiting ≡ false
    → (n : ℕ) × ((step (CallEvent c) w).answer ≡ Count n)
unfolding refusals effect
release_answered c w t on off = verdicts (CallEvent c) w
    (λ x r. unchanged (ap (λ (o : Outcome). thread_of o.world.state t) (step_refused (CallEvent c) w x r)))
    (λ r.
    let same = ap (λ (o : Outcome). o.answer) (step_clear (CallEvent c) w r) in
    let passed = clear_passed c w r in
    by_cases (granted_answer (command_of c.op) c w passed.known)
    (λ h. unchanged (ap (λ v. thread_of v.state t) (asleep_leaves c w (same ∙ h))
    ∙ others_kept 0 0 (sleeps_by c w) (caller c) w.state passed.sound passed.runs t (listed_waiting w.state passed.sound t ∙ on)))
    (λ h. (h.0, same ∙ h.1)))
  where
    unchanged : {P : Type 0} → after (CallEvent c) w t ≡ before w t → P
    unchanged is = clash (after (CallEvent c) w t).waiting (ap (λ (r : Thread). r.waiting) is ∙ on) off

module _ (e : Event) (w : World) (t : ℕ) where
  pub comes_back : (before w t).waiting ≡ true → (after e w t).waiting ≡ false → Fate e w t
      → ((c : Call) × (n : ℕ) × (e ≡ CallEvent c) × ((step e w).answer ≡ Count n) × (elem t (woken_by (command_of c.op) c w) ≡ true) × (last_number (after e w t).last ≡ pos 0))
      ⊎ ((now : ℕ) × (e ≡ Clock now) × (expired now (before w t) ≡ true) × (last_number (after e w t).last ≡ neg_ℤ (pos 110)))
      ⊎ ((p : ℕ) × (i : ℕ) × (e ≡ Interrupt p i) × (t ≡ thread_number p i) × (last_number (after e w t).last ≡ neg_ℤ (pos 4)))
  comes_back on off (stays same) = clash (after e w t).waiting (ap (λ (r : Thread). r.waiting) same ∙ on) off
  comes_back on off (sleeps c is it s new) = clash (after e w t).waiting (ap (λ (r : Thread). r.waiting) new) off
  comes_back on off (wakes c is out new) =
      let n = release_answered c w t on (ap (λ x. (after x w t).waiting) (sym is) ∙ off) in
      inl (c, n.0, is, ap (λ x. (step x w).answer) is ∙ n.1, out, ap (λ (r : Thread). last_number r.last) new)
  comes_back on off (moves c is out new) = clash (after e w t).waiting (ap (λ (r : Thread). r.waiting) new ∙ on) off
  comes_back on off (times_out now is late new) = inr (inl (now, is, late, ap (λ (r : Thread). last_number r.last) new))
  comes_back on off (is_interrupted p i is it was new) = inr (inr (p, i, is, it, ap (λ (r : Thread). last_number r.last) new))
  comes_back on off (is_set set) = clash (after e w t).waiting (ap (λ (r : Thread). r.waiting) set.left ∙ on) off

  pub falls_asleep : (before w t).waiting ≡ false → (after e w t).waiting ≡ true → Fate e w t
      → (c : Call) × (e ≡ CallEvent c) × (t ≡ caller c) × Sleeps c w
  falls_asleep off on (stays same) = clash (after e w t).waiting on (ap (λ (r : Thread). r.waiting) same ∙ off)
  falls_asleep off on (sleeps c is it s new) = (c, is, it, s)
  falls_asleep off on (wakes c is out new) = clash (after e w t).waiting on (ap (λ (r : Thread). r.waiting) new)
  falls_asleep off on (moves c is out new) = clash (after e w t).waiting on (ap (λ (r : Thread). r.waiting) new ∙ off)
  falls_asleep off on (times_out now is late new) = clash (after e w t).waiting on (ap (λ (r : Thread). r.waiting) new)
  falls_asleep off on (is_interrupted p i is it was new) = clash (after e w t).waiting on (ap (λ (r : Thread). r.waiting) new)
  falls_asleep off on (is_set set) = clash (after e w t).waiting on (ap (λ (r : Thread). r.waiting) set.left ∙ off)

  -- asleep before and after: its record is as it was, a requeue moved it, or its priority was set
  pub sleeps_on : (before w t).waiting ≡ true → (after e w t).waiting ≡ true → Fate e w t
      → (after e w t ≡ before w t)
      ⊎ ((c : Call) × (e ≡ CallEvent c) × (elem t (moved_by (command_of c.op) c w) ≡ true) × (after e w t ≡ moved_to c.uaddr2 (before w t)))
      ⊎ PrioritySet e w t
  sleeps_on on still (stays same) = inl same
  sleeps_on on still (sleeps c is it s new) = clash (before w t).waiting on (ap (λ u. (before w u).waiting) it ∙ s.runs)
  sleeps_on on still (wakes c is out new) = clash (after e w t).waiting still (ap (λ (r : Thread). r.waiting) new)
  sleeps_on on still (moves c is out new) = inr (inl (c, is, out, new))
  sleeps_on on still (times_out now is late new) = clash (after e w t).waiting still (ap (λ (r : Thread). r.waiting) new)
  sleeps_on on still (is_interrupted p i is it was new) = clash (after e w t).waiting still (ap (λ (r : Thread). r.waiting) new)
  sleeps_on on still (is_set set) = inr (inr set)

  -- running before and after: its record is as it was, or its priority was set
  pub runs_on : (before w t).waiting ≡ false → (after e w t).waiting ≡ false → Fate e w t → (after e w t ≡ before w t) ⊎ PrioritySet e w t
  runs_on off still (stays same) = inl same
  runs_on off still (sleeps c is it s new) = clash (after e w t).waiting (ap (λ (r : Thread). r.waiting) new) still
  runs_on off still (wakes c is out new) = clash (before w t).waiting (woken_waits (command_of c.op) c w t out) off
  runs_on off still (moves c is on new) = clash (before w t).waiting (moved_waits (command_of c.op) c w t on) off
  runs_on off still (times_out now is late new) =
      let r = before w t in
      clash r.waiting (and_left r.waiting r.timed (and_left (r.waiting && r.timed) (leb r.deadline now) late)) off
  runs_on off still (is_interrupted p i is it was new) = clash (before w t).waiting was off
  runs_on off still (is_set set) = inr set
