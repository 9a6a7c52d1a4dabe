-- Priorities: nothing but an event that sets one, answered 0, changes a thread's.
use mathlib.Core.Path.{◌≡◌, refl, sym, ap, ◌∙◌}
use mathlib.Core.Bool.{true, not, cond, and-false}
use mathlib.Core.List.{List, [], ◌∷◌}
use mathlib.Core.Logic.{◌⊎◌, inl, inr, ◌↔◌}
use Prim.Native.Nat.{ℕ, ◌≤◌, ◌<◌}
use native.Mathlib.Omega.{arith}
use lib.ListN.{length}
use lib.Dec.{eqb}
use borrow.Author.Tests.{eqb-true, lt-leb, le-ltb, ltb-false, not-false}
use Rattle.lists.proofs.Tests.{cases, by_cases, never, or_intro}
use Rattle.tables.specs.declared.Thread.{Thread}
use Rattle.rules.specs.declared.event.Event.{Event}
use Rattle.rules.specs.declared.event.Event.TheVariants.{Call as CallEvent, Store, Clock, Interrupt, Query, SetPriority}
use Rattle.rules.specs.declared.answer.Refusal.{Refusal}
use Rattle.rules.specs.declared.answer.Answer.TheVariants.{Count, Refused}
use Rattle.tables.specs.Sizes.{processes, threads_per_process, memory_words, max_priority}
use Rattle.tables.specs.Tables.{World, thread_number, fresh_thread, thread_of, tables_ok, with_priority, set_priority, with_state}
use Rattle.rules.specs.Answers.{Outcome}
use Rattle.rules.specs.Events.{refusals, effect, step}
use Rattle.rules.specs.History.{final, answers}
use Rattle.rules.specs.Claims.{before, after, PrioritySet, Fate, stays, sleeps, wakes, moves, times_out, is_interrupted, is_set, priority_by, priority_after}
use Rattle.tables.proofs.Changes.{change_named, change_other}
use Rattle.rules.proofs.Rows.{◌and◌, verdicts, step_refused, step_clear, counted_clear, counted_done}
use Rattle.rules.proofs.Passed.{memory_is, memory_right, thread_process, thread_index, sound_of}
use Rattle.rules.proofs.Fate.{fate}

module _ (e : Event) (w : World) (t : ℕ) where
  kept_or_set : Fate e w t → ((after e w t).priority ≡ (before w t).priority) ⊎ PrioritySet e w t
  kept_or_set (stays same) = inl (ap (λ (r : Thread). r.priority) same)
  kept_or_set (sleeps c is it s new) = inl (ap (λ (r : Thread). r.priority) new)
  kept_or_set (wakes c is out new) = inl (ap (λ (r : Thread). r.priority) new)
  kept_or_set (moves c is on new) = inl (ap (λ (r : Thread). r.priority) new)
  kept_or_set (times_out now is late new) = inl (ap (λ (r : Thread). r.priority) new)
  kept_or_set (is_interrupted p i is it was new) = inl (ap (λ (r : Thread). r.priority) new)
  kept_or_set (is_set set) = inr set

  pub only_set : ((after e w t).priority ≡ (before w t).priority) ⊎ PrioritySet e w t
  only_set = kept_or_set (fate e w t)

-- every event but one that sets a priority keeps them all
others_keep : (e : Event) (w : World) (t : ℕ) → ((p i n : ℕ) → e ≡ SetPriority p i n → ⊥) → (after e w t).priority ≡ (before w t).priority
others_keep e w t none = by_cases (only_set e w t) (λ same. same) (λ set. absurd (none set.process set.index set.priority set.event))

-- one that does: by what it is answered
refused_keeps : (p i n : ℕ) (x : Refusal) (t old : ℕ) → priority_by (SetPriority p i n) (Refused x) t old ≡ old
refused_keeps p i n x t old = ap (λ b. cond b n old) (and-false (eqb t (thread_number p i)))

set_by : (p i n : ℕ) (w : World) (t : ℕ)
    → (after (SetPriority p i n) w t).priority ≡ priority_by (SetPriority p i n) (step (SetPriority p i n) w).answer t (before w t).priority
unfolding effect set_priority refusals
set_by p i n w t = verdicts (SetPriority p i n) w
    (λ x r. rw (step_refused (SetPriority p i n) w x r) (sym (refused_keeps p i n x t (before w t).priority)))
    (λ r.
    let process = thread_process p i r.1.1.0 in
    let index = thread_index p i r.1.1.0 in
    let size = (sound_of w r.1.0).records in
    rw (step_clear (SetPriority p i n) w r) (cases (eqb t (thread_number p i))
    (λ e. rw (e, change_named (with_priority n) (thread_number p i ∷ []) w.state.threads t fresh_thread (rw e) (let it = eqb-true t (thread_number p i) e in omega arith)))
    (λ e. rw (e, change_other (with_priority n) (thread_number p i ∷ []) w.state.threads t fresh_thread (rw e)))))

pub priority_by_lem : (e : Event) (w : World) (t : ℕ) → (after e w t).priority ≡ priority_by e (step e w).answer t (before w t).priority
priority_by_lem (CallEvent c) w t = others_keep (CallEvent c) w t (λ p i n h. never (cc))
priority_by_lem (Store p a v) w t = others_keep (Store p a v) w t (λ p i n h. never (cc))
priority_by_lem (Clock now) w t = others_keep (Clock now) w t (λ p i n h. never (cc))
priority_by_lem (Interrupt p i) w t = others_keep (Interrupt p i) w t (λ p i n h. never (cc))
priority_by_lem (Query p) w t = others_keep (Query p) w t (λ p i n h. never (cc))
priority_by_lem (SetPriority p i n) w t = set_by p i n w t

-- event by event, a history
module _ (one : (e : Event) (w : World) (t : ℕ) → (after e w t).priority ≡ priority_by e (step e w).answer t (before w t).priority) where
  by_events : (h : List Event) (w : World) (t : ℕ)
      → (thread_of (final h w).state t).priority ≡ priority_after h (answers h w) t (thread_of w.state t).priority
  by_events [] w t = refl
  by_events (e ∷ es) w t = by_events es (step e w).world t ∙ ap (priority_after es (answers es (step e w).world) t) (one e w t)

pub priority_after_lem : (h : List Event) (w : World) (t : ℕ)
    → (thread_of (final h w).state t).priority ≡ priority_after h (answers h w) t (thread_of w.state t).priority
priority_after_lem = by_events priority_by_lem

-- what it is answered 0 for, and what it leaves
module _ (p i n : ℕ) (w : World) where
  pub set_exactly : ((step (SetPriority p i n) w).answer ≡ Count 0)
      ↔ ((length w.words ≡ memory_words) × (tables_ok w.state ≡ true) × (p < processes) × (i < threads_per_process) × (n ≤ max_priority))
  unfolding refusals effect
  set_exactly = (
    (λ h.
        let r = counted_clear (SetPriority p i n) w 0 h in
        let named = r.1.1.0 in
        (memory_is w r.0, not-false _ r.1.0, thread_process p i named, thread_index p i named, ltb-false max_priority n r.1.1.1.0)),
    (λ h. ap (λ (o : Outcome). o.answer) (step_clear (SetPriority p i n) w (memory_right w h.0
        and ap not h.1
        and or_intro (lt-leb processes p h.2) (lt-leb threads_per_process i h.3)
        and le-ltb max_priority n h.4
        and tt))),
  )

  pub set_leaves : (step (SetPriority p i n) w).answer ≡ Count 0
      → (step (SetPriority p i n) w).world ≡ with_state (set_priority n (thread_number p i) w.state) w
  unfolding effect
  set_leaves h = ap (λ (o : Outcome). o.world) (counted_done (SetPriority p i n) w 0 h)
