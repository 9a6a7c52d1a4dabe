-- What an event does to a thread, whatever the tables: the only ways in which a record changes, and so in which a sleeper comes back.
use mathlib.Core.Path.{◌≡◌, refl, ap, ◌∙◌}
use mathlib.Core.List.{[], ◌∷◌}
use Prim.Native.Nat.{ℕ}
use native.Mathlib.Omega.{arith}
use Rattle.lists.specs.Lists.{elem}
use Rattle.lists.proofs.Tests.{cases, by_cases}
use Rattle.lists.proofs.Filter.{all_filter}
use Rattle.lists.proofs.Occurs.{elem_one, elem_all}
use Rattle.rules.specs.declared.event.Call.{Call}
use Rattle.rules.specs.declared.event.Event.{Event}
use Rattle.rules.specs.declared.event.Event.TheVariants.{Call as CallEvent, Store, Clock, Interrupt, Query, SetPriority}
use Rattle.rules.specs.declared.answer.Answer.TheVariants.{Asleep, Count}
use Rattle.tables.specs.Tables.{expired, expired_sleepers, World, thread_number, fresh_thread, thread_of, arrivals, with_priority, sleep_in, set_priority, write_word}
use Rattle.rules.specs.Answers.{Outcome}
use Rattle.rules.specs.Commands.{command_of}
use Rattle.rules.specs.Calls.{caller}
use Rattle.rules.specs.Events.{refusals, effect, step, clock_effect, interrupt_effect}
use Rattle.rules.specs.Claims.{Clear, woken_by, moved_by, sleeps_by, Fate, stays, sleeps, wakes, moves, times_out, is_interrupted, is_set}
use Rattle.rules.proofs.Rows.{verdicts, step_refused, step_clear}
use Rattle.tables.proofs.Changes.{change_other, change_named}
use Rattle.tables.proofs.Sound.{tables_sound}
use Rattle.rules.proofs.Passed.{clear_passed, caller_below, thread_process, thread_index, sound_of}
use Rattle.rules.proofs.Refused.{granted_answer}
use Rattle.rules.proofs.Sleeps.{asleep_sleeps, asleep_leaves}
use Rattle.rules.proofs.Taken.{takes_first, took_expired, took_interrupted}

module _ (w : World) (t : ℕ) where
  sleeper_fate : (c : Call) → (step (CallEvent c) w).answer ≡ Asleep → Fate (CallEvent c) w t
  unfolding sleep_in
  sleeper_fate c h =
      let s = asleep_sleeps c w h in
      let f = sleeps_by c w in
      let left = ap (λ v. thread_of v.state t) (asleep_leaves c w h) in
      cases (elem t (caller c ∷ []))
      (λ e.
      let it : t ≡ caller c = elem_one t (caller c) e in
      let low = caller_below c s.process s.index in
      let size = (tables_sound w.state s.tables).records in
      sleeps c refl it s (left ∙ change_named f (caller c ∷ []) w.state.threads t fresh_thread e (omega arith)))
      (λ e. stays (left ∙ change_other f (caller c ∷ []) w.state.threads t fresh_thread e))

  taken_fate : (c : Call) (n : ℕ) → (step (CallEvent c) w).answer ≡ Count n → Fate (CallEvent c) w t
  taken_fate c n h =
      let k = command_of c.op in
      let took = (takes_first c w n h).took in
      cases (elem t (woken_by k c w))
      (λ e. wakes c refl e (took.ran t e))
      (λ e. cases (elem t (moved_by k c w)) (λ d. moves c refl d (took.went t d)) (λ d. stays (took.stayed t e d)))

  call_fate : (c : Call) → Clear (refusals (CallEvent c) w) → Fate (CallEvent c) w t
  unfolding refusals effect
  call_fate c r =
      let done = step_clear (CallEvent c) w r in
      let same = ap (λ (o : Outcome). o.answer) done in
      by_cases (granted_answer (command_of c.op) c w (clear_passed c w r).known)
      (λ h. sleeper_fate c (same ∙ h))
      (λ h. taken_fate c h.0 (same ∙ h.1))

  clock_fate : (now : ℕ) → Clear (refusals (Clock now) w) → Fate (Clock now) w t
  unfolding refusals effect clock_effect expired_sleepers
  clock_fate now r =
      let g = sound_of w r.1.0 in
      let done = ap (λ (o : Outcome). thread_of o.world.state t) (step_clear (Clock now) w r) in
      let took = took_expired now w.state g in
      cases (elem t (expired_sleepers now w.state))
      (λ e. times_out now refl
      (elem_all (λ u. expired now (thread_of w.state u)) (expired_sleepers now w.state) (all_filter (λ u. expired now (thread_of w.state u)) (arrivals w.state)) t e)
      (done ∙ took.ran t e))
      (λ e. stays (done ∙ took.stayed t e refl))

  interrupt_fate : (p i : ℕ) → Clear (refusals (Interrupt p i) w) → Fate (Interrupt p i) w t
  unfolding refusals effect interrupt_effect
  interrupt_fate p i r =
      let u = thread_number p i in
      let g = sound_of w r.1.0 in
      let done = ap (λ (o : Outcome). thread_of o.world.state t) (step_clear (Interrupt p i) w r) in
      cases (thread_of w.state u).waiting
      (λ on.
      let took = took_interrupted u w.state g on in
      cases (elem t (u ∷ []))
      (λ e.
      let it : t ≡ u = elem_one t u e in
      is_interrupted p i refl it (ap (λ v. (thread_of w.state v).waiting) it ∙ on) (done ∙ rw on (took.ran t e)))
      (λ e. stays (done ∙ rw on (took.stayed t e refl))))
      (λ off. stays (done ∙ rw off))

  priority_fate : (p i n : ℕ) → Clear (refusals (SetPriority p i n) w) → Fate (SetPriority p i n) w t
  unfolding refusals effect set_priority
  priority_fate p i n r =
      let u = thread_number p i in
      let g = sound_of w r.1.0 in
      let done = step_clear (SetPriority p i n) w r in
      let left = ap (λ (o : Outcome). thread_of o.world.state t) done in
      cases (elem t (u ∷ []))
      (λ e.
      let it : t ≡ u = elem_one t u e in
      let process = thread_process p i r.1.1.0 in
      let index = thread_index p i r.1.1.0 in
      is_set (record {
        process = p;
        index = i;
        priority = n;
        event = refl;
        thread = it;
        answer = ap (λ (o : Outcome). o.answer) done;
        left = left ∙ change_named (with_priority n) (u ∷ []) w.state.threads t fresh_thread e (omega (arith, g.records));
      }))
      (λ e. stays (left ∙ change_other (with_priority n) (u ∷ []) w.state.threads t fresh_thread e))

  passed_fate : (e : Event) → Clear (refusals e w) → Fate e w t
  unfolding effect write_word
  passed_fate (CallEvent c) r = call_fate c r
  passed_fate (Store p a v) r = stays (ap (λ (o : Outcome). thread_of o.world.state t) (step_clear (Store p a v) w r))
  passed_fate (Clock now) r = clock_fate now r
  passed_fate (Interrupt p i) r = interrupt_fate p i r
  passed_fate (Query p) r = stays (ap (λ (o : Outcome). thread_of o.world.state t) (step_clear (Query p) w r))
  passed_fate (SetPriority p i n) r = priority_fate p i n r

-- There is no other way.
pub fate : (e : Event) (w : World) (t : ℕ) → Fate e w t
fate e w t = verdicts e w
    (λ x r. stays (ap (λ (o : Outcome). thread_of o.world.state t) (step_refused e w x r)))
    (λ r. passed_fate w t e r)
