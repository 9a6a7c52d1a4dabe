-- A plan carried out leaves what the rules say, and takes listed threads, each once.
use mathlib.Core.Path.{◌≡◌, refl, sym, ap, subst, ◌∙◌}
use mathlib.Core.Bool.{Bool, true, false, not, cond, ◌&&◌}
use mathlib.Core.List.{List, [], ◌++◌, append-nil}
use Prim.Native.Nat.{ℕ, ◌+◌, ◌≤◌}
use native.Mathlib.Omega.{arith}
use lib.ListN.{length, take, drop, length-append, length-drop}
use lib.Seq.{take-add, length-take-le}
use lib.Dec.{eqb}
use Rattle.std.specs.Prelude.{Option, is_some, unwrap_or}
use Rattle.std.specs.Bool.{then_some}
use Rattle.lists.specs.Lists.{all, elem}
use Rattle.lists.proofs.Tests.{cases, and_left}
use Rattle.lists.proofs.Filter.{all_append, all_weaken}
use Rattle.lists.proofs.Occurs.{occurs, occurs_append, occurs_distinct, occurs_without, occurs_taken_out, absent_occurs, elem_occurs, all_elem}
use Rattle.tables.specs.declared.State.{State}
use Rattle.tables.specs.declared.LastAnswer.TheVariants.{Woken}
use Rattle.tables.specs.Sizes.{threads_per_process}
use Rattle.tables.specs.Editions.{present}
use Rattle.tables.specs.Tables.{World, process_of, arrivals, asleep_at, fall_asleep, end_sleeps, move_sleeps, write_word, with_state}
use Rattle.tables.proofs.Sound.{Sound, tables_sound, once}
use Rattle.tables.proofs.Kept.{ending}
use Rattle.tables.proofs.Stored.{move_nobody}
use Rattle.rules.specs.declared.event.Command.{Command}
use Rattle.rules.specs.declared.event.Call.{Call}
use Rattle.rules.specs.declared.answer.Answer.TheVariants.{Asleep, Count}
use Rattle.rules.specs.Answers.{outcome}
use Rattle.rules.specs.Commands.{command_of, uses}
use Rattle.rules.specs.WakeOp.{new_word}
use Rattle.rules.specs.Calls.{caller, matches, mask_of, timeout_given, deadline_of, released, moved, old_word, released_second, wait, wake, requeue, wake_op, call_effect}
use Rattle.rules.proofs.Chosen.{candidate_own, at_first, at_second, released_pass, moved_pass, second_pass, parts_listed, second_listed}
use Rattle.plans.specs.declared.Take.{Take}
use Rattle.plans.specs.declared.Plan.{Plan}
use Rattle.plans.specs.declared.Plan.TheVariants.{Sleep as SleepPlan, Take as TakePlan}
use Rattle.plans.specs.declared.Takes.{Takes}
use Rattle.plans.specs.Ready.{Granted}
use Rattle.plans.specs.Plans.{carried, Fits, Planned, Takes-of}
use Rattle.plans.proofs.Uses.{moves_second, is_wait_lem, is_requeue, is_wake_op_lem, is_wake}

given : {A : Type 0} (test : Bool) (x : A) → is_some (then_some test x) ≡ test
given true x = refl
given false x = refl

-- a sleeper with a deadline, where one is given
asleep_given : (a m : ℕ) (timed : Bool) (due : ℕ) → asleep_at a m (is_some (then_some timed due)) (unwrap_or (then_some timed due) 0) ≡ asleep_at a m timed due
asleep_given a m true due = refl
asleep_given a m false due = refl

-- the plan of a wait
pub planned_sleep : (c : Call) (w : World) → Granted c w.state w.words → (uses (command_of c.op)).deadline ≡ true → (mask : ℕ) (due : Option ℕ)
    → mask ≡ mask_of (command_of c.op) c → due ≡ then_some (timeout_given c) (deadline_of (command_of c.op) c w.state.clock)
    → Planned c w (SleepPlan (record { uaddr = c.uaddr; bitset = mask; deadline = due }))
unfolding carried wait
planned_sleep c w g wait mask due is_mask is_due =
    let k = command_of c.op in
    record {
      effect = is_wait_lem (command_of c.op) c w g.known wait
          ∙ rw (is_mask, is_due) (ap (λ f. outcome Asleep (with_state (fall_asleep f (caller c) w.state) w)) (sym (asleep_given c.uaddr (mask_of k c) (timeout_given c) (deadline_of k c w.state.clock))));
      fits = λ t e. cc;
      second = λ t e s. cc;
    }

-- one plan is of one kind
abbrev taken_of : Take → Plan → Take
taken_of d (TakePlan t) = t
taken_of d (SleepPlan s) = d

taking : (d t : Take) → TakePlan d ≡ TakePlan t → d ≡ t
taking d t e = ap (taken_of d) e

-- the plan of any other call, by whom it takes
module _ (c : Call) (w : World) (g : Granted c w.state w.words) (go : (uses (command_of c.op)).deadline ≡ false) (t : Takes) (few : t.released + t.moved ≤ threads_per_process)
    (is : Takes-of c w t) (long : length t.taken ≡ threads_per_process) where
  abbrev k : Command
  k = command_of c.op

  sound : Sound w.state
  sound = tables_sound w.state g.ready.tables

  abbrev rs : List ℕ
  rs = take t.released t.taken

  abbrev ms : List ℕ
  ms = take t.moved (drop t.released t.taken)

  rs_length : length rs ≡ t.released
  rs_length = length-take-le t.released t.taken (omega arith)

  ms_length : length ms ≡ t.moved
  ms_length = length-take-le t.moved (drop t.released t.taken) (omega (arith, length-drop t.released t.taken))

  -- whom the rules take, by the kind of call
  rs_moves : (uses k).moves ≡ true → rs ≡ released k c w.state
  rs_moves m =
      let none : ((uses k).second && not (uses k).moves) ≡ false = rw (m, moves_second k m) in
      is.released ∙ rw none (append-nil (released k c w.state))

  ms_moves : (uses k).moves ≡ true → ms ≡ moved k c w.state
  ms_moves m = is.moved ∙ rw m

  ms_stay : (uses k).moves ≡ false → ms ≡ []
  ms_stay m = is.moved ∙ rw m

  rs_both : (uses k).moves ≡ false → (uses k).second ≡ true → rs ≡ released k c w.state ++ released_second k c w
  rs_both m d = is.released ∙ rw (m, d)

  rs_wake : (uses k).moves ≡ false → (uses k).second ≡ false → rs ≡ released k c w.state
  rs_wake m d = is.released ∙ rw (m, d) (append-nil (released k c w.state))

  -- each is on the list, and none stands there twice
  listed : (x : ℕ) → occurs x rs + occurs x ms ≤ occurs x (arrivals w.state)
  listed x = cases (uses k).moves
      (λ m. omega (arith, ap (occurs x) (rs_moves m), ap (occurs x) (ms_moves m), parts_listed present k c w.state x))
      (λ m. cases (uses k).second
      (λ d.
      let first = released k c w.state in
      let next = released_second k c w in
      let both : occurs x rs ≡ occurs x first + occurs x next = ap (occurs x) (rs_both m d) ∙ occurs_append x first next in
      cases (elem x first)
      (λ e. omega (arith, both, ap (occurs x) (ms_stay m), parts_listed present k c w.state x, second_listed present k c w x, occurs_taken_out x first (arrivals w.state) e))
      (λ e. omega (arith, both, ap (occurs x) (ms_stay m), absent_occurs x first e, second_listed present k c w x, occurs_without x first (arrivals w.state) e)))
      (λ d. omega (arith, ap (occurs x) (rs_wake m d), ap (occurs x) (ms_stay m), parts_listed present k c w.state x)))

  all_taken : take (t.released + t.moved) t.taken ≡ rs ++ ms
  all_taken = take-add t.released t.moved t.taken

  taken_listed : (x : ℕ) → occurs x (take (t.released + t.moved) t.taken) ≤ occurs x (arrivals w.state)
  taken_listed x = omega (arith, ap (occurs x) all_taken, occurs_append x rs ms, listed x)

  -- and of the process
  mine : (l : List ℕ) → all (at_first present k c w.state) l ≡ true → all (λ x. eqb (process_of x) c.process) l ≡ true
  mine = all_weaken (at_first present k c w.state) (λ x. eqb (process_of x) c.process) (candidate_own present (matches k c) c.process c.uaddr w.state)

  mine_second : all (λ x. eqb (process_of x) c.process) (released_second k c w) ≡ true
  mine_second = all_weaken (at_second present k c w.state) (λ x. eqb (process_of x) c.process) (candidate_own present (matches k c) c.process c.uaddr2 w.state) (released_second k c w) (second_pass present k c w)

  taken_own : all (λ x. eqb (process_of x) c.process) (take (t.released + t.moved) t.taken) ≡ true
  taken_own =
      let own : ℕ → Bool = λ x. eqb (process_of x) c.process in
      let first = mine (released k c w.state) (released_pass present k c w.state) in
      ap (all own) all_taken ∙ all_append own rs ms
      (ap (all own) is.released ∙ all_append own (released k c w.state) (cond ((uses k).second && not (uses k).moves) (released_second k c w) []) first
      (cases ((uses k).second && not (uses k).moves) (λ e. rw e mine_second) (λ e. rw e)))
      (ap (all own) is.moved ∙ cases (uses k).moves (λ e. rw e (mine (moved k c w.state) (moved_pass present k c w.state))) (λ e. rw e))

  abbrev plan : Option ℕ → ℕ → Take
  plan word count = record { taken = t.taken; released = t.released; moved = t.moved; word = word; count = count }

  module _ (new count : ℕ) (is_new : (uses k).second ≡ true → (uses k).moves ≡ false → new ≡ new_word c.val3 (old_word c w)) (counts : count ≡ t.released + cond (uses k).compare t.moved 0) where
    abbrev word : Option ℕ
    word = then_some ((uses k).second && not (uses k).moves) new

    abbrev d : Plan
    d = TakePlan (plan word count)

    abbrev s : State
    s = w.state

    first_counted : (l : List ℕ) → rs ≡ l → t.released ≡ length l
    first_counted l e = sym rs_length ∙ ap length e

    requeued : (uses k).moves ≡ true → carried c d w ≡ requeue k c w
    unfolding carried requeue
    requeued m =
        let stays : ((uses k).second && not (uses k).moves) ≡ false = rw (m, moves_second k m) in
        let n : count ≡ length (released k c s) + cond (uses k).compare (length (moved k c s)) 0 =
        counts ∙ (λ i. first_counted (released k c s) (rs_moves m) i + cond (uses k).compare ((sym ms_length ∙ ap length (ms_moves m)) i) 0) in
        rw stays (λ i. outcome (Count (n i)) (with_state (move_sleeps c.uaddr2 (ms_moves m i) (end_sleeps Woken (rs_moves m i) s)) w))

    -- where nobody moves, the sleeps end and that is all
    ended : (uses k).moves ≡ false → move_sleeps c.uaddr2 ms (end_sleeps Woken rs s) ≡ end_sleeps Woken rs s
    ended m = ap (λ l. move_sleeps c.uaddr2 l (end_sleeps Woken rs s)) (ms_stay m) ∙ move_nobody c.uaddr2 (end_sleeps Woken rs s) (ending Woken rs s sound)

    all_counted : (uses k).moves ≡ false → count ≡ t.released
    all_counted m =
        let none : t.moved ≡ 0 = sym ms_length ∙ ap length (ms_stay m) in
        counts ∙ ap (λ n. t.released + cond (uses k).compare n 0) none ∙ cases (uses k).compare (λ e. rw e (omega arith)) (λ e. rw e (omega arith))

    both : (uses k).moves ≡ false → (uses k).second ≡ true → carried c d w ≡ wake_op k c w
    unfolding carried wake_op
    both m d =
        let l = released k c s ++ released_second k c w in
        let n : count ≡ length (released k c s) + length (released_second k c w) =
        all_counted m ∙ first_counted l (rs_both m d) ∙ length-append (released k c s) (released_second k c w) in
        let left = ended m ∙ ap (λ ts. end_sleeps Woken ts s) (rs_both m d) in
        rw (m, d) (λ i. outcome (Count (n i)) (write_word c.process c.uaddr2 (is_new d m i) (with_state (left i) w)))

    woken : (uses k).moves ≡ false → (uses k).second ≡ false → carried c d w ≡ wake k c w
    unfolding carried wake
    woken m d =
        let n : count ≡ length (released k c s) = all_counted m ∙ first_counted (released k c s) (rs_wake m d) in
        let left = ended m ∙ ap (λ ts. end_sleeps Woken ts s) (rs_wake m d) in
        rw (m, d) (λ i. outcome (Count (n i)) (with_state (left i) w))

    effect : call_effect k c w ≡ carried c d w
    effect = cases (uses k).moves
        (λ m. is_requeue k c w g.known go m ∙ sym (requeued m))
        (λ m. cases (uses k).second
        (λ d. is_wake_op_lem k c w g.known go m d ∙ sym (both m d))
        (λ d. is_wake k c w g.known go m d ∙ sym (woken m d)))

    pub planned_take : Planned c w d
    planned_take =
        record {
          effect = effect;
          fits = λ x e. subst (λ y. Fits c.process y w.state) (taking (plan word count) x e)
              (record {
                few = few;
                own = taken_own;
                each = all_elem (λ x. elem x (arrivals w.state)) (take (t.released + t.moved) t.taken)
                    (λ x e. cases (elem x (arrivals w.state)) (λ h. h) (λ h. absurd (omega (arith, elem_occurs x (take (t.released + t.moved) t.taken) e, taken_listed x, absent_occurs x (arrivals w.state) h))));
                apart = occurs_distinct (take (t.released + t.moved) t.taken) (λ x. omega (arith, taken_listed x, once w.state sound x));
                small = cases (uses k).compare (λ e. let n : count ≡ t.released + t.moved = counts ∙ rw e in omega arith) (λ e. let n : count ≡ t.released + 0 = counts ∙ rw e in omega arith);
              });
          second = λ x e some. and_left (uses k).second (not (uses k).moves)
              (sym (given ((uses k).second && not (uses k).moves) new) ∙ ap (λ (y : Take). is_some y.word) (taking (plan word count) x e) ∙ some);
        }
