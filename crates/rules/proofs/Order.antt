-- Whom a cap takes: those who go before the others, and as many as the cap and the sleepers allow.
use mathlib.Core.Path.{◌≡◌, refl, sym, ap, ◌∙◌}
use mathlib.Core.Bool.{Bool, true, false, not, ◌&&◌}
use mathlib.Core.List.{List, ◌∷◌, ◌++◌}
use mathlib.Core.Logic.{inl, inr, ◌↔◌}
use Prim.Native.Nat.{ℕ, zero, suc, ◌+◌, ◌-◌, ◌<◌, min}
use native.Mathlib.Omega.{arith}
use lib.ListN.{length, take, length-take, length-drop}
use lib.Seq.{take-add}
use lib.Dec.{eqb, leb}
use Rattle.lists.specs.Lists.{filter, all, elem, without, count_below, falling}
use Rattle.lists.proofs.Tests.{cases, clash, by_cases, and_intro, or_left, or_right, eqb_refl}
use Rattle.lists.proofs.Filter.{filter_filter, all_filter}
use Rattle.lists.proofs.Occurs.{occurs_filter_le, elem_append, elem_filter, elem_filtered_out, all_elem, elem_all}
use Rattle.lists.proofs.Count.{length_count, count_below_ext}
use Rattle.lists.proofs.Falling.{falling_leads}
use Rattle.lists.proofs.Standing.{stands_filter}
use Rattle.lists.proofs.Highest.{elem_highest, highest_falls, highest_equals, highest_only, highest_filter, highest_first}
use Rattle.tables.specs.declared.State.{State}
use Rattle.tables.specs.declared.LastAnswer.TheVariants.{Woken}
use Rattle.rules.specs.declared.event.Command.{Command}
use Rattle.rules.specs.declared.event.Call.{Call}
use Rattle.rules.specs.declared.event.Event.TheVariants.{Call as CallEvent}
use Rattle.rules.specs.declared.answer.Answer.TheVariants.{Count}
use Rattle.tables.specs.Sizes.{threads, max_priority}
use Rattle.tables.specs.Editions.{by_priority, present}
use Rattle.tables.specs.Tables.{World, word_at, thread_of, arrivals, ended, sleeps_at}
use Rattle.rules.specs.Commands.{command_of}
use Rattle.rules.specs.WakeOp.{compares}
use Rattle.rules.specs.Calls.{second_cap, ordered, matches, candidates, released_in, released, moved_in, moved, released_second}
use Rattle.rules.specs.Events.{step}
use Rattle.rules.specs.Claims.{GoesBefore, before, after}
use Rattle.tables.proofs.Sound.{Sound, once, none_above, listed_waiting, priority_kept}
use Rattle.rules.proofs.Rows.{counted_clear}
use Rattle.rules.proofs.Passed.{clear_passed}
use Rattle.rules.proofs.Chosen.{candidates_are, ordered_length, at_first, at_second}
use Rattle.rules.proofs.Taken.{takes_first}
use Rattle.rules.proofs.Fates.{candidate_waits}

-- the order, of threads of sound tables
module _ (s : State) (g : Sound s) where
  abbrev rank : ℕ → ℕ
  rank t = (thread_of s t).priority

  low : (l : List ℕ) → all (λ t. leb (rank t) max_priority) l ≡ true
  low l = all_elem (λ t. leb (rank t) max_priority) l (λ t e. priority_kept s g t)

  pub by_priority_lem : (l m : List ℕ)
      → (m ≡ ordered by_priority s l) ↔ ((falling rank m ≡ true) × ((n : ℕ) → filter (λ t. eqb (rank t) n) m ≡ filter (λ t. eqb (rank t) n) l))
  by_priority_lem l m = (
    (λ e. (ap (falling rank) e ∙ highest_falls rank max_priority l (low l), λ n. ap (filter (λ t. eqb (rank t) n)) e ∙ highest_equals rank n max_priority l)),
    (λ h. highest_only rank max_priority l m (low l) (low m) h.0 h.1),
  )

  -- of the sleepers that pass a test, those among the first so many go before the others
  module _ (f : ℕ → Bool) (t : ℕ) (waits : (thread_of s t).waiting ≡ true) (fits : f t ≡ true) where
    there : elem t (filter f (arrivals s)) ≡ true
    there = elem_filter f t (arrivals s) fits ∙ listed_waiting s g t ∙ waits

    first_taken : (n u : ℕ) → elem t (take n (ordered by_priority s (filter f (arrivals s)))) ≡ false
        → elem u (take n (ordered by_priority s (filter f (arrivals s)))) ≡ true → GoesBefore s u t
    first_taken n u out is =
        by_cases (highest_first rank max_priority n (filter f (arrivals s)) (low (filter f (arrivals s))) u t there out is)
        (λ e. inl e)
        (λ e. inr (e.0, stands_filter f u t (arrivals s) e.1))

    -- and whoever has a higher priority than all others comes first
    leads : ((u : ℕ) → f u ≡ true → (u ≡ t → ⊥) → rank u < rank t) → (rest : List ℕ) × (ordered by_priority s (filter f (arrivals s)) ≡ t ∷ rest)
    leads least =
        let l = filter f (arrivals s) in
        falling_leads rank (ordered by_priority s l) (highest_falls rank max_priority l (low l)) t (elem_highest rank max_priority t l ∙ there)
        (λ u e. least u (elem_all f l (all_filter f (arrivals s)) u (sym (elem_highest rank max_priority u l) ∙ e)))

take_some : (n x : ℕ) (xs : List ℕ) → 0 < n → (rest : List ℕ) × (take n (x ∷ xs) ≡ x ∷ rest)
take_some zero x xs h = absurd (omega arith)
take_some (suc n) x xs h = (take n xs, refl)

module _ (k : Command) (c : Call) (s : State) (g : Sound s) where
  abbrev line : List ℕ
  line = candidates (matches k c) c.process c.uaddr s

  module _ (t : ℕ) (fits : at_first present k c s t ≡ true) where
    waits : (thread_of s t).waiting ≡ true
    waits = candidate_waits (matches k c) c.process c.uaddr s t fits

    taken_first : (n u : ℕ) → elem t (take n line) ≡ false → elem u (take n line) ≡ true → GoesBefore s u t
    taken_first n u out is =
        let same = candidates_are present (matches k c) c.process c.uaddr s in
        first_taken s g (at_first present k c s) t waits fits n u (rw same at out) (rw same at is)

    pub none_overtaken : (u : ℕ) → elem t (released k c s) ≡ false → elem u (released k c s) ≡ true → GoesBefore s u t
    unfolding released_in
    none_overtaken u out is = taken_first c.val u out is

    pub none_passed : (u : ℕ) → elem t (released k c s ++ moved k c s) ≡ false → elem u (released k c s ++ moved k c s) ≡ true → GoesBefore s u t
    unfolding released_in moved_in
    none_passed u out is =
        let both = take-add c.val (second_cap c) line in
        taken_first (c.val + second_cap c) u (ap (elem t) both ∙ out) (ap (elem u) both ∙ is)

    pub released_leads : ((u : ℕ) → at_first present k c s u ≡ true → (u ≡ t → ⊥) → (thread_of s u).priority < (thread_of s t).priority)
        → 0 < c.val → (rest : List ℕ) × (released k c s ≡ t ∷ rest)
    unfolding released_in
    released_leads least some =
        let first = leads s g (at_first present k c s) t waits fits least in
        let rest = take_some c.val t first.0 some in
        (rest.0, ap (take c.val) (candidates_are present (matches k c) c.process c.uaddr s ∙ first.1) ∙ rest.1)

  -- how many sleepers the call may take at its first word
  abbrev many : ℕ
  many = count_below threads (λ t. matches k c (thread_of s t) && sleeps_at c.process c.uaddr s t)

  length_candidates : length line ≡ many
  length_candidates =
      let f = at_first present k c s in
      ap length (candidates_are present (matches k c) c.process c.uaddr s)
      ∙ ordered_length present.order s (filter f (arrivals s))
      ∙ length_count threads (filter f (arrivals s)) (λ t. omega (arith, occurs_filter_le f t (arrivals s), once s g t)) (λ t h. omega (arith, occurs_filter_le f t (arrivals s), none_above s g t h))
      ∙ count_below_ext threads (λ t. elem t (filter f (arrivals s))) f (λ t h. listed t)
    where
      listed : (t : ℕ) → elem t (filter (at_first present k c s) (arrivals s)) ≡ at_first present k c s t
      listed t = cases (at_first present k c s t)
          (λ e. elem_filter (at_first present k c s) t (arrivals s) e ∙ listed_waiting s g t ∙ candidate_waits (matches k c) c.process c.uaddr s t e ∙ sym e)
          (λ e. elem_filtered_out (at_first present k c s) t (arrivals s) e ∙ sym e)

  pub released_many : length (released k c s) ≡ min c.val many
  unfolding released_in
  released_many = length-take c.val _ ∙ ap (min c.val) length_candidates

  pub moved_many : length (moved k c s) ≡ min (second_cap c) (many - c.val)
  unfolding moved_in
  moved_many = length-take (second_cap c) _ ∙ ap (min (second_cap c)) (length-drop c.val _ ∙ ap (◌- c.val) length_candidates)

-- WAKE_OP's second word: who is still asleep there
pub second_overtaken : (k : Command) (c : Call) (w : World) → Sound w.state → (t : ℕ) → at_second present k c w.state t ≡ true
    → (u : ℕ) → elem t (released k c w.state ++ released_second k c w) ≡ false → elem u (released_second k c w) ≡ true → GoesBefore w.state u t
unfolding released_second
second_overtaken k c w g t fits u out is =
    let apart = sym (elem_append t gone (released_second k c w)) ∙ out in
    let left = or_left (elem t gone) (elem t (released_second k c w)) apart in
    let later = or_right (elem t gone) (elem t (released_second k c w)) apart in
    cases (compares c.val3 (word_at w c.process c.uaddr2))
    (λ d. first_taken s g still t (candidate_waits (matches k c) c.process c.uaddr2 s t fits) (and_intro (ap not left) fits) (second_cap c) u
    (rw (d, same) at later) (rw (d, same) at is))
    (λ d. clash false (rw d at is) refl)
  where
    s : State
    s = w.state

    gone : List ℕ
    gone = released k c s

    still : ℕ → Bool
    still x = not (elem x gone) && at_second present k c s x

    same : without gone (candidates (matches k c) c.process c.uaddr2 s) ≡ ordered by_priority s (filter still (arrivals s))
    same =
        ap (without gone) (candidates_are present (matches k c) c.process c.uaddr2 s)
        ∙ highest_filter (λ x. (thread_of s x).priority) (λ x. not (elem x gone)) max_priority (filter (at_second present k c s) (arrivals s))
        ∙ ap (ordered by_priority s) (filter_filter (λ x. not (elem x gone)) (at_second present k c s) (arrivals s))

-- a call that is answered a count, and whose cap is above 0, ends the sleep of whoever has a higher priority than all others that it may take
pub leader_runs : (c : Call) (w : World) (n t : ℕ) → (step (CallEvent c) w).answer ≡ Count n → 0 < c.val → at_first present (command_of c.op) c w.state t ≡ true
    → ((u : ℕ) → at_first present (command_of c.op) c w.state u ≡ true → (u ≡ t → ⊥) → (before w u).priority < (before w t).priority)
    → after (CallEvent c) w t ≡ ended Woken (before w t)
leader_runs c w n t h some fits least =
    let k = command_of c.op in
    let g = (clear_passed c w (counted_clear (CallEvent c) w n h)).sound in
    let first = released_leads k c w.state g t fits least some in
    (takes_first c w n h).took.ran t (elem_append t (released k c w.state) _ ∙ rw (first.1, eqb_refl t))
