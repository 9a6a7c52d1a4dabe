-- Whom a wake or requeue takes: sleepers of the word it names, each once.
use mathlib.Core.Path.{◌≡◌, refl, ap}
use mathlib.Core.List.{List}
use mathlib.Core.Bool.{Bool, true, not, ◌&&◌}
use Prim.Native.Nat.{ℕ, ◌+◌, ◌≤◌}
use native.Mathlib.Omega.{arith}
use lib.ListN.{length, drop}
use lib.Dec.{eqb}
use borrow.Author.Tests.{eqb-true}
use Rattle.lists.specs.Lists.{filter, all, elem, without}
use Rattle.lists.proofs.Tests.{cases, and_left, and_right}
use Rattle.lists.proofs.Filter.{filter_filter, all_filter, all_take, all_drop, all_filtered}
use Rattle.lists.proofs.Occurs.{occurs, elem_occurs, elem_agree, occurs_filter_le, occurs_take_le, occurs_take_drop, occurs_without, occurs_taken_out}
use Rattle.lists.proofs.Highest.{all_highest, occurs_highest, length_highest, highest_same, highest_agree}
use Rattle.tables.specs.declared.State.{State}
use Rattle.tables.specs.declared.Thread.{Thread}
use Rattle.rules.specs.declared.event.Command.{Command}
use Rattle.rules.specs.declared.event.Call.{Call}
use Rattle.tables.specs.Editions.{Order, by_arrival, by_priority, Edition}
use Rattle.tables.specs.Sizes.{max_priority}
use Rattle.tables.specs.Tables.{WorldIn, thread_of, arrivals, process_in, sleeps_in, queue_in, word_at}
use Rattle.rules.specs.WakeOp.{compares}
use Rattle.rules.specs.Calls.{ordered, matches, second_cap, candidates_in, released_in, moved_in, released_second}
use Rattle.tables.proofs.Sound.{SoundIn, once}

-- the test that a candidate passes
abbrev pub candidate : Edition → (Thread → Bool) → ℕ → ℕ → State → ℕ → Bool
candidate ed q p a s t = q (thread_of s t) && sleeps_in ed p a s t

pub candidates_are : (ed : Edition) (q : Thread → Bool) (p a : ℕ) (s : State)
    → candidates_in ed q p a s ≡ ordered ed.order s (filter (candidate ed q p a s) (arrivals s))
unfolding candidates_in queue_in
candidates_are ed q p a s = ap (ordered ed.order s) (filter_filter (λ t. q (thread_of s t)) (sleeps_in ed p a s) (arrivals s))

-- an order has the same threads
pub ordered_all : (o : Order) (s : State) (f : ℕ → Bool) (l : List ℕ) → all f l ≡ true → all f (ordered o s l) ≡ true
ordered_all by_arrival s f l h = h
ordered_all by_priority s f l h = all_highest (λ t. (thread_of s t).priority) f max_priority l h

pub ordered_occurs : (o : Order) (s : State) (t : ℕ) (l : List ℕ) → occurs t (ordered o s l) ≡ occurs t l
ordered_occurs by_arrival s t l = refl
ordered_occurs by_priority s t l = occurs_highest (λ t. (thread_of s t).priority) max_priority t l

pub ordered_elem : (o : Order) (s : State) (t : ℕ) (l : List ℕ) → elem t (ordered o s l) ≡ elem t l
ordered_elem o s t l = elem_agree t (ordered o s l) l (ordered_occurs o s t l)

pub ordered_length : (o : Order) (s : State) (l : List ℕ) → length (ordered o s l) ≡ length l
ordered_length by_arrival s l = refl
ordered_length by_priority s l = length_highest (λ t. (thread_of s t).priority) max_priority l

-- and goes by the records of those that it orders
pub ordered_agree : (o : Order) (f : ℕ → Bool) (s u : State) → ((t : ℕ) → f t ≡ true → thread_of u t ≡ thread_of s t)
    → (l : List ℕ) → all f l ≡ true → ordered o u l ≡ ordered o s l
ordered_agree by_arrival f s u same l h = refl
ordered_agree by_priority f s u same l h =
    highest_agree (λ t. (thread_of u t).priority) (λ t. (thread_of s t).priority) f (λ t e. ap (λ (r : Thread). r.priority) (same t e)) max_priority l h

-- threads of one priority are taken as they stand
pub ordered_level : (o : Order) (s : State) (k : ℕ) (l : List ℕ) → all (λ t. eqb (thread_of s t).priority k) l ≡ true → ordered o s l ≡ l
ordered_level by_arrival s k l h = refl
ordered_level by_priority s k l h = highest_same (λ t. (thread_of s t).priority) k max_priority l h

pub candidates_pass : (ed : Edition) (q : Thread → Bool) (p a : ℕ) (s : State) → all (candidate ed q p a s) (candidates_in ed q p a s) ≡ true
candidates_pass ed q p a s = rw (candidates_are ed q p a s) (ordered_all ed.order s (candidate ed q p a s) _ (all_filter (candidate ed q p a s) (arrivals s)))

pub candidates_listed : (ed : Edition) (q : Thread → Bool) (p a : ℕ) (s : State) (t : ℕ) → occurs t (candidates_in ed q p a s) ≤ occurs t (arrivals s)
candidates_listed ed q p a s t = rw (candidates_are ed q p a s, ordered_occurs ed.order s t (filter (candidate ed q p a s) (arrivals s))) (occurs_filter_le (candidate ed q p a s) t (arrivals s))

-- a candidate is a thread of the process, and sleeps at the address
pub candidate_own : (ed : Edition) (q : Thread → Bool) (p a : ℕ) (s : State) (t : ℕ) → candidate ed q p a s t ≡ true → eqb (process_in ed t) p ≡ true
candidate_own ed q p a s t h =
    and_left (eqb (process_in ed t) p) ((thread_of s t).waiting && eqb (thread_of s t).uaddr a)
    (and_right (q (thread_of s t)) (sleeps_in ed p a s t) h)

pub candidate_at : (ed : Edition) (q : Thread → Bool) (p a : ℕ) (s : State) (t : ℕ) → candidate ed q p a s t ≡ true → (thread_of s t).uaddr ≡ a
candidate_at ed q p a s t h =
    let r = thread_of s t in
    let asleep = and_right (eqb (process_in ed t) p) (r.waiting && eqb r.uaddr a) (and_right (q r) (sleeps_in ed p a s t) h) in
    eqb-true r.uaddr a (and_right r.waiting (eqb r.uaddr a) asleep)

module _ (ed : Edition) (k : Command) (c : Call) where
  -- who may be taken at uaddr, and at uaddr2
  abbrev pub at_first : State → ℕ → Bool
  at_first s t = candidate ed (matches k c) c.process c.uaddr s t

  abbrev pub at_second : State → ℕ → Bool
  at_second s t = candidate ed (matches k c) c.process c.uaddr2 s t

  pub released_pass : (s : State) → all (at_first s) (released_in ed k c s) ≡ true
  unfolding released_in
  released_pass s = all_take (at_first s) c.val _ (candidates_pass ed (matches k c) c.process c.uaddr s)

  pub moved_pass : (s : State) → all (at_first s) (moved_in ed k c s) ≡ true
  unfolding moved_in
  moved_pass s =
      all_take (at_first s) (second_cap c) _ (all_drop (at_first s) c.val _ (candidates_pass ed (matches k c) c.process c.uaddr s))

  pub second_pass : (w : WorldIn ed) → all (at_second w.state) (released_second k c w) ≡ true
  unfolding released_second
  second_pass w =
      let l = candidates_in ed (matches k c) c.process c.uaddr2 w.state in
      let out = released_in ed k c w.state in
      cases (compares c.val3 (word_at w c.process c.uaddr2))
      (λ e. rw e (all_take (at_second w.state) (second_cap c) (without out l)
      (all_filtered (at_second w.state) (λ t. not (elem t out)) l (candidates_pass ed (matches k c) c.process c.uaddr2 w.state))))
      (λ e. rw e)

  -- the released and the moved are different threads, and all are on the list
  pub parts_listed : (s : State) (t : ℕ) → occurs t (released_in ed k c s) + occurs t (moved_in ed k c s) ≤ occurs t (arrivals s)
  unfolding released_in moved_in
  parts_listed s t =
      let l = candidates_in ed (matches k c) c.process c.uaddr s in
      omega (arith, occurs_take_drop c.val t l, occurs_take_le (second_cap c) t (drop c.val l), candidates_listed ed (matches k c) c.process c.uaddr s t)

  -- and so are the released at the first word and at the second
  pub second_listed : (w : WorldIn ed) (t : ℕ) → occurs t (released_second k c w) ≤ occurs t (without (released_in ed k c w.state) (arrivals w.state))
  unfolding released_second
  second_listed w t =
      let out = released_in ed k c w.state in
      let l = candidates_in ed (matches k c) c.process c.uaddr2 w.state in
      cases (compares c.val3 (word_at w c.process c.uaddr2))
      (λ e. rw e (cases (elem t out)
      (λ d. omega (arith, occurs_take_le (second_cap c) t (without out l), occurs_taken_out t out l d))
      (λ d. omega (
        arith,
        occurs_take_le (second_cap c) t (without out l),
        occurs_without t out l d,
        occurs_without t out (arrivals w.state) d,
        candidates_listed ed (matches k c) c.process c.uaddr2 w.state t,
      ))))
      (λ e. rw e (omega arith))

  -- the moved are still listed once the released have left
  pub moved_left : (s : State) → SoundIn ed s → (t : ℕ) → occurs t (moved_in ed k c s) ≤ occurs t (without (released_in ed k c s) (arrivals s))
  moved_left s g t = cases (elem t (released_in ed k c s))
      (λ e. omega (arith, parts_listed s t, elem_occurs t (released_in ed k c s) e, once s g t))
      (λ e. omega (arith, parts_listed s t, occurs_without t (released_in ed k c s) (arrivals s) e))
