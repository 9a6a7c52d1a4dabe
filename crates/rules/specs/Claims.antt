-- The words in which the theorems of proofs/Theorems.antt speak of the rules.
use Rattle.std.specs.Prelude.{◌≡◌, Bool, true, false, not, cond, ◌&&◌, List, [], ◌∷◌, ◌++◌, ◌⊎◌, ℕ, ◌%◌, ◌<◌, length, set, eqb}
use Rattle.lists.specs.Lists.{filter, elem, StandsBefore, without, count_below}
use Rattle.tables.specs.declared.State.{State}
use Rattle.tables.specs.declared.Thread.{Thread}
use Rattle.tables.specs.declared.LastAnswer.{LastAnswer}
use Rattle.tables.specs.declared.LastAnswer.TheVariants.{Woken, TimedOut, Interrupted}
use Rattle.rules.specs.declared.event.Command.{Command}
use Rattle.rules.specs.declared.event.Command.TheVariants.{Wait, WaitBitset}
use Rattle.rules.specs.declared.event.Call.{Call}
use Rattle.rules.specs.declared.event.Event.{Event}
use Rattle.rules.specs.declared.event.Event.TheVariants.{Call as CallEvent, Store, Clock, Interrupt, Query, SetPriority}
use Rattle.rules.specs.declared.answer.Reason.{Reason}
use Rattle.rules.specs.declared.answer.Reason.TheVariants.{FirstCap, SecondCap, MaskZero, UaddrUnaligned, Uaddr2Unaligned, SameAddress, ClockBack, PriorityHigh}
use Rattle.rules.specs.declared.answer.Refusal.{Refusal}
use Rattle.rules.specs.declared.answer.Answer.{Answer}
use Rattle.rules.specs.declared.answer.Answer.TheVariants.{Count}
use Rattle.tables.specs.Sizes.{processes, threads_per_process, threads, word_bytes, bytes_per_process, memory_words, word_limit, max_cap, max_priority}
use Rattle.tables.specs.Tables.{expired, World, thread_number, process_of, word_number, word_at, ended, thread_of, arrivals, queue, tables_ok, moved_to, asleep_at, with_priority}
use Rattle.rules.specs.Answers.{Row, is_refused}
use Rattle.rules.specs.Commands.{command_of, bit_set, clock_bit, uses}
use Rattle.rules.specs.WakeOp.{new_word}
use Rattle.rules.specs.Calls.{is_wake_op, caller, timeout_given, deadline_of, mask_of, released, moved, released_second}
use Rattle.rules.specs.Events.{of_call, step}
use Rattle.rules.specs.History.{final}

-- Refusals: x is the error, with its reason, of the first row that applies.
pub data FirstOf (x : Refusal) : List Row → Type 0 where
  here : {r : Row} {rs : List Row} → r.applies ≡ true → r.refusal ≡ x → FirstOf x (r ∷ rs)
  later : {r : Row} {rs : List Row} → r.applies ≡ false → FirstOf x rs → FirstOf x (r ∷ rs)

-- no row applies
abbrev pub Clear : List Row → Type 0
Clear [] = Unit {0}
Clear (r ∷ rs) = (r.applies ≡ false) × Clear rs

-- Reasons: what may be wrong with an event, in request (i)'s words, and the reason that says so.
pub data Fault (w : World) : Reason → Event → Type 0 where
  -- "1 first cap"
  first_cap : (c : Call) → (uses (command_of c.op)).cap ≡ true → max_cap < c.val → Fault w FirstCap (CallEvent c)
  -- "2 second cap"
  second_cap : (c : Call) → (uses (command_of c.op)).second ≡ true → max_cap < c.timeout % word_limit → Fault w SecondCap (CallEvent c)
  -- "3 mask zero"
  mask_zero : (c : Call) → (uses (command_of c.op)).mask ≡ true → c.val3 ≡ 0 → Fault w MaskZero (CallEvent c)
  -- "4 uaddr not aligned (also a store's address)"
  uaddr_unaligned : (c : Call) → (c.uaddr % word_bytes ≡ 0 → ⊥) → Fault w UaddrUnaligned (CallEvent c)
  address_unaligned : (p a v : ℕ) → (a % word_bytes ≡ 0 → ⊥) → Fault w UaddrUnaligned (Store p a v)
  -- "5 uaddr2 not aligned"
  uaddr2_unaligned : (c : Call) → (uses (command_of c.op)).second ≡ true → (c.uaddr2 % word_bytes ≡ 0 → ⊥) → Fault w Uaddr2Unaligned (CallEvent c)
  -- "6 same address twice"
  same_address : (c : Call) → (uses (command_of c.op)).moves ≡ true → c.uaddr ≡ c.uaddr2 → Fault w SameAddress (CallEvent c)
  -- "7 clock went back"
  clock_back : (now : ℕ) → now < w.state.clock → Fault w ClockBack (Clock now)
  -- "-22 if above 31 (reason 8)"
  priority_high : (p i n : ℕ) → max_priority < n → Fault w PriorityHigh (SetPriority p i n)

-- Waits: WAIT or WAIT_BITSET.
abbrev pub IsWait : Command → Type 0
IsWait k = (k ≡ Wait) ⊎ (k ≡ WaitBitset)

-- "A wait sleeps exactly when no check refuses it, the word equals the expected number and its deadline, if any, is still ahead."
pub record Sleeps (c : Call) (w : World) : Type 0 where
  pub is_wait : IsWait (command_of c.op)
  -- no check refuses it: -6, -9, -3, -16, -38, -22, -14
  pub memory : length w.words ≡ memory_words
  pub tables : tables_ok w.state ≡ true
  pub process : c.process < processes
  pub index : c.index < threads_per_process
  pub runs : (thread_of w.state (caller c)).waiting ≡ false
  pub monotonic : bit_set c.op clock_bit ≡ 1 → ⊥
  pub mask : command_of c.op ≡ WaitBitset → c.val3 ≡ 0 → ⊥
  pub alignment : c.uaddr % word_bytes ≡ 0
  pub inside : c.uaddr < bytes_per_process
  -- the word equals the expected number
  pub equal : word_at w c.process c.uaddr ≡ c.val
  -- its deadline, if any, is still ahead
  pub ahead : timeout_given c ≡ true → w.state.clock < deadline_of (command_of c.op) c w.state.clock

-- the record of a sleeper whose call is c, made of the one that it had
abbrev pub sleeps_by : Call → World → Thread → Thread
sleeps_by c w = asleep_at c.uaddr (mask_of (command_of c.op) c) (timeout_given c) (deadline_of (command_of c.op) c w.state.clock)

-- Wakes and requeues: whom a call releases, at its first word and, for WAKE_OP, at its second; and whom it moves.
abbrev pub woken_by : Command → Call → World → List ℕ
woken_by k c w = released k c w.state ++ cond (is_wake_op k) (released_second k c w) []

abbrev pub moved_by : Command → Call → World → List ℕ
moved_by k c w = cond (uses k).moves (moved k c w.state) []

-- u goes before t: "by higher base priority, and by arrival among equals".
abbrev pub GoesBefore : State → ℕ → ℕ → Type 0
GoesBefore s u t =
    ((thread_of s t).priority < (thread_of s u).priority)
    ⊎ (((thread_of s u).priority ≡ (thread_of s t).priority) × StandsBefore u t (arrivals s))

-- From s to u, the threads `out` ran with the answer a, the threads `on` went to the target and to the list's end, and every other
-- record and the order of every other entry are as they were.
pub record Took (a : LastAnswer) (out on : List ℕ) (target : ℕ) (s u : State) : Type 0 where
  pub ran : (t : ℕ) → elem t out ≡ true → thread_of u t ≡ ended a (thread_of s t)
  -- mask, deadline and last answer are kept
  pub went : (t : ℕ) → elem t on ≡ true → thread_of u t ≡ moved_to target (thread_of s t)
  pub stayed : (t : ℕ) → elem t out ≡ false → elem t on ≡ false → thread_of u t ≡ thread_of s t
  pub order : arrivals u ≡ without on (without out (arrivals s)) ++ on

-- What a call that is answered a count leaves: the clock too, and the words but for the one that WAKE_OP writes.
pub record Takes (k : Command) (c : Call) (w v : World) : Type 0 where
  pub took : Took Woken (woken_by k c w) (moved_by k c w) c.uaddr2 w.state v.state
  pub clock : v.state.clock ≡ w.state.clock
  pub words : v.words
      ≡ cond (is_wake_op k)
      (set w.words (word_number c.process c.uaddr2) (new_word c.val3 (word_at w c.process c.uaddr2)))
      w.words

-- Counts: a record that went from waiting to running, and one that still waits, at another address.
abbrev pub woke : State → State → ℕ → Bool
woke s u t = (thread_of s t).waiting && not (thread_of u t).waiting

abbrev pub shifted : State → State → ℕ → Bool
shifted s u t = (thread_of s t).waiting && (thread_of u t).waiting && not (eqb (thread_of s t).uaddr (thread_of u t).uaddr)

abbrev pub woken_count : World → World → ℕ
woken_count w v = count_below threads (woke w.state v.state)

abbrev pub shifted_count : World → World → ℕ
shifted_count w v = count_below threads (shifted w.state v.state)

-- "where moves count": CMP_REQUEUE
abbrev pub counts_moves : Event → Bool
counts_moves e = of_call (λ c. (uses (command_of c.op)).moves && (uses (command_of c.op)).compare) false e

-- the same sleepers at a word, in the same order and with the same records
pub record SameSleepers (p a : ℕ) (s u : State) : Type 0 where
  pub order : queue p a s ≡ queue p a u
  pub records : (t : ℕ) → elem t (queue p a s) ≡ true → thread_of s t ≡ thread_of u t

-- Two worlds that may differ in all but the sleepers at the words that the call names and, for WAKE_OP, the word that it reads.
pub record NamedAlike (k : Command) (c : Call) (w v : World) : Type 0 where
  pub first : SameSleepers c.process c.uaddr w.state v.state
  pub second : (uses k).second ≡ true → SameSleepers c.process c.uaddr2 w.state v.state
  pub word : is_wake_op k ≡ true → word_at w c.process c.uaddr2 ≡ word_at v c.process c.uaddr2

-- What an event does to a thread: its record before and after.
abbrev pub before : World → ℕ → Thread
before w t = thread_of w.state t

abbrev pub after : Event → World → ℕ → Thread
after e w t = thread_of (step e w).world.state t

-- an event that is answered 0 set its priority, and nothing else of its record
pub record PrioritySet (e : Event) (w : World) (t : ℕ) : Type 0 where
  pub process : ℕ
  pub index : ℕ
  pub priority : ℕ
  pub event : e ≡ SetPriority process index priority
  pub thread : t ≡ thread_number process index
  pub answer : (step e w).answer ≡ Count 0
  pub left : after e w t ≡ with_priority priority (before w t)

pub data Fate (e : Event) (w : World) (t : ℕ) : Type 0 where
  -- its record is as it was
  stays : after e w t ≡ before w t → Fate e w t
  -- it called a wait, and sleeps
  sleeps : (c : Call) → e ≡ CallEvent c → t ≡ caller c → Sleeps c w → after e w t ≡ sleeps_by c w (before w t) → Fate e w t
  -- a wake or requeue released it
  wakes : (c : Call) → e ≡ CallEvent c → elem t (woken_by (command_of c.op) c w) ≡ true → after e w t ≡ ended Woken (before w t) → Fate e w t
  -- a requeue moved it
  moves : (c : Call) → e ≡ CallEvent c → elem t (moved_by (command_of c.op) c w) ≡ true → after e w t ≡ moved_to c.uaddr2 (before w t) → Fate e w t
  -- the clock reached its deadline
  times_out : (now : ℕ) → e ≡ Clock now → expired now (before w t) ≡ true → after e w t ≡ ended TimedOut (before w t) → Fate e w t
  -- an interrupt named it
  is_interrupted : (p i : ℕ) → e ≡ Interrupt p i → t ≡ thread_number p i → (before w t).waiting ≡ true → after e w t ≡ ended Interrupted (before w t) → Fate e w t
  -- its priority was set
  is_set : PrioritySet e w t → Fate e w t

-- Priorities: what an event that is answered so makes of the priority of thread t.
abbrev pub priority_by : Event → Answer → ℕ → ℕ → ℕ
priority_by (CallEvent c) a t old = old
priority_by (Store p x v) a t old = old
priority_by (Clock now) a t old = old
priority_by (Interrupt p i) a t old = old
priority_by (Query p) a t old = old
priority_by (SetPriority p i n) a t old = cond (eqb t (thread_number p i) && not (is_refused a)) n old

-- the same of a history: the last that was set, and else the old one
abbrev pub priority_after : List Event → List Answer → ℕ → ℕ → ℕ
priority_after [] l t old = old
priority_after (e ∷ es) [] t old = old
priority_after (e ∷ es) (a ∷ l) t old = priority_after es l t (priority_by e a t old)

-- No lost wake: thread t is asleep at address a of its process.
abbrev pub asleep_there : ℕ → ℕ → World → Bool
asleep_there t a w = (thread_of w.state t).waiting && eqb (thread_of w.state t).uaddr a

-- How a thread can come to be asleep at an address: by a wait of its own that sleeps there, and so saw its number there, or by a
-- requeue to that address that is answered a count, by a thread of its process.
pub data Enters (t a : ℕ) (e : Event) (w : World) : Type 0 where
  by_wait : (c : Call) → e ≡ CallEvent c → t ≡ caller c → c.uaddr ≡ a → Sleeps c w → Enters t a e w
  by_requeue : (c : Call) (n : ℕ) → e ≡ CallEvent c → (step e w).answer ≡ Count n → (uses (command_of c.op)).moves ≡ true
      → c.process ≡ process_of t → c.uaddr2 ≡ a → elem t (moved (command_of c.op) c w.state) ≡ true → Enters t a e w

-- asleep there before and after each event of the history
abbrev pub slept_through : ℕ → ℕ → List Event → World → Bool
slept_through t a [] w = asleep_there t a w
slept_through t a (e ∷ es) w = asleep_there t a w && slept_through t a es (step e w).world

-- It entered by an event of the history, and has slept there since.
pub record Since (t a : ℕ) (h : List Event) (w : World) : Type 0 where
  pub earlier : List Event
  pub entry : Event
  pub later : List Event
  pub split : h ≡ earlier ++ entry ∷ later
  pub entered : Enters t a entry (final earlier w)
  pub slept : slept_through t a later (step entry (final earlier w)).world ≡ true

-- Isolation. "At the end its words, its thread records and the order of its sleepers are the same too."
pub record Alike (p : ℕ) (u v : World) : Type 0 where
  pub words : (a : ℕ) → a < bytes_per_process → word_at u p a ≡ word_at v p a
  pub records : (i : ℕ) → i < threads_per_process → thread_of u.state (thread_number p i) ≡ thread_of v.state (thread_number p i)
  -- "the arrival list's threads of that process, in list order"
  pub order : filter (λ t. eqb (process_of t) p) (arrivals u.state) ≡ filter (λ t. eqb (process_of t) p) (arrivals v.state)
