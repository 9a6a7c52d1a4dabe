-- "The tables": what the kernel keeps, the rules that sound tables keep, and the changes that events make to them.
use Rattle.std.specs.Prelude.{Bool, true, false, not, cond, ◌&&◌, List, [], ◌∷◌, ◌++◌, ℕ, ◌+◌, ◌*◌, ◌/◌, ◌%◌, length, take, drop, get_or, set, replicate, eqb, leb, ltb}
use Rattle.std.specs.Bool.{beq}
use Rattle.std.specs.Int.Bits.{bit_and}
use Rattle.lists.specs.Lists.{filter, all, update, pad_to, elem, without, distinct, every_below}
use Rattle.tables.specs.declared.State.{State}
use Rattle.tables.specs.declared.Thread.{Thread}
use Rattle.tables.specs.declared.LastAnswer.{LastAnswer}
use Rattle.tables.specs.declared.LastAnswer.TheVariants.{NoneYet}
use Rattle.tables.specs.Sizes.{words_per_process, word_bytes, bytes_per_process, no_entry, max_priority}
use Rattle.tables.specs.Editions.{Edition, present, threads_in}

-- The tables and the lent words, which the kernel is handed with each event, under an edition of the rules.
pub record WorldIn (ed : Edition) : Type 0 where
  pub state : State
  pub words : List ℕ

abbrev pub World : Type 0
World = WorldIn present

-- the tables and the lent words
abbrev pub world : State → List ℕ → World
world s words = record { state = s; words = words }

-- "thread (p, i) has number 8p + i"
abbrev pub thread_number_in : Edition → ℕ → ℕ → ℕ
thread_number_in ed p i = ed.per_process * p + i

abbrev pub thread_number : ℕ → ℕ → ℕ
thread_number p i = thread_number_in present p i

abbrev pub process_in : Edition → ℕ → ℕ
process_in ed t = t / ed.per_process

abbrev pub process_of : ℕ → ℕ
process_of t = process_in present t

-- "the word at address a of process p is word 1024p + a/4 of the lent memory"
abbrev pub word_number : ℕ → ℕ → ℕ
word_number p a = words_per_process * p + a / word_bytes

abbrev pub word_at : {ed : Edition} → WorldIn ed → ℕ → ℕ → ℕ
word_at w p a = get_or w.words (word_number p a) 0

-- A thread's record at the start: "all running, last answers 1"; "a base priority, 0 to 31, 0 at the start".
abbrev pub fresh_thread : Thread
fresh_thread = record { waiting = false; uaddr = 0; bitset = 0; timed = false; deadline = 0; last = NoneYet; priority = 0 }

abbrev pub thread_of : State → ℕ → Thread
thread_of s t = get_or s.threads t fresh_thread

-- the arrival list: the first count entries
abbrev pub arrivals : State → List ℕ
arrivals s = take s.count s.list

abbrev pub sleeps_in : Edition → ℕ → ℕ → State → ℕ → Bool
sleeps_in ed p a s t = eqb (process_in ed t) p && ((thread_of s t).waiting && eqb (thread_of s t).uaddr a)

abbrev pub sleeps_at : ℕ → ℕ → State → ℕ → Bool
sleeps_at p a s t = sleeps_in present p a s t

-- "The queue of a word is the arrival list's threads that wait there, in list order."
unfoldable pub queue_in : Edition → ℕ → ℕ → State → List ℕ
queue_in ed p a s = filter (sleeps_in ed p a s) (arrivals s)

abbrev pub queue : ℕ → ℕ → State → List ℕ
queue p a s = queue_in present p a s

-- The table rules, in the paper's order.

-- "64 thread records and one arrival list with a count"
abbrev pub sizes_ok : Edition → State → Bool
sizes_ok ed s = eqb (length s.threads) (threads_in ed) && eqb (length s.list) (threads_in ed)

-- "count at most 64"
abbrev pub count_ok : Edition → State → Bool
count_ok ed s = leb s.count (threads_in ed)

-- "the first count entries are thread numbers"
abbrev pub numbers_ok : Edition → State → Bool
numbers_ok ed s = all (λ t. ltb t (threads_in ed)) (arrivals s)

-- "all different"
abbrev pub distinct_ok : State → Bool
distinct_ok s = distinct (arrivals s)

-- "and are exactly the waiting threads"
abbrev pub exact_ok : Edition → State → Bool
exact_ok ed s = every_below (threads_in ed) (λ t. beq (elem t (arrivals s)) (thread_of s t).waiting)

-- "later entries are 255"
abbrev pub tail_ok : State → Bool
tail_ok s = all (λ e. eqb e no_entry) (drop s.count s.list)

-- "a multiple of 4"
abbrev pub aligned : ℕ → Bool
aligned a = eqb (a % word_bytes) 0

-- "4096 or more"
abbrev pub outside : ℕ → Bool
outside a = leb bytes_per_process a

-- "a running record has the zeros named above"
abbrev pub running_ok : Thread → Bool
running_ok r = eqb r.uaddr 0 && eqb r.bitset 0 && not r.timed && eqb r.deadline 0

-- "either no deadline with 0 stored or a deadline above the clock"
abbrev pub deadline_ok : ℕ → Thread → Bool
deadline_ok now r = cond r.timed (ltb now r.deadline) (eqb r.deadline 0)

-- "a waiting record has an aligned address below 4096, a mask that is not 0, and .."
abbrev pub waiting_ok : ℕ → Thread → Bool
waiting_ok now r = aligned r.uaddr && ltb r.uaddr bytes_per_process && not (eqb r.bitset 0) && deadline_ok now r

abbrev pub sleep_ok : ℕ → Thread → Bool
sleep_ok now r = cond r.waiting (waiting_ok now r) (running_ok r)

-- "priority at most 31", of a running and of a waiting record
abbrev pub priority_ok : Thread → Bool
priority_ok r = leb r.priority max_priority

-- A record by its rules. "the last answer is one of the four": its type holds no other.
unfoldable pub record_ok : ℕ → Thread → Bool
record_ok now r = sleep_ok now r && priority_ok r

abbrev pub records_ok : State → Bool
records_ok s = all (record_ok s.clock) s.threads

-- "Table rules"
unfoldable pub tables_in : Edition → State → Bool
tables_in ed s =
    sizes_ok ed s && count_ok ed s && numbers_ok ed s && distinct_ok s && exact_ok ed s && tail_ok s && records_ok s

abbrev pub tables_ok : State → Bool
tables_ok s = tables_in present s

-- "Fresh: clock 0, all running, last answers 1, list empty."
unfoldable pub fresh_in : Edition → State
fresh_in ed = record { clock = 0; threads = replicate (threads_in ed) fresh_thread; list = replicate (threads_in ed) no_entry; count = 0 }

abbrev pub fresh : State
fresh = fresh_in present

-- Whom an event may end.

-- a sleeper "whose deadline is at or below it"
abbrev pub expired : ℕ → Thread → Bool
expired now r = r.waiting && r.timed && leb r.deadline now

-- "every sleeper whose deadline is at or below it ends with -110"
unfoldable pub expired_sleepers : ℕ → State → List ℕ
expired_sleepers now s = filter (λ t. expired now (thread_of s t)) (arrivals s)

-- a sleeper "whose mask shares a bit with val3"
abbrev pub shares_bit : ℕ → Thread → Bool
shares_bit m r = not (eqb (bit_and r.bitset m) 0)

-- The changes.

abbrev pub with_threads : List Thread → State → State
with_threads ts s = record { clock = s.clock; threads = ts; list = s.list; count = s.count }

-- the arrival list as it is stored: its entries, then 255
abbrev pub with_arrivals : Edition → List ℕ → State → State
with_arrivals ed l s = record { clock = s.clock; threads = s.threads; list = pad_to (threads_in ed) no_entry l; count = length l }

abbrev pub with_clock : ℕ → State → State
with_clock now s = record { clock = now; threads = s.threads; list = s.list; count = s.count }

-- A record with another sleep, one with another last answer, and one with another priority. What they do not name is kept: each change of
-- a record is made of these three, so that a field that is added later is kept by all of them.
abbrev pub with_sleep : Bool → ℕ → ℕ → Bool → ℕ → Thread → Thread
with_sleep waiting a m timed due r =
    record { waiting = waiting; uaddr = a; bitset = m; timed = timed; deadline = due; last = r.last; priority = r.priority }

abbrev pub with_last : LastAnswer → Thread → Thread
with_last a r =
    record { waiting = r.waiting; uaddr = r.uaddr; bitset = r.bitset; timed = r.timed; deadline = r.deadline; last = a; priority = r.priority }

abbrev pub with_priority : ℕ → Thread → Thread
with_priority n r =
    record { waiting = r.waiting; uaddr = r.uaddr; bitset = r.bitset; timed = r.timed; deadline = r.deadline; last = r.last; priority = n }

-- the records of the threads ts changed by f, the others as they were
unfoldable pub change : (Thread → Thread) → List ℕ → List Thread → List Thread
change f ts rs = update (λ t r. cond (elem t ts) (f r) r) rs

-- "A running thread has zeros for address, mask and deadline, and no deadline."
abbrev pub ended : LastAnswer → Thread → Thread
ended a r = with_last a (with_sleep false 0 0 false 0 r)

-- "A released thread leaves the list, runs, and has last answer 0. A sleeper ended by the clock or an interrupt leaves
-- the list and runs likewise, with its own last answer. Whatever ends or moves, the other entries keep their order."
unfoldable pub end_in : Edition → LastAnswer → List ℕ → State → State
end_in ed a ts s = with_arrivals ed (without ts (arrivals s)) (with_threads (change (ended a) ts s.threads) s)

abbrev pub end_sleeps : LastAnswer → List ℕ → State → State
end_sleeps a ts s = end_in present a ts s

-- "with mask and deadline kept"
abbrev pub moved_to : ℕ → Thread → Thread
moved_to a r = with_sleep r.waiting a r.bitset r.timed r.deadline r

-- "move to uaddr2, joining the end of the arrival list"; "Requeued threads join the list's end in the order in which they were taken"
unfoldable pub move_in : Edition → ℕ → List ℕ → State → State
move_in ed a ts s = with_arrivals ed (without ts (arrivals s) ++ ts) (with_threads (change (moved_to a) ts s.threads) s)

abbrev pub move_sleeps : ℕ → List ℕ → State → State
move_sleeps a ts s = move_in present a ts s

-- "no deadline with 0 stored"
abbrev pub stored_deadline : Bool → ℕ → ℕ
stored_deadline timed due = cond timed due 0

-- "the answer of its last ended sleep" stays while the thread sleeps
abbrev pub asleep_at : ℕ → ℕ → Bool → ℕ → Thread → Thread
asleep_at a m timed due r = with_sleep true a m timed (stored_deadline timed due) r

-- "The caller joins the end of the arrival list."
unfoldable pub sleep_in : Edition → (Thread → Thread) → ℕ → State → State
sleep_in ed f t s = with_arrivals ed (arrivals s ++ (t ∷ [])) (with_threads (change f (t ∷ []) s.threads) s)

abbrev pub fall_asleep : (Thread → Thread) → ℕ → State → State
fall_asleep f t s = sleep_in present f t s

-- "Log kind 5 sets it"
unfoldable pub set_priority : ℕ → ℕ → State → State
set_priority n t s = with_threads (change (with_priority n) (t ∷ []) s.threads) s

-- one word of a process written
unfoldable pub write_word : {ed : Edition} → ℕ → ℕ → ℕ → WorldIn ed → WorldIn ed
write_word p a v w = record { state = w.state; words = set w.words (word_number p a) v }

abbrev pub with_state : {ed : Edition} → State → WorldIn ed → WorldIn ed
with_state s w = record { state = s; words = w.words }
