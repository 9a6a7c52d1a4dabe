-- "Twelve to be proved together": P1 to P12, each run from the fresh state over zero words, in one table; beside them further cases, the
-- reasons of request (i), and one history of several processes. proofs/Theorems.antt has a statement for each table.
use Rattle.std.specs.Prelude.{Bool, true, false, List, [], ◌∷◌, ◌++◌, map, ℕ, suc, ◌-◌, replicate, ℤ, pos, neg_ℤ}
use Rattle.tables.specs.declared.State.{State}
use Rattle.tables.specs.declared.Thread.{Thread}
use Rattle.tables.specs.declared.LastAnswer.{LastAnswer}
use Rattle.tables.specs.declared.LastAnswer.TheVariants.{NoneYet, Woken, TimedOut, Interrupted}
use Rattle.rules.specs.declared.event.Event.{Event}
use Rattle.rules.specs.declared.event.Event.TheVariants.{Call, Store, Clock, Interrupt, Query, SetPriority}
use Rattle.tables.specs.Sizes.{memory_words, threads, threads_per_process, match_any, no_entry}
use Rattle.tables.specs.Tables.{World, world, fresh_thread, with_priority, thread_of, arrivals, word_at}
use Rattle.rules.specs.Answers.{reason_number, answer_numbers, reason_of, last_number}
use Rattle.rules.specs.Events.{step}
use Rattle.rules.specs.History.{start, final, answers, answers_to, kept_for}

-- the words are of process 0, and most cases use the one at this address
abbrev pub address : ℕ
address = 8

abbrev pub other : ℕ
other = 12

-- the thread that wakes and requeues
abbrev waker : ℕ
waker = threads_per_process - 1

abbrev call_of : ℕ → ℕ → ℕ → ℕ → ℕ → ℕ → ℕ → ℕ → ℕ → Event
call_of p i op a v flag timeout a2 v3 =
    Call (record { process = p; index = i; op = op; uaddr = a; val = v; flag = flag; timeout = timeout; uaddr2 = a2; val3 = v3 })

abbrev call_by : ℕ → ℕ → ℕ → ℕ → ℕ → ℕ → ℕ → ℕ → Event
call_by i op a v flag timeout a2 v3 = call_of 0 i op a v flag timeout a2 v3

-- thread i waits at a for v
abbrev pub wait_for : ℕ → ℕ → ℕ → Event
wait_for i a v = call_by i 0 a v 0 0 0 0

abbrev pub wait_until : ℕ → ℕ → ℕ → Event
wait_until i v timeout = call_by i 0 address v 1 timeout 0 0

abbrev pub wait_mask : ℕ → ℕ → Event
wait_mask i m = call_by i 9 address 0 0 0 0 m

abbrev pub by_waker : ℕ → ℕ → ℕ → ℕ → ℕ → ℕ → Event
by_waker op a v cap2 a2 v3 = call_by waker op a v 0 cap2 a2 v3

-- a WAKE_OP that releases nobody at another word and, if its comparison holds, one here
abbrev pub wake_op_at : ℕ → Event
wake_op_at v3 = by_waker 5 other 0 1 address v3

-- a thread sleeps at a word of all ones
abbrev pub asleep_at_minus_one : List Event
asleep_at_minus_one = Store 0 address 4294967295 ∷ wait_for 0 address 4294967295 ∷ []

-- a sleeper as it is to be seen: its number, address, mask and deadline
pub record Sleeper : Type 0 where
  pub number : ℕ
  pub uaddr : ℕ
  pub bitset : ℕ
  pub timed : Bool
  pub deadline : ℕ

-- an ended sleep as it is to be seen: the thread's number and the sleep's answer
pub record EndedSleep : Type 0 where
  pub number : ℕ
  pub answer : ℤ

-- What happens; then what the paper says of it: the answers, who sleeps, in list order, whose sleep ended, and the word at the address.
pub record Case : Type 0 where
  pub happens : List Event
  pub answers : List (List ℤ)
  pub sleep : List Sleeper
  pub ended : List EndedSleep
  pub word : ℕ

abbrev line : List Event → List (List ℤ) → List Sleeper → List EndedSleep → ℕ → Case
line events numbers sleepers sleeps v = record { happens = events; answers = numbers; sleep = sleepers; ended = sleeps; word = v }

abbrev at : ℕ → ℕ → Sleeper
at t a = record { number = t; uaddr = a; bitset = match_any; timed = false; deadline = 0 }

abbrev masked : ℕ → ℕ → Sleeper
masked t m = record { number = t; uaddr = address; bitset = m; timed = false; deadline = 0 }

abbrev until : ℕ → ℕ → ℕ → Sleeper
until t a due = record { number = t; uaddr = a; bitset = match_any; timed = true; deadline = due }

abbrev pub asleep : List ℤ
asleep = pos 2147483647 ∷ []

abbrev pub number : ℕ → List ℤ
number n = pos n ∷ []

abbrev pub minus : ℕ → List ℤ
minus n = neg_ℤ (pos n) ∷ []

abbrev ended_sleep : ℕ → ℤ → EndedSleep
ended_sleep t z = record { number = t; answer = z }

abbrev woken : ℕ → EndedSleep
woken t = ended_sleep t (pos 0)

abbrev timed_out : ℕ → EndedSleep
timed_out t = ended_sleep t (neg_ℤ (pos 110))

abbrev interrupted : ℕ → EndedSleep
interrupted t = ended_sleep t (neg_ℤ (pos 4))

-- a panel query's three numbers
abbrev three : ℕ → ℕ → ℕ → List ℤ
three waiting count lowest = pos waiting ∷ pos count ∷ pos lowest ∷ []

abbrev three_asleep : List Event
three_asleep = wait_until 0 0 10 ∷ wait_until 1 0 11 ∷ wait_until 2 0 12 ∷ []

abbrev pub twelve : List Case
twelve =
    -- P1 word 5, WAIT val 5: asleep; val 4: -11
    line (Store 0 address 5 ∷ wait_for 0 address 5 ∷ wait_for 1 address 4 ∷ []) (number 0 ∷ asleep ∷ minus 11 ∷ []) (at 0 address ∷ []) [] 5
    -- P2 WAIT at 4092 with the right val: asleep
    ∷ line (wait_for 0 4092 0 ∷ []) (asleep ∷ []) (at 0 4092 ∷ []) [] 0
    -- P3 4094: -22; 4096: -14; 4097: -22
    ∷ line (wait_for 0 4094 0 ∷ wait_for 0 4096 0 ∷ wait_for 0 4097 0 ∷ []) (minus 22 ∷ minus 14 ∷ minus 22 ∷ []) [] [] 0
    -- P4 WAKE cap 0: 0; 2147483648: -22
    ∷ line (wait_for 0 address 0 ∷ by_waker 1 address 0 0 0 0 ∷ by_waker 1 address 2147483648 0 0 0 ∷ []) (asleep ∷ number 0 ∷ minus 22 ∷ []) (at 0 address ∷ []) [] 0
    -- P5 sleepers with masks 1, 2, 3; WAKE_BITSET mask 2 cap 1 releases the second; the others keep their order
    ∷ line (wait_mask 0 1 ∷ wait_mask 1 2 ∷ wait_mask 2 3 ∷ by_waker 10 address 1 0 0 2 ∷ []) (asleep ∷ asleep ∷ asleep ∷ number 1 ∷ []) (masked 0 1 ∷ masked 2 3 ∷ []) (woken 1 ∷ []) 0
    -- P6 three sleepers, CMP_REQUEUE val 1, second cap 1: 2, one left behind
    ∷ line (three_asleep ++ (by_waker 4 address 1 1 other 0 ∷ [])) (asleep ∷ asleep ∷ asleep ∷ number 2 ∷ []) (until 2 address 12 ∷ until 1 other 11 ∷ []) (woken 0 ∷ []) 0
    -- P7 the same by REQUEUE: 1
    ∷ line (three_asleep ++ (by_waker 3 address 1 1 other 0 ∷ [])) (asleep ∷ asleep ∷ asleep ∷ number 1 ∷ []) (until 2 address 12 ∷ until 1 other 11 ∷ []) (woken 0 ∷ []) 0
    -- P8 WAKE_OP 0x14001000 on word 4294967295: "P8 now has a false comparison (-1 is not above 0) and the word still becomes 0"
    ∷ line (asleep_at_minus_one ++ (wake_op_at 0x14001000 ∷ [])) (number 0 ∷ asleep ∷ number 0 ∷ []) (at 0 address ∷ []) [] 0
    -- P9 WAKE_OP 0xB0021003 on 3: word 1, true
    ∷ line (Store 0 address 3 ∷ wait_for 0 address 3 ∷ wake_op_at 0xB0021003 ∷ []) (number 0 ∷ asleep ∷ number 1 ∷ []) [] (woken 0 ∷ []) 1
    -- P10 clock 5, WAIT timeout 10: clock 14 ends none, 15 ends one, then 14 is -22
    ∷ line (Clock 5 ∷ wait_until 0 0 10 ∷ Clock 14 ∷ []) (number 0 ∷ asleep ∷ number 0 ∷ []) (until 0 address 15 ∷ []) [] 0
    ∷ line (Clock 5 ∷ wait_until 0 0 10 ∷ Clock 14 ∷ Clock 15 ∷ Clock 14 ∷ []) (number 0 ∷ asleep ∷ number 0 ∷ number 1 ∷ minus 22 ∷ []) [] (timed_out 0 ∷ []) 0
    -- P11 timeout 0: -110 if the word matches, -11 if not
    ∷ line (wait_until 0 0 0 ∷ wait_until 0 1 0 ∷ []) (minus 110 ∷ minus 11 ∷ []) [] [] 0
    -- P12 op 128 as 0; op 256, 2 and 512: -38
    ∷ line (call_by 0 128 address 0 0 0 0 0 ∷ call_by 1 256 address 0 0 0 0 0 ∷ call_by 1 2 address 0 0 0 0 0 ∷ call_by 1 512 address 0 0 0 0 0 ∷ []) (asleep ∷ minus 38 ∷ minus 38 ∷ minus 38 ∷ []) (at 0 address ∷ []) [] 0
    ∷ []

-- Cases of the other events, and of the answers that the twelve do not give.
abbrev pub further : List Case
further =
    -- an interrupt of a sleeper: 1, and its last answer is -4; of a running thread: 0, and its last answer stays
    line (wait_for 0 address 0 ∷ Interrupt 0 0 ∷ Interrupt 0 0 ∷ Interrupt 0 1 ∷ []) (asleep ∷ number 1 ∷ number 0 ∷ number 0 ∷ []) [] (interrupted 0 ∷ []) 0
    -- the clock ends two of three, and the third keeps its deadline
    ∷ line (three_asleep ++ (Clock 11 ∷ [])) (asleep ∷ asleep ∷ asleep ∷ number 2 ∷ []) (until 2 address 12 ∷ []) (timed_out 0 ∷ timed_out 1 ∷ []) 0
    -- a deadline that the clock would never reach is the last time that it can
    ∷ line (Clock 18446744073709551614 ∷ wait_until 0 0 2 ∷ Clock 18446744073709551615 ∷ wait_until 0 0 1 ∷ []) (number 0 ∷ asleep ∷ number 1 ∷ minus 110 ∷ []) [] (timed_out 0 ∷ []) 0
    ∷ line (Clock 18446744073709551614 ∷ wait_until 0 0 2 ∷ []) (number 0 ∷ asleep ∷ []) (until 0 address 18446744073709551615 ∷ []) [] 0
    -- a panel query: threads 1 and 3 asleep; nobody; a process above 7
    ∷ line (wait_for 3 address 0 ∷ wait_for 1 address 0 ∷ Query 0 ∷ Query 1 ∷ Query 8 ∷ []) (asleep ∷ asleep ∷ three 10 2 1 ∷ three 0 0 8 ∷ three 0 0 8 ∷ []) (at 3 address ∷ at 1 address ∷ []) [] 0
    -- a process or index above 7: -3, by each event that names one
    ∷ line (call_of 8 0 1 address 1 0 0 0 0 ∷ call_of 0 8 1 address 1 0 0 0 0 ∷ Store 8 address 1 ∷ Interrupt 8 0 ∷ Interrupt 0 8 ∷ SetPriority 8 0 1 ∷ SetPriority 0 8 1 ∷ []) (minus 3 ∷ minus 3 ∷ minus 3 ∷ minus 3 ∷ minus 3 ∷ minus 3 ∷ minus 3 ∷ []) [] [] 0
    -- a call of a thread that waits: -16
    ∷ line (wait_for 0 address 0 ∷ call_by 0 1 address 1 0 0 0 0 ∷ []) (asleep ∷ minus 16 ∷ []) (at 0 address ∷ []) [] 0
    -- a store: not aligned -22, outside -14
    ∷ line (Store 0 9 1 ∷ Store 0 4096 1 ∷ Store 0 4097 1 ∷ Store 0 address 7 ∷ []) (minus 22 ∷ minus 14 ∷ minus 22 ∷ number 0 ∷ []) [] [] 7
    -- a wake takes the sleeper of the higher priority, and not the first in the list
    ∷ line (wait_for 0 address 0 ∷ wait_for 1 address 0 ∷ SetPriority 0 1 31 ∷ by_waker 1 address 1 0 0 0 ∷ []) (asleep ∷ asleep ∷ number 0 ∷ number 1 ∷ []) (at 0 address ∷ []) (woken 1 ∷ []) 0
    -- WAKE_OP with an undefined operation or comparison: -38, and the word stays
    ∷ line (wake_op_at 0x50000000 ∷ wake_op_at 0x06000000 ∷ []) (minus 38 ∷ minus 38 ∷ []) [] [] 0
    ∷ []

-- Reasons: an event at time 5, from the fresh state over zero words, its number and its reason. Each reason alone, then each pair that can
-- apply at once: "Where several apply, the lowest is given." "0 with every other answer".
pub record Reasoned : Type 0 where
  pub event : Event
  pub numbers : List ℤ
  pub reason : ℕ

abbrev excused : Event → List ℤ → ℕ → Reasoned
excused e numbers r = record { event = e; numbers = numbers; reason = r }

abbrev big : ℕ
big = 2147483648

-- WAKE, WAKE_BITSET with a mask, CMP_REQUEUE with a second cap and address, by their arguments
abbrev wake_at : ℕ → ℕ → Event
wake_at a v = by_waker 1 a v 0 0 0

abbrev wake_mask : ℕ → ℕ → ℕ → Event
wake_mask a v m = by_waker 10 a v 0 0 m

abbrev cmp_requeue : ℕ → ℕ → ℕ → ℕ → Event
cmp_requeue a v cap2 a2 = by_waker 4 a v cap2 a2 0

abbrev pub reasoned : List Reasoned
reasoned =
    excused (wake_at address big) (minus 22) 1
    ∷ excused (cmp_requeue address 1 big other) (minus 22) 2
    ∷ excused (wake_mask address 1 0) (minus 22) 3
    ∷ excused (call_by 0 9 address 0 0 0 0 0) (minus 22) 3
    ∷ excused (wait_for 0 9 0) (minus 22) 4
    ∷ excused (Store 0 9 1) (minus 22) 4
    ∷ excused (cmp_requeue address 1 1 13) (minus 22) 5
    ∷ excused (cmp_requeue address 1 1 address) (minus 22) 6
    ∷ excused (Clock 4) (minus 22) 7
    ∷ excused (SetPriority 0 0 32) (minus 22) 8
    -- 1 with 2, 3, 4, 5, 6; 2 with 4, 5, 6; 3 with 4; 4 with 5, 6
    ∷ excused (cmp_requeue address big big other) (minus 22) 1
    ∷ excused (wake_mask address big 0) (minus 22) 1
    ∷ excused (wake_at 9 big) (minus 22) 1
    ∷ excused (cmp_requeue address big 1 13) (minus 22) 1
    ∷ excused (cmp_requeue address big 1 address) (minus 22) 1
    ∷ excused (cmp_requeue 9 1 big other) (minus 22) 2
    ∷ excused (cmp_requeue address 1 big 13) (minus 22) 2
    ∷ excused (cmp_requeue address 1 big address) (minus 22) 2
    ∷ excused (wake_mask 9 1 0) (minus 22) 3
    ∷ excused (cmp_requeue 9 1 1 13) (minus 22) 4
    -- 5 and 6 apply at once only with 4
    ∷ excused (cmp_requeue 9 1 1 9) (minus 22) 4
    -- arguments that the command doesn't use, and other answers
    ∷ excused (call_by 0 0 address 0 0 big 13 0) asleep 0
    ∷ excused (wait_for 0 address big) (minus 11) 0
    ∷ excused (call_of 8 0 1 9 big 0 0 0 0) (minus 3) 0
    ∷ excused (call_by 0 2 9 big 0 0 0 0) (minus 38) 0
    ∷ excused (wake_at 4096 1) (minus 14) 0
    ∷ excused (wake_at 4097 1) (minus 22) 4
    ∷ excused (Store 8 9 1) (minus 3) 0
    ∷ excused (Clock 5) (number 0) 0
    ∷ excused (Interrupt 0 8) (minus 3) 0
    ∷ excused (Query 8) (three 0 0 8) 0
    ∷ excused (SetPriority 0 0 31) (number 0) 0
    ∷ excused (SetPriority 0 8 32) (minus 3) 0
    ∷ []

-- what the rules give

abbrev pub reasoned_as : Reasoned → Reasoned
reasoned_as r =
    let a = (step r.event (final (Clock 5 ∷ []) (start (replicate memory_words 0)))).answer in
    excused r.event (answer_numbers a) (reason_number (reason_of a))

abbrev pub told : List Event → World → List (List ℤ)
told h w = map answer_numbers (answers h w)

abbrev pub sleepers : State → List Sleeper
sleepers s = map (λ t. let r = thread_of s t in record { number = t; uaddr = r.uaddr; bitset = r.bitset; timed = r.timed; deadline = r.deadline }) (arrivals s)

-- the sleeps that have ended, of the threads from number n on
abbrev ended_as : LastAnswer → ℕ → List EndedSleep
ended_as NoneYet t = []
ended_as Woken t = ended_sleep t (last_number Woken) ∷ []
ended_as TimedOut t = ended_sleep t (last_number TimedOut) ∷ []
ended_as Interrupted t = ended_sleep t (last_number Interrupted) ∷ []

abbrev pub ended_from : ℕ → List Thread → List EndedSleep
ended_from n [] = []
ended_from n (r ∷ rs) = ended_as r.last n ++ ended_from (suc n) rs

abbrev pub given : Case → Case
given r =
    let w = start (replicate memory_words 0) in
    let v = final r.happens w in
    line r.happens (told r.happens w) (sleepers v.state) (ended_from 0 v.state.threads) (word_at v 0 address)

-- One history with events of processes 0, 1 and 9, of the clock, interrupts, panel queries and a priority.
abbrev sleep0 : Event
sleep0 = call_of 0 1 0 address 0 0 0 0 0

abbrev sleep1 : Event
sleep1 = call_of 1 1 0 address 0 1 5 0 0

abbrev wake1 : Event
wake1 = call_of 1 0 1 address 1 0 0 0 0

abbrev pub mixed : List Event
mixed = sleep0 ∷ sleep1 ∷ Store 9 address 1 ∷ Query 0 ∷ Clock 5 ∷ wake1 ∷ Interrupt 0 1 ∷ Query 9 ∷ Query 1 ∷ SetPriority 1 0 32 ∷ Clock 4 ∷ []

-- what of it is a process's: the events that are kept for it, and what its own were answered
pub record Share : Type 0 where
  pub process : ℕ
  pub kept : List Event
  pub answers : List (List ℤ)

abbrev share : ℕ → List Event → List (List ℤ) → Share
share p events numbers = record { process = p; kept = events; answers = numbers }

abbrev pub shares : List Share
shares =
    share 0 (sleep0 ∷ Query 0 ∷ Clock 5 ∷ Interrupt 0 1 ∷ Clock 4 ∷ []) (asleep ∷ three 2 1 1 ∷ number 1 ∷ [])
    ∷ share 1 (sleep1 ∷ Clock 5 ∷ wake1 ∷ Query 1 ∷ SetPriority 1 0 32 ∷ Clock 4 ∷ []) (asleep ∷ number 0 ∷ three 0 0 8 ∷ minus 22 ∷ [])
    ∷ share 2 (Clock 5 ∷ Clock 4 ∷ []) []
    ∷ share 9 (Store 9 address 1 ∷ Clock 5 ∷ Query 9 ∷ Clock 4 ∷ []) (minus 3 ∷ three 0 0 8 ∷ [])
    ∷ []

abbrev pub share_of : Share → Share
share_of s = share s.process (kept_for s.process mixed) (map answer_numbers (answers_to s.process mixed (start (replicate memory_words 0))))

-- Worlds in which no event but a panel query is let through: memory of a wrong length, tables that break a rule.
abbrev broken_count : State
broken_count = record { clock = 0; threads = replicate threads fresh_thread; list = replicate threads no_entry; count = 1 }

-- "priority at most 31"
abbrev high_priority : State
high_priority =
    record { clock = 0; threads = replicate (threads - 1) fresh_thread ++ (with_priority 32 fresh_thread ∷ []); list = replicate threads no_entry; count = 0 }

abbrev pub each : List Event
each = wait_for 0 address 0 ∷ Store 0 address 1 ∷ Clock 1 ∷ Interrupt 0 0 ∷ Query 0 ∷ SetPriority 0 0 1 ∷ []

pub record Unsound : Type 0 where
  pub world : World
  pub answers : List (List ℤ)

abbrev unsound : World → List (List ℤ) → Unsound
unsound w numbers = record { world = w; answers = numbers }

abbrev pub unsounds : List Unsound
unsounds =
    unsound (start (0 ∷ [])) (minus 6 ∷ minus 6 ∷ minus 6 ∷ minus 6 ∷ three 0 0 8 ∷ minus 6 ∷ [])
    ∷ unsound (world broken_count (replicate memory_words 0)) (minus 9 ∷ minus 9 ∷ minus 9 ∷ minus 9 ∷ three 0 0 8 ∷ minus 9 ∷ [])
    ∷ unsound (world high_priority (replicate memory_words 0)) (minus 9 ∷ minus 9 ∷ minus 9 ∷ minus 9 ∷ three 0 0 8 ∷ minus 9 ∷ [])
    -- both: "the first that applies answers"
    ∷ unsound (world broken_count []) (minus 6 ∷ minus 6 ∷ minus 6 ∷ minus 6 ∷ three 0 0 8 ∷ minus 6 ∷ [])
    ∷ []

abbrev pub unsound_given : Unsound → Unsound
unsound_given u = unsound u.world (told each u.world)
