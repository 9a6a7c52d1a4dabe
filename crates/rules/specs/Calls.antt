-- The table of answers, row by row, and what each command does where no row applies.
use Rattle.std.specs.Prelude.{Bool, not, cond, ◌&&◌, ◌||◌, List, [], ◌∷◌, ◌++◌, ℕ, ◌+◌, ◌-◌, ◌%◌, min, length, take, drop, eqb, leb, ltb}
use Rattle.lists.specs.Lists.{filter, without, from_highest}
use Rattle.tables.specs.declared.State.{State}
use Rattle.tables.specs.declared.Thread.{Thread}
use Rattle.tables.specs.declared.LastAnswer.TheVariants.{Woken}
use Rattle.rules.specs.declared.event.Command.{Command}
use Rattle.rules.specs.declared.event.Command.TheVariants.{Wait, Wake, Requeue, CmpRequeue, WakeOp, WaitBitset, WakeBitset, Unknown}
use Rattle.rules.specs.declared.event.Call.{Call}
use Rattle.rules.specs.declared.answer.Errno.TheVariants.{ENXIO, EBADF, ESRCH, EBUSY, ENOSYS, EINVAL, EFAULT, EAGAIN, ETIMEDOUT}
use Rattle.rules.specs.declared.answer.Reason.TheVariants.{FirstCap, SecondCap, MaskZero, UaddrUnaligned, Uaddr2Unaligned, SameAddress}
use Rattle.rules.specs.declared.answer.Answer.TheVariants.{Asleep, Count, Refused}
use Rattle.tables.specs.Editions.{Order, by_arrival, by_priority, Edition, present}
use Rattle.tables.specs.Sizes.{processes, memory_words, word_limit, time_limit, match_any, max_cap, max_priority}
use Rattle.tables.specs.Tables.{WorldIn, shares_bit, thread_number_in, thread_of, word_at, queue_in, aligned, outside, tables_in, end_in, move_in, sleep_in, asleep_at, write_word, with_state}
use Rattle.rules.specs.Answers.{Row, ◌because◌, plain, ◌given◌, ◌when◌, OutcomeIn, outcome}
use Rattle.rules.specs.Commands.{command_of, not_implemented, uses}
use Rattle.rules.specs.WakeOp.{undefined_op, new_word, compares}

-- "the lent memory is not 8,192 words long"
abbrev pub wrong_memory : {ed : Edition} → WorldIn ed → Bool
wrong_memory w = not (eqb (length w.words) memory_words)

-- "the tables break a table rule"
abbrev pub broken_tables : {ed : Edition} → WorldIn ed → Bool
broken_tables {ed} w = not (tables_in ed w.state)

-- the first two rows of the table of answers, which are tested of every event but the panel query
abbrev pub first_rows : {ed : Edition} → WorldIn ed → List Row
first_rows w = ENXIO when wrong_memory w ∷ EBADF when broken_tables w ∷ []

-- "the process or index is above 7"
abbrev pub no_process : ℕ → Bool
no_process p = leb processes p

abbrev pub no_thread_in : Edition → ℕ → ℕ → Bool
no_thread_in ed p i = no_process p || leb ed.per_process i

abbrev pub no_thread : ℕ → ℕ → Bool
no_thread p i = no_thread_in present p i

abbrev pub caller_in : Edition → Call → ℕ
caller_in ed c = thread_number_in ed c.process c.index

abbrev pub caller : Call → ℕ
caller c = caller_in present c

-- "The second cap is the timeout modulo 2^32; the flag is ignored."
abbrev pub second_cap : Call → ℕ
second_cap c = c.timeout % word_limit

-- "a wake cap or second cap in use is above 2147483647; the mask of a BITSET command is 0; an address in use is not a
-- multiple of 4; REQUEUE or CMP_REQUEUE names the same address twice."
unfoldable pub bad_argument : Command → Call → Bool
bad_argument k c =
    (uses k).cap && ltb max_cap c.val
    || (uses k).second && ltb max_cap (second_cap c)
    || (uses k).mask && eqb c.val3 0
    || not (aligned c.uaddr)
    || (uses k).second && not (aligned c.uaddr2)
    || (uses k).moves && eqb c.uaddr c.uaddr2

-- The same, argument by argument, each with its reason: "1 first cap, 2 second cap, 3 mask zero, 4 uaddr not aligned .., 5 uaddr2 not aligned,
-- 6 same address twice". "Where several apply, the lowest is given."
unfoldable pub argument_rows : Command → Call → List Row
argument_rows k c =
    EINVAL because FirstCap given ((uses k).cap && ltb max_cap c.val)
    ∷ EINVAL because SecondCap given ((uses k).second && ltb max_cap (second_cap c))
    ∷ EINVAL because MaskZero given ((uses k).mask && eqb c.val3 0)
    ∷ EINVAL because UaddrUnaligned given not (aligned c.uaddr)
    ∷ EINVAL because Uaddr2Unaligned given ((uses k).second && not (aligned c.uaddr2))
    ∷ EINVAL because SameAddress given ((uses k).moves && eqb c.uaddr c.uaddr2)
    ∷ []

-- "an address in use is 4096 or more"
unfoldable pub bad_address : Command → Call → Bool
bad_address k c = outside c.uaddr || (uses k).second && outside c.uaddr2

-- the one command that uses uaddr2 and moves nobody
abbrev pub is_wake_op : Command → Bool
is_wake_op k = (uses k).second && not (uses k).moves

-- "Word at uaddr must equal val", of a CMP_REQUEUE "must equal val3"
abbrev pub expected : Command → Call → ℕ
expected k c = cond (uses k).deadline c.val c.val3

-- "a compared word differs"
abbrev pub differs : Command → Call → ℕ → Bool
differs k c word = (uses k).compare && not (eqb word (expected k c))

-- "Outside the log a flag above 1 counts as 1."
abbrev pub timeout_given : Call → Bool
timeout_given c = not (eqb c.flag 0)

-- WAIT: "A timeout is relative: the deadline is clock + timeout, at most 2^64 - 1." WAIT_BITSET: "an absolute timeout".
abbrev pub deadline_of : Command → Call → ℕ → ℕ
deadline_of k c now = cond (uses k).mask c.timeout (min (now + c.timeout) (time_limit - 1))

-- "a wait's deadline is at or before the clock"
abbrev pub late : Command → Call → ℕ → Bool
late k c now = (uses k).deadline && timeout_given c && leb (deadline_of k c now) now

-- The rows behind those for -22, by the clock and the word at uaddr.
abbrev pub behind_rows : Command → Call → ℕ → ℕ → List Row
behind_rows k c now word =
    EFAULT when bad_address k c
    -- "WAKE_OP with an undefined operation or comparison"
    ∷ ENOSYS when (is_wake_op k && undefined_op c.val3)
    ∷ EAGAIN when differs k c word
    ∷ ETIMEDOUT when late k c now
    ∷ []

-- The table of answers from its third row on, with its rows for -22, by what a call reads of the tables and words: whether the caller
-- waits, the clock and the word at uaddr.
abbrev pub table_with : Edition → List Row → Call → Bool → ℕ → ℕ → List Row
table_with ed arguments c waits now word =
    ESRCH when no_thread_in ed c.process c.index
    ∷ EBUSY when waits
    ∷ ENOSYS when not_implemented c.op
    ∷ (arguments ++ behind_rows (command_of c.op) c now word)

unfoldable pub rows_in : Edition → Call → Bool → ℕ → ℕ → List Row
rows_in ed c waits now word = table_with ed (argument_rows (command_of c.op) c) c waits now word

abbrev pub call_rows : Call → Bool → ℕ → ℕ → List Row
call_rows c waits now word = rows_in present c waits now word

-- "Mask is all ones", of a WAIT_BITSET "mask val3"
abbrev pub mask_of : Command → Call → ℕ
mask_of k c = cond (uses k).mask c.val3 match_any

-- whom a wake may take: "for 10 only those whose mask shares a bit with val3, the others are passed over"
abbrev pub matches : Command → Call → Thread → Bool
matches k c r = not (uses k).mask || shares_bit c.val3 r

-- Threads that stand in list order, in the order in which a wake or requeue takes them: "From now on wake and requeue take matching sleepers by
-- higher base priority, and by arrival among equals."
abbrev pub ordered : Order → State → List ℕ → List ℕ
ordered by_arrival s l = l
ordered by_priority s l = from_highest (λ t. (thread_of s t).priority) max_priority l

-- The sleepers of a word that a wake or requeue may take, in that order. No other definition chooses.
unfoldable pub candidates_in : Edition → (Thread → Bool) → ℕ → ℕ → State → List ℕ
candidates_in ed q p a s = ordered ed.order s (filter (λ t. q (thread_of s t)) (queue_in ed p a s))

abbrev pub candidates : (Thread → Bool) → ℕ → ℕ → State → List ℕ
candidates q p a s = candidates_in present q p a s

-- "Releases the first val sleepers at uaddr"
unfoldable pub released_in : Edition → Command → Call → State → List ℕ
released_in ed k c s = take c.val (candidates_in ed (matches k c) c.process c.uaddr s)

abbrev pub released : Command → Call → State → List ℕ
released k c s = released_in present k c s

-- "then the next sleepers, up to the second cap", in the order in which they are taken, in which they join the list's end
unfoldable pub moved_in : Edition → Command → Call → State → List ℕ
moved_in ed k c s = take (second_cap c) (drop c.val (candidates_in ed (matches k c) c.process c.uaddr s))

abbrev pub moved : Command → Call → State → List ℕ
moved k c s = moved_in present k c s

-- "The old word at uaddr2"
abbrev pub old_word : {ed : Edition} → Call → WorldIn ed → ℕ
old_word c w = word_at w c.process c.uaddr2

-- "then, if old compares true with cmparg, the first of those still asleep at uaddr2, up to the second cap", by what val3 and old are compared by
abbrev pub second_by : {ed : Edition} → (ℕ → ℕ → Bool) → Command → Call → WorldIn ed → List ℕ
second_by {ed} holds k c w =
    cond (holds c.val3 (old_word c w))
    (take (second_cap c) (without (released_in ed k c w.state) (candidates_in ed (matches k c) c.process c.uaddr2 w.state)))
    []

unfoldable pub released_second : {ed : Edition} → Command → Call → WorldIn ed → List ℕ
released_second k c w = second_by compares k c w

-- WAIT 0, WAIT_BITSET 9
unfoldable pub wait : {ed : Edition} → Command → Call → WorldIn ed → OutcomeIn ed
wait {ed} k c w =
    outcome Asleep
    (with_state
    (sleep_in ed
    (asleep_at c.uaddr (mask_of k c) (timeout_given c) (deadline_of k c w.state.clock))
    (caller_in ed c)
    w.state)
    w)

-- WAKE 1, WAKE_BITSET 10. "Answer: how many."
unfoldable pub wake : {ed : Edition} → Command → Call → WorldIn ed → OutcomeIn ed
wake {ed} k c w =
    outcome (Count (length (released_in ed k c w.state))) (with_state (end_in ed Woken (released_in ed k c w.state) w.state) w)

-- CMP_REQUEUE 4: "Answer: released plus moved." REQUEUE 3: "answer: released only"
unfoldable pub requeue : {ed : Edition} → Command → Call → WorldIn ed → OutcomeIn ed
requeue {ed} k c w =
    outcome
    (Count (length (released_in ed k c w.state) + cond (uses k).compare (length (moved_in ed k c w.state)) 0))
    (with_state (move_in ed c.uaddr2 (moved_in ed k c w.state) (end_in ed Woken (released_in ed k c w.state) w.state)) w)

-- WAKE_OP 5: "The old word at uaddr2 is kept aside, the new word stored, the first val released at uaddr, then .." "Answer: the sum.", by the
-- new word and those whom it releases at uaddr2
abbrev pub wake_op_by : {ed : Edition} → ℕ → List ℕ → Command → Call → WorldIn ed → OutcomeIn ed
wake_op_by {ed} new second k c w =
    outcome
    (Count (length (released_in ed k c w.state) + length second))
    (write_word c.process c.uaddr2 new
    (with_state (end_in ed Woken (released_in ed k c w.state ++ second) w.state) w))

unfoldable pub wake_op : {ed : Edition} → Command → Call → WorldIn ed → OutcomeIn ed
wake_op k c w = wake_op_by (new_word c.val3 (old_word c w)) (released_second k c w) k c w

-- What a call does where no row applies; that an unknown command is refused was tested before.
unfoldable pub call_effect : {ed : Edition} → Command → Call → WorldIn ed → OutcomeIn ed
call_effect Wait c w = wait Wait c w
call_effect WaitBitset c w = wait WaitBitset c w
call_effect Wake c w = wake Wake c w
call_effect WakeBitset c w = wake WakeBitset c w
call_effect Requeue c w = requeue Requeue c w
call_effect CmpRequeue c w = requeue CmpRequeue c w
call_effect WakeOp c w = wake_op WakeOp c w
call_effect Unknown c w = outcome (Refused (plain ENOSYS)) w
