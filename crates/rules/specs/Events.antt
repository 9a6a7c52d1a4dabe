-- "Other events", and what any event is answered and leaves.
use Rattle.std.specs.Prelude.{Bool, true, false, not, cond, ◌||◌, List, [], ◌∷◌, ◌++◌, ℕ, suc, zero, ◌+◌, ◌*◌, ◌^◌, length, ltb}
use Rattle.std.specs.Int.Count.{ones, count_trailing_zeros}
use Rattle.lists.specs.Lists.{bit}
use Rattle.tables.specs.declared.State.{State}
use Rattle.tables.specs.declared.LastAnswer.TheVariants.{TimedOut, Interrupted}
use Rattle.rules.specs.declared.event.Call.{Call}
use Rattle.rules.specs.declared.event.Event.{Event}
use Rattle.rules.specs.declared.event.Event.TheVariants.{Call as CallEvent, Store, Clock, Interrupt, Query, SetPriority}
use Rattle.rules.specs.declared.answer.Errno.TheVariants.{ESRCH, EINVAL, EFAULT}
use Rattle.rules.specs.declared.answer.Reason.TheVariants.{UaddrUnaligned, ClockBack, PriorityHigh}
use Rattle.rules.specs.declared.answer.Panel.{Panel}
use Rattle.rules.specs.declared.answer.Answer.TheVariants.{Count, Waiting}
use Rattle.tables.specs.Editions.{Edition, present}
use Rattle.tables.specs.Sizes.{max_priority}
use Rattle.tables.specs.Tables.{outside, WorldIn, expired_sleepers, thread_number_in, thread_of, word_at, aligned, tables_in, end_in, set_priority, write_word, with_clock, with_state}
use Rattle.rules.specs.Answers.{Row, ◌because◌, ◌given◌, ◌when◌, first, OutcomeIn, outcome, judged}
use Rattle.rules.specs.Commands.{command_of}
use Rattle.rules.specs.Calls.{first_rows, no_process, no_thread_in, caller_in, rows_in, call_effect}

-- of a priority that is to be set: "Answers in order: -6, -9, -3, -22 if above 31 (reason 8), else 0."
abbrev pub priority_rows_in : Edition → ℕ → ℕ → ℕ → List Row
priority_rows_in ed p i n = ESRCH when no_thread_in ed p i ∷ EINVAL because PriorityHigh given ltb max_priority n ∷ []

abbrev pub priority_rows : ℕ → ℕ → ℕ → List Row
priority_rows p i n = priority_rows_in present p i n

-- "-6, -9, -3, -22 (not aligned), -14"; "4 uaddr not aligned (also a store's address)"
abbrev pub store_rows : ℕ → ℕ → List Row
store_rows p a = ESRCH when no_process p ∷ EINVAL because UaddrUnaligned given not (aligned a) ∷ EFAULT when outside a ∷ []

-- The rows behind the first two, in the order of each event.
abbrev pub own_rows : {ed : Edition} → Event → WorldIn ed → List Row
own_rows {ed} (CallEvent c) w =
    rows_in ed c (thread_of w.state (caller_in ed c)).waiting w.state.clock (word_at w c.process c.uaddr)
own_rows (Store p a v) w = store_rows p a
-- "-6, -9, -22 if earlier than the clock"; "7 clock went back"
own_rows (Clock now) w = EINVAL because ClockBack given ltb now w.state.clock ∷ []
-- "-6, -9, -3"
own_rows {ed} (Interrupt p i) w = ESRCH when no_thread_in ed p i ∷ []
own_rows (Query p) w = []
own_rows {ed} (SetPriority p i n) w = priority_rows_in ed p i n

-- a panel query, which is always answered
abbrev pub is_query : Event → Bool
is_query (CallEvent c) = false
is_query (Store p a v) = false
is_query (Clock now) = false
is_query (Interrupt p i) = false
is_query (Query p) = true
is_query (SetPriority p i n) = false

-- what is asked of a call alone, and what is said of every other event
abbrev pub of_call {ℓ} : {A : Type ℓ} → (Call → A) → A → Event → A
of_call f other (CallEvent c) = f c
of_call f other (Store p a v) = other
of_call f other (Clock now) = other
of_call f other (Interrupt p i) = other
of_call f other (Query p) = other
of_call f other (SetPriority p i n) = other

-- What each event may be refused with, in order.
unfoldable pub refusals : {ed : Edition} → Event → WorldIn ed → List Row
refusals e w = cond (is_query e) [] (first_rows w ++ own_rows e w)

-- "the clock is set, every sleeper .. ends with -110, and the answer is how many"
unfoldable pub clock_effect : {ed : Edition} → ℕ → WorldIn ed → OutcomeIn ed
clock_effect {ed} now w =
    outcome (Count (length (expired_sleepers now w.state)))
    (with_state (end_in ed TimedOut (expired_sleepers now w.state) (with_clock now w.state)) w)

-- "1 and a sleeper ends with -4, or 0 if it was running"
unfoldable pub interrupt_effect : {ed : Edition} → ℕ → WorldIn ed → OutcomeIn ed
interrupt_effect {ed} t w =
    cond (thread_of w.state t).waiting
    (outcome (Count 1) (with_state (end_in ed Interrupted (t ∷ []) w.state) w))
    (outcome (Count 0) w)

-- the number whose bit i is set where f i holds, for each i below n
unfoldable pub bits_below : ℕ → (ℕ → Bool) → ℕ
bits_below zero f = 0
bits_below (suc n) f = bits_below n f + bit (f n) * 2 ^ n

-- "one byte in which bit i is set for each waiting thread i"
unfoldable pub waiting_in : Edition → ℕ → State → ℕ
waiting_in ed p s = bits_below ed.per_process (λ i. (thread_of s (thread_number_in ed p i)).waiting)

abbrev pub waiting_set : ℕ → State → ℕ
waiting_set p s = waiting_in present p s

-- "the number of set bits, and the lowest set bit, or 8 if none"
abbrev pub panel_of_in : Edition → ℕ → Panel
panel_of_in ed b = record { waiting = b; count = ones b; lowest = count_trailing_zeros ed.per_process b }

abbrev pub panel_of : ℕ → Panel
panel_of b = panel_of_in present b

-- "A process above 7 gives 0, 0, 8; so do tables that break a rule."
unfoldable pub panel_in : Edition → ℕ → State → Panel
panel_in ed p s = panel_of_in ed (cond (no_process p || not (tables_in ed s)) 0 (waiting_in ed p s))

abbrev pub panel : ℕ → State → Panel
panel p s = panel_in present p s

-- what an event does where nothing refuses it
unfoldable pub effect : {ed : Edition} → Event → WorldIn ed → OutcomeIn ed
effect (CallEvent c) w = call_effect (command_of c.op) c w
-- "0 and that word changed. It wakes nobody."
effect (Store p a v) w = outcome (Count 0) (write_word p a v w)
effect (Clock now) w = clock_effect now w
effect {ed} (Interrupt p i) w = interrupt_effect (thread_number_in ed p i) w
effect {ed} (Query p) w = outcome (Waiting (panel_in ed p w.state)) w
-- "Log kind 5 sets it .. It is allowed for a sleeper"
effect {ed} (SetPriority p i n) w = outcome (Count 0) (with_state (set_priority n (thread_number_in ed p i) w.state) w)

-- The kernel: what an event is answered, and the tables and words that it leaves.
unfoldable pub step : {ed : Edition} → Event → WorldIn ed → OutcomeIn ed
step e w = judged (first (refusals e w)) (effect e w) w
