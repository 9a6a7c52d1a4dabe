-- What is proved of the rules, demand by demand. Each theorem is stated here whole and cites its proof; specs/Claims.antt has the
-- words that the statements use, specs/Cases.antt the cases; Pinned.antt has the laws that fix these words.
use mathlib.Core.Path.{◌≡◌, refl, sym, ap, ◌∙◌}
use mathlib.Core.Bool.{true, false, cond, ◌&&◌}
use mathlib.Core.List.{List, [], ◌∷◌, ◌++◌, map}
use mathlib.Core.Logic.{◌⊎◌, inl, inr, ◌↔◌}
use Prim.Native.Nat.{ℕ, ◌+◌, ◌-◌, ◌^◌, ◌≤◌, ◌<◌, min}
use native.Mathlib.Omega.{arith}
use lib.IntN.{ℤ, pos, neg_ℤ, ◌+ℤ◌}
use lib.Signed.{lt_z}
use lib.ListN.{length, take, drop}
use lib.Dec.{eqb}
use Rattle.lists.specs.Lists.{filter, elem, without, count_below, falling}
use Rattle.lists.proofs.Tests.{by_cases, clash}
use Rattle.std.specs.Prelude.{Some, None}
use Rattle.tables.specs.declared.State.{State}
use Rattle.tables.specs.declared.LastAnswer.TheVariants.{Woken, TimedOut, Interrupted}
use Rattle.rules.specs.declared.event.Command.{Command}
use Rattle.rules.specs.declared.event.Command.TheVariants.{Wake}
use Rattle.rules.specs.declared.event.Call.{Call}
use Rattle.rules.specs.declared.event.Event.{Event}
use Rattle.rules.specs.declared.event.Event.TheVariants.{Call as CallEvent, Clock, Interrupt, SetPriority}
use Rattle.rules.specs.declared.answer.Reason.{Reason}
use Rattle.rules.specs.declared.answer.Refusal.{Refusal}
use Rattle.rules.specs.declared.answer.Answer.TheVariants.{Asleep, Count, Refused}
use Rattle.tables.specs.Sizes.{processes, threads_per_process, threads, bytes_per_process, memory_words, max_priority, word_bits, word_limit}
use Rattle.tables.specs.Editions.{by_priority}
use Rattle.tables.specs.Tables.{World, thread_number, process_of, word_at, ended, thread_of, sleeps_at, queue, expired, expired_sleepers, tables_ok, with_state, fall_asleep, set_priority}
use Rattle.rules.specs.Answers.{asleep_number, reason_number, answer_numbers, reason_of, outcome}
use Rattle.rules.specs.Commands.{command_of}
use Rattle.rules.specs.Signed.{signed, Within, modulo, eq_z}
use Rattle.rules.specs.WakeOp.{code_bits, arg_bits, op_field, cmp_field, op_arg_field, cmp_arg_field, op_arg, cmp_arg, shift_bit, operand, new_word, compare_by, compares, val3_of}
use Rattle.rules.specs.Calls.{caller, second_cap, ordered, matches, candidates_in, released_in, released, moved_in, moved, released_second}
use Rattle.rules.specs.Events.{refusals, effect, step}
use Rattle.rules.specs.Numbers.{numbers_of}
use Rattle.rules.specs.Before.{step_without_reasons, without_reason, step_unsigned, none_negative, numbers_with12, as_with12, step_with12, step_by_arrival, Level}
use Rattle.rules.specs.History.{start, final, answers, kept_for, answers_to}
use Rattle.rules.specs.Claims.{FirstOf, Clear, Fault, Sleeps, sleeps_by, GoesBefore, Took, Takes, woken_count, shifted_count, counts_moves, NamedAlike, before, after, PrioritySet, Fate, priority_after, asleep_there, slept_through, Since, Alike}
use Rattle.rules.proofs.Rows.{first_of, of_first, verdicts, step_refused, step_clear}
use Rattle.rules.specs.Cases.{twelve, further, given, reasoned, reasoned_as, shares, share_of, unsounds, unsound_given}
use Rattle.rules.specs.WakeOpCases.{comparisons, compared_as, operations, stored_as, calls, called_as}
use Rattle.rules.specs.PriorityCases.{prioritised, prioritised_as, choices, chosen_as}
use Rattle.rules.proofs.Cases as Cases
use Rattle.tables.proofs.Sound.{tables_sound, sound_tables, room, none_overdue}
use Rattle.rules.proofs.Refused.{refused_row}
use Rattle.rules.proofs.Numbers.{by_number}
use Rattle.rules.proofs.Preserved.{step_valid, final_valid, start_valid}
use Rattle.rules.proofs.Signed as Signed'
use Rattle.rules.proofs.WakeOp as WakeOp'
use Rattle.rules.proofs.Before as Before
use Rattle.rules.proofs.Reasons as Reasons
use Rattle.rules.proofs.Sleeps as Sleeps'
use Rattle.rules.proofs.Taken as Taken
use Rattle.rules.proofs.Order as Order
use Rattle.rules.proofs.Level as Level'
use Rattle.rules.proofs.Counts as Counts
use Rattle.rules.proofs.Local as Local
use Rattle.rules.proofs.Fate as Fate'
use Rattle.rules.proofs.LostWake as LostWake
use Rattle.rules.proofs.Priorities as Priorities
use Rattle.rules.proofs.Isolation.{answers_view, final_view, start_alike, alike}

-- Demand 1, for every event, any tables and words of any length.

-- "Every call, store, clock event, interrupt, query .. is answered": it is refused by the first row that applies and changes nothing,
-- or no row applies and it does what its rule says.
pub refused_or_done : (e : Event) (w : World)
    → ((x : Refusal) × FirstOf x (refusals e w) × (step e w ≡ outcome (Refused x) w)) ⊎ (Clear (refusals e w) × (step e w ≡ effect e w))
refused_or_done e w = verdicts e w
    (λ x h. inl (x, first_of x (refusals e w) h, step_refused e w x h))
    (λ h. inr (h, step_clear e w h))

-- "A refusal gives the one answer that document 01 fixes": that of the first row that applies, exactly when there is one.
pub refused_exactly : (e : Event) (w : World) (x : Refusal) → ((step e w).answer ≡ Refused x) ↔ FirstOf x (refusals e w)
refused_exactly e w x = (
  (λ h. first_of x (refusals e w) (refused_row e w x h)),
  (λ f. ap (λ o. o.answer) (step_refused e w x (of_first x (refusals e w) f))),
)

-- "and the words, the thread records, the arrival list and the clock stay as they were"
pub refusal_leaves_all : (e : Event) (w : World) (x : Refusal) → (step e w).answer ≡ Refused x → (step e w).world ≡ w
refusal_leaves_all e w x h = ap (λ o. o.world) (step_refused e w x (refused_row e w x h))

-- What every event is answered, by the paper's own numbers: its tables row by row, and else "asleep", a count, or the panel's three.
pub answers_by_number : (e : Event) (w : World) → answer_numbers (step e w).answer ≡ numbers_of e w
answers_by_number = by_number

-- Request (i), reasons.

-- "Beside the number, give a reason: 1 first cap, 2 second cap, 3 mask zero, 4 uaddr not aligned (also a store's address), 5 uaddr2 not aligned,
-- 6 same address twice, 7 clock went back": each comes exactly when the answer is -22, the fault is there, and no lower one; "Where several
-- apply, the lowest is given."
pub reason_exactly : (e : Event) (w : World) (r : Reason)
    → (reason_of (step e w).answer ≡ Some r)
    ↔ ((answer_numbers (step e w).answer ≡ neg_ℤ (pos 22) ∷ []) × Fault w r e × ((q : Reason) → reason_number (Some q) < reason_number (Some r) → Fault w q e → ⊥))
reason_exactly = Reasons.reason_exactly

-- "0 with every other answer"
pub reason_none : (e : Event) (w : World) → (reason_of (step e w).answer ≡ None) ↔ (answer_numbers (step e w).answer ≡ neg_ℤ (pos 22) ∷ [] → ⊥)
reason_none = Reasons.reason_none

-- "The number, its place in the order and what it leaves stay as they are": reasons taken away, an event is answered and leaves what the rules
-- give with document 01's one row for -22, for every event, any tables and words.
pub as_before_reasons : (e : Event) (w : World) → outcome (without_reason (step e w).answer) (step e w).world ≡ step_without_reasons e w
as_before_reasons = Before.as_before_reasons

-- Request (ii), WAKE_OP's signed numbers.

-- "the 12-bit oparg and cmparg run from -2048 to 2047, a field of 2048 or more standing for itself less 4096": a field of so many bits stands for
-- the one number of its range that is the field modulo 2^bits.
pub signed_exactly : (bits x : ℕ) (z : ℤ) → 0 < bits → x < 2 ^ bits → (signed bits x ≡ z) ↔ (Within bits z × (modulo (2 ^ bits) z ≡ x))
signed_exactly bits x z some low = Signed'.signed_exactly bits some x z low

-- What a val3 stands for that FUTEX_OP of linux/futex.h, or VRADOMIL_WAKE_OP_VAL3, made of four parts: those.
pub val3_parts : (op cmp : ℕ) (oparg cmparg : ℤ) → op < 2 ^ code_bits → cmp < 2 ^ code_bits → Within arg_bits oparg → Within arg_bits cmparg
    → let v = val3_of op oparg cmp cmparg in (op_field v ≡ op) × (cmp_field v ≡ cmp) × (op_arg v ≡ oparg) × (cmp_arg v ≡ cmparg)
val3_parts = WakeOp'.val3_parts

-- Every val3 is so made, of parts in their ranges.
pub val3_whole : (v : ℕ)
    → (op_field v < 2 ^ code_bits)
    × (cmp_field v < 2 ^ code_bits)
    × Within arg_bits (op_arg v)
    × Within arg_bits (cmp_arg v)
    × (v < word_limit → val3_of (op_field v) (op_arg v) (cmp_field v) (cmp_arg v) ≡ v)
val3_whole = WakeOp'.val3_whole

-- "the old word is compared as a signed 32-bit number": a word that holds the number z is compared with cmparg as z.
pub compares_signed : (v : ℕ) (z : ℤ) → Within word_bits z → compares v (modulo word_limit z) ≡ compare_by eq_z lt_z (cmp_field v) z (cmp_arg v)
compares_signed = WakeOp'.compares_signed

-- "A negative operand is taken modulo 2^32 for every operation. The power-of-two operand is still 2 to the power (oparg mod 32)."
pub operand_signed : (v : ℕ) → op_field v < shift_bit → operand v ≡ modulo word_limit (op_arg v)
operand_signed = WakeOp'.operand_signed

pub operand_power : (v : ℕ) → shift_bit ≤ op_field v → operand v ≡ 2 ^ modulo word_bits (op_arg v)
operand_power = WakeOp'.operand_power

-- "a counter that goes below zero": a word that holds z and is added to holds the sum, modulo 2^32.
pub add_signed : (v : ℕ) (z : ℤ) → op_field v ≡ 1 → new_word v (modulo word_limit z) ≡ modulo word_limit (z +ℤ op_arg v)
add_signed = WakeOp'.add_signed

-- What did not change: every event is answered and leaves what the rules before gave, but for a WAKE_OP one of whose numbers is negative now
-- (oparg, unless it is an exponent, cmparg or the old word).
pub as_before_signs : (e : Event) (w : World) → none_negative e w ≡ true → step e w ≡ step_unsigned e w
as_before_signs = Before.as_before_signs

-- So it is with a WAKE_OP whose oparg and cmparg are below 2048, where the old word is below 2^31.
pub as_before_below : (c : Call) (w : World) → op_arg_field c.val3 < 2048 → cmp_arg_field c.val3 < 2048 → word_at w c.process c.uaddr2 < 2147483648
    → step (CallEvent c) w ≡ step_unsigned (CallEvent c) w
as_before_below = Before.as_before_below

-- Request (iii), the refusal nobody can provoke.

-- "a caller that passes -16 is running, so with sound tables at most 63 threads are on the list": one fewer than there are threads.
pub caller_leaves_room : (p i : ℕ) (s : State) → tables_ok s ≡ true → p < processes → i < threads_per_process → (thread_of s (thread_number p i)).waiting ≡ false
    → s.count < threads
caller_leaves_room p i s sound low index runs = room s (tables_sound s sound) (thread_number p i) (omega arith) runs

-- "Show that it never comes": by the rules with document 01's row for -12, no event is answered -12, whatever the tables and words.
pub never_12 : (e : Event) (w : World) → numbers_with12 (step_with12 e w).answer ≡ neg_ℤ (pos 12) ∷ [] → ⊥
never_12 = Before.never_12

-- "No other answer may change for any input, and the auditor wants that said as a comparison with the rules before": every event is answered and
-- leaves what those rules gave, for any tables and words, sound or not.
pub as_before_12 : (e : Event) (w : World) → as_with12 (step e w) ≡ step_with12 e w
as_before_12 = Before.as_before_12

-- Demand 2, waits.

-- "A wait sleeps exactly when no check refuses it, the word equals the expected number and its deadline, if any, is still ahead."
pub asleep_exactly : (c : Call) (w : World) → ((step (CallEvent c) w).answer ≡ Asleep) ↔ Sleeps c w
asleep_exactly c w = (Sleeps'.asleep_sleeps c w, Sleeps'.sleeps_asleep c w)

-- "Can a wait ever trust a stale word?" A wait that sleeps saw, in the memory that it was lent, the number that it expects.
pub sleeper_saw : (c : Call) (w : World) → (step (CallEvent c) w).answer ≡ Asleep → word_at w c.process c.uaddr ≡ c.val
sleeper_saw c w h = ((asleep_exactly c w).0 h).equal

-- It leaves the caller, with its record, at the end of the arrival list, and nothing else changed.
pub asleep_leaves : (c : Call) (w : World) → (step (CallEvent c) w).answer ≡ Asleep
    → (step (CallEvent c) w).world ≡ with_state (fall_asleep (sleeps_by c w) (caller c) w.state) w
asleep_leaves = Sleeps'.asleep_leaves

-- Demand 2, wakes and requeues.

-- Definitions read out: whom a call releases, moves, and releases at WAKE_OP's second word, which `takes_first` below speaks of. "A wake or
-- requeue takes the matching sleepers .. up to its caps, neither more nor fewer": since request (vii) not in arrival order, but by priority.
pub released_first : (k : Command) (c : Call) (s : State)
    → released k c s ≡ take c.val (ordered by_priority s (filter (λ t. matches k c (thread_of s t)) (queue c.process c.uaddr s)))
unfolding released_in candidates_in
released_first k c s = refl

pub moved_next : (k : Command) (c : Call) (s : State)
    → moved k c s ≡ take (second_cap c) (drop c.val (ordered by_priority s (filter (λ t. matches k c (thread_of s t)) (queue c.process c.uaddr s))))
unfolding moved_in candidates_in
moved_next k c s = refl

-- WAKE_OP's second word: "if old compares true with cmparg, the first of those still asleep at uaddr2, up to the second cap"
pub released_second_lem : (k : Command) (c : Call) (w : World)
    → released_second k c w
    ≡ cond (compares c.val3 (word_at w c.process c.uaddr2))
    (take (second_cap c) (without (released k c w.state) (ordered by_priority w.state (filter (λ t. matches k c (thread_of w.state t)) (queue c.process c.uaddr2 w.state)))))
    []
unfolding released_second candidates_in
released_second_lem k c w = refl

-- Request (vii), the order: "by higher base priority, and by arrival among equals". Of threads in list order it makes the one list in which none
-- stands behind one of a lower priority and those of each priority stand as they stood.
pub by_priority_lem : (s : State) → tables_ok s ≡ true → (l m : List ℕ)
    → (m ≡ ordered by_priority s l)
    ↔ ((falling (λ t. (thread_of s t).priority) m ≡ true)
    × ((n : ℕ) → filter (λ t. eqb (thread_of s t).priority n) m ≡ filter (λ t. eqb (thread_of s t).priority n) l))
by_priority_lem s h = Order.by_priority_lem s (tables_sound s h)

-- Nobody is overtaken: where a sleeper that the call matches is not released, each that is released goes before it, by a higher priority or, if
-- they are equal, by its place in the list;
pub none_overtaken : (k : Command) (c : Call) (s : State) → tables_ok s ≡ true → (t : ℕ) → (matches k c (thread_of s t) && sleeps_at c.process c.uaddr s t) ≡ true
    → (u : ℕ) → elem t (released k c s) ≡ false → elem u (released k c s) ≡ true → GoesBefore s u t
none_overtaken k c s h = Order.none_overtaken k c s (tables_sound s h)

-- where it is neither released nor moved, each that is;
pub none_passed_over : (k : Command) (c : Call) (s : State) → tables_ok s ≡ true → (t : ℕ) → (matches k c (thread_of s t) && sleeps_at c.process c.uaddr s t) ≡ true
    → (u : ℕ) → elem t (released k c s ++ moved k c s) ≡ false → elem u (released k c s ++ moved k c s) ≡ true → GoesBefore s u t
none_passed_over k c s h = Order.none_passed k c s (tables_sound s h)

-- and so at WAKE_OP's second word.
pub none_overtaken_second : (k : Command) (c : Call) (w : World) → tables_ok w.state ≡ true
    → (t : ℕ) → (matches k c (thread_of w.state t) && sleeps_at c.process c.uaddr2 w.state t) ≡ true
    → (u : ℕ) → elem t (released k c w.state ++ released_second k c w) ≡ false → elem u (released_second k c w) ≡ true → GoesBefore w.state u t
none_overtaken_second k c w h = Order.second_overtaken k c w (tables_sound w.state h)

-- "The stop key goes first": a sleeper whose priority is higher than that of all others that the call matches there is the first that is released, if
-- the cap is above 0,
pub stop_key_first : (k : Command) (c : Call) (s : State) → tables_ok s ≡ true → (t : ℕ) → (matches k c (thread_of s t) && sleeps_at c.process c.uaddr s t) ≡ true
    → ((u : ℕ) → (matches k c (thread_of s u) && sleeps_at c.process c.uaddr s u) ≡ true → (u ≡ t → ⊥) → (thread_of s u).priority < (thread_of s t).priority)
    → 0 < c.val → (rest : List ℕ) × (released k c s ≡ t ∷ rest)
stop_key_first k c s h = Order.released_leads k c s (tables_sound s h)

-- and so runs after any such call that is answered a count, whatever else sleeps.
pub stop_key_runs : (c : Call) (w : World) (n t : ℕ) → (step (CallEvent c) w).answer ≡ Count n → 0 < c.val
    → (matches (command_of c.op) c (before w t) && sleeps_at c.process c.uaddr w.state t) ≡ true
    → ((u : ℕ) → (matches (command_of c.op) c (before w u) && sleeps_at c.process c.uaddr w.state u) ≡ true → (u ≡ t → ⊥) → (before w u).priority < (before w t).priority)
    → after (CallEvent c) w t ≡ ended Woken (before w t)
stop_key_runs = Order.leader_runs

-- "in any tables whose priorities are all equal, each event's answer and all that it leaves stay as before, and that is to be proved": for every event,
-- any such tables, sound or not, and any words.
pub as_before_order : (e : Event) (w : World) → Level w.state → step e w ≡ step_by_arrival e w
as_before_order e w level = Level'.as_before w level e

-- How many: as many as the cap and the matching sleepers allow, and then as many of the rest as the second cap allows.
pub how_many : (k : Command) (c : Call) (s : State) → tables_ok s ≡ true
    → let there = count_below threads (λ t. matches k c (thread_of s t) && sleeps_at c.process c.uaddr s t) in
    (length (released k c s) ≡ min c.val there) × (length (moved k c s) ≡ min (second_cap c) (there - c.val))
how_many k c s h = (Order.released_many k c s (tables_sound s h), Order.moved_many k c s (tables_sound s h))

-- Those run, or move with mask and deadline kept, to the list's end "in the order in which they were taken"; every other record and the order of every
-- other entry are as they were.
pub takes_first : (c : Call) (w : World) (n : ℕ) → (step (CallEvent c) w).answer ≡ Count n
    → Takes (command_of c.op) c w (step (CallEvent c) w).world
takes_first = Taken.takes_first

-- The count "is the number of records that went from waiting to running, and, where moves count, of those still waiting whose
-- address changed", whatever the event.
pub counted : (e : Event) (w : World) (n : ℕ) → (step e w).answer ≡ Count n
    → n ≡ woken_count w (step e w).world + cond (counts_moves e) (shifted_count w (step e w).world) 0
counted = Taken.counted

-- No count is above the number of threads, so none is ever as high as "asleep".
pub count_most : (e : Event) (w : World) (n : ℕ) → (step e w).answer ≡ Count n → n ≤ threads
count_most = Counts.count_most

pub count_below_asleep : (e : Event) (w : World) (n : ℕ) → (step e w).answer ≡ Count n → n < asleep_number
count_below_asleep e w n h = omega (arith, count_most e w n h)

-- "The count that a wake or requeue answers depends on no sleeper at a word that the call doesn't name."
pub count_local : (c : Call) (w v : World) (m n : ℕ) → NamedAlike (command_of c.op) c w v
    → (step (CallEvent c) w).answer ≡ Count m → (step (CallEvent c) v).answer ≡ Count n → m ≡ n
count_local = Local.count_local

-- Demand 2, the clock and interrupts.

-- "every sleeper whose deadline is at or below it ends with -110"
pub deadline_ends : (now : ℕ) (w : World) (n : ℕ) → (step (Clock now) w).answer ≡ Count n
    → (t : ℕ) → expired now (thread_of w.state t) ≡ true → thread_of (step (Clock now) w).world.state t ≡ ended TimedOut (thread_of w.state t)
deadline_ends now w n h t e = (Taken.clock_ends now w n h).ran t (Taken.expired_all now w n h t e)

-- These leave the list, and every other record and the order of every other entry are as they were.
pub clock_ends : (now : ℕ) (w : World) (n : ℕ) → (step (Clock now) w).answer ≡ Count n
    → Took TimedOut (expired_sleepers now w.state) [] 0 w.state (step (Clock now) w).world.state
clock_ends = Taken.clock_ends

-- "a sleeper ends with -4", and nobody else
pub interrupt_ends : (p i : ℕ) (w : World) (n : ℕ) → (step (Interrupt p i) w).answer ≡ Count n → (thread_of w.state (thread_number p i)).waiting ≡ true
    → Took Interrupted (thread_number p i ∷ []) [] 0 w.state (step (Interrupt p i) w).world.state
interrupt_ends = Taken.interrupt_ends

-- Whatever the processes did, no thread is asleep whose deadline the clock has reached.
pub no_overdue_sleeper : (words : List ℕ) → length words ≡ memory_words → (h : List Event)
    → (t : ℕ) → expired (final h (start words)).state.clock (thread_of (final h (start words)).state t) ≡ false
no_overdue_sleeper words n h = none_overdue _ (final_valid h (start words) (start_valid words n)).sound

-- No lost wake.

-- What an event does to a thread, whatever the tables: there is no other way to fall asleep or to come back.
pub fate : (e : Event) (w : World) (t : ℕ) → Fate e w t
fate = Fate'.fate

-- Once a word differs from v, no wait that expects v sleeps there until the word is v again.
pub stale_never_sleeps : (c : Call) (w : World) (v : ℕ) → c.val ≡ v → (word_at w c.process c.uaddr ≡ v → ⊥)
    → (step (CallEvent c) w).answer ≡ Asleep → ⊥
stale_never_sleeps c w v is differs h = differs (sleeper_saw c w h ∙ is)

-- Over any history: a thread that is asleep at a word at its end slept there throughout, or entered by an event of the history, a
-- wait that saw its number there or a requeue to it, and has slept there since.
pub asleep_since : (t a : ℕ) (h : List Event) (w : World) → asleep_there t a (final h w) ≡ true
    → (slept_through t a h w ≡ true) ⊎ Since t a h w
asleep_since = LostWake.since

-- A WAKE whose cap is not below the number of the word's sleepers leaves nobody asleep there. So after it a thread of the process
-- is asleep at that word only by a later wait that saw its number there, or by a later requeue to it.
pub no_lost_wake : (c : Call) (w : World) (n : ℕ) → command_of c.op ≡ Wake → (step (CallEvent c) w).answer ≡ Count n
    → length (queue c.process c.uaddr w.state) ≤ c.val
    → (h : List Event) (t : ℕ) → process_of t ≡ c.process
    → asleep_there t c.uaddr (final h (step (CallEvent c) w).world) ≡ true
    → Since t c.uaddr h (step (CallEvent c) w).world
no_lost_wake c w n wake answer enough h t own asleep =
    by_cases (asleep_since t c.uaddr h (step (CallEvent c) w).world asleep)
    (λ slept. clash (asleep_there t c.uaddr (step (CallEvent c) w).world)
    (LostWake.starts_asleep t c.uaddr h (step (CallEvent c) w).world slept)
    (LostWake.wake_empties c w n wake answer enough t own))
    (λ s. s)

-- Request (vi), base priorities.

-- Nothing changes a thread's priority, whatever the event, the tables and the words, but an event that sets it and is answered 0; and that
-- changes nothing else of the record.
pub only_set_priority : (e : Event) (w : World) (t : ℕ) → ((after e w t).priority ≡ (before w t).priority) ⊎ PrioritySet e w t
only_set_priority = Priorities.only_set

-- So after any history it is the last that was set for the thread by an event that was not refused, and else what it was.
pub priority_after_lem : (h : List Event) (w : World) (t : ℕ)
    → (thread_of (final h w).state t).priority ≡ priority_after h (answers h w) t (thread_of w.state t).priority
priority_after_lem = Priorities.priority_after_lem

-- "Answers in order: -6, -9, -3, -22 if above 31 (reason 8), else 0. It is allowed for a sleeper": it is answered 0 exactly when memory and tables are
-- sound, the thread is there and the priority is no higher than 31,
pub set_exactly : (p i n : ℕ) (w : World) → ((step (SetPriority p i n) w).answer ≡ Count 0)
    ↔ ((length w.words ≡ memory_words) × (tables_ok w.state ≡ true) × (p < processes) × (i < threads_per_process) × (n ≤ max_priority))
set_exactly = Priorities.set_exactly

-- and then leaves the thread's record with that priority, and nothing else changed.
pub set_leaves : (p i n : ℕ) (w : World) → (step (SetPriority p i n) w).answer ≡ Count 0
    → (step (SetPriority p i n) w).world ≡ with_state (set_priority n (thread_number p i) w.state) w
set_leaves = Priorities.set_leaves

-- The twelve cases of document 01, P1 to P12, come out as it says, P8 as request (ii) amends it.
pub twelve_cases : map given twelve ≡ twelve
twelve_cases = Cases.as_document_01_says

-- So do cases of the other events and of the answers that the twelve do not give, with every last answer of an ended sleep,
pub further_cases : map given further ≡ further
further_cases = Cases.further_given

-- each reason alone and each pair of them,
pub reasons_of_cases : map reasoned_as reasoned ≡ reasoned
reasons_of_cases = Cases.reasons_given

-- WAKE_OP's comparisons and operations at the edges of its signed numbers, and whole calls, each beside what it was,
pub comparisons_of_cases : map compared_as comparisons ≡ comparisons
comparisons_of_cases = Cases.compared_given

pub operations_of_cases : map stored_as operations ≡ operations
operations_of_cases = Cases.stored_given

pub calls_of_cases : map called_as calls ≡ calls
calls_of_cases = Cases.called_given

-- priorities that are set, refused, and kept through every end of a sleep,
pub priorities_of_cases : map prioritised_as prioritised ≡ prioritised
priorities_of_cases = Cases.prioritised_given

-- whom a wake or requeue takes by priority, beside whom it took by arrival,
pub orders_of_cases : map chosen_as choices ≡ choices
orders_of_cases = Cases.choices_given

-- what each process is answered and what is kept for it of one history of several,
pub mixed_history : map share_of shares ≡ shares
mixed_history = Cases.shares_given

-- and memory of a wrong length and broken tables: -6 and -9 to every event but a panel query.
pub unsound_worlds : map unsound_given unsounds ≡ unsounds
unsound_worlds = Cases.unsounds_given

-- The tables.

-- An event keeps the table rules, from any tables that keep them over full-length memory.
pub rules_kept : (e : Event) (w : World) → length w.words ≡ memory_words → tables_ok w.state ≡ true
    → tables_ok (step e w).world.state ≡ true
rules_kept e w n h =
    sound_tables _ (step_valid e w (record { memory = n; sound = tables_sound w.state h })).sound

-- From the fresh state, over full-length memory, every history leaves tables that keep the table rules, and memory of full length.
pub rules_kept_always : (words : List ℕ) → length words ≡ memory_words → (h : List Event)
    → (tables_ok (final h (start words)).state ≡ true) × (length (final h (start words)).words ≡ memory_words)
rules_kept_always words n h =
    let v = final_valid h (start words) (start_valid words n) in
    (sound_tables _ v.sound, v.memory)

-- Demand 3, for any number p: "Take any of the eight processes and any two histories .. Both start from the fresh state over
-- full-length memory, with equal words for that process. .. Strike from both the events that name another process. If equal lists
-- are left, clock events included, then, whatever the other processes did, that process's events got the same answers in the same
-- order .. At the end its words, its thread records and the order of its sleepers are the same too." An answer has its reason in it; the order of
-- sleepers is that of the list.
pub isolation : (p : ℕ) (us vs : List ℕ) → length us ≡ memory_words → length vs ≡ memory_words
    → ((a : ℕ) → a < bytes_per_process → word_at (start us) p a ≡ word_at (start vs) p a)
    → (g h : List Event) → kept_for p g ≡ kept_for p h
    → (answers_to p g (start us) ≡ answers_to p h (start vs)) × Alike p (final g (start us)) (final h (start vs))
isolation p us vs lu lv words g h e =
    let same = start_alike p us vs (lu ∙ sym lv) words in
    let gu = start_valid us lu in
    let gv = start_valid vs lv in (
      cc (answers_view p g (start us) gu, answers_view p h (start vs) gv),
      alike p (final g (start us)) (final h (start vs)) (cc (final_view p g (start us) gu, final_view p h (start vs) gv)),
    )
