-- Laws that fix the words in which the theorems speak: each says, of a definition in specs/, what only the right one meets. Those that are
-- proved by refl only read a definition out, so that a change of it shows; they say nothing more of the kernel.
use mathlib.Core.Path.{◌≡◌, refl, sym, ap, ◌∙◌}
use mathlib.Core.Bool.{Bool, true, false, not, cond, ◌&&◌, ◌||◌}
use mathlib.Core.List.{List, [], ◌∷◌, ◌++◌, map}
use mathlib.Core.Logic.{◌⊎◌, ◌↔◌}
use Prim.Native.Nat.{ℕ, ◌+◌, ◌-◌, ◌*◌, ◌/◌, ◌%◌, ◌≤◌, ◌<◌}
use native.Mathlib.Omega.{arith}
use lib.ListN.{length, take, drop, replicate}
use lib.Dec.{eqb}
use lib.Bits.{bit_and, bit_or, bit_xor}
use mir.Syntax.{w32}
use mir.Val.{to_z}
use lib.IntN.{ℤ, pos, neg_ℤ}
use borrow.Author.Tests.{eqb-true, eq-eqb, leb-true, le-leb}
use Rattle.lists.specs.Lists.{filter, all, elem}
use Rattle.lists.proofs.Filter.{all_at, at_all, get_d_replicated}
use Rattle.lists.proofs.Standing.{stands_once}
use Rattle.lists.proofs.Tests.{by_cases, eqb_refl, and_intro, and_left, and_right}
use Rattle.tables.specs.declared.State.{State}
use Rattle.tables.specs.declared.Thread.{Thread}
use Rattle.tables.specs.declared.LastAnswer.{LastAnswer}
use Rattle.rules.specs.declared.event.Command.{Command}
use Rattle.rules.specs.declared.event.Command.TheVariants.{CmpRequeue}
use Rattle.rules.specs.declared.event.Call.{Call}
use Rattle.rules.specs.declared.event.Event.{Event}
use Rattle.rules.specs.declared.event.Event.TheVariants.{Call as CallEvent, Store, Clock, Interrupt, Query, SetPriority}
use Rattle.rules.specs.declared.answer.Reason.TheVariants.{FirstCap, SecondCap, MaskZero, UaddrUnaligned, Uaddr2Unaligned, SameAddress, ClockBack, PriorityHigh}
use Rattle.rules.specs.declared.answer.Refusal.{Refusal}
use Rattle.rules.specs.declared.answer.Panel.{Panel}
use Rattle.std.specs.Prelude.{Some, None, Err, Ok}
use Rattle.rules.specs.declared.answer.Answer.{Answer}
use Rattle.rules.specs.declared.answer.Answer.TheVariants.{Asleep, Count, Refused, Waiting}
use Rattle.tables.specs.Sizes.{processes, threads_per_process, threads, no_entry, words_per_process, bytes_per_process, memory_words, max_cap, max_priority, word_bits, word_limit}
use Rattle.tables.specs.Editions.{present}
use Rattle.tables.specs.Tables.{World, world, fresh_thread, queue_in, queue, fresh_in, fresh, expired, thread_number, process_of, thread_of, arrivals, tables_ok, moved_to, with_priority, word_at}
use Rattle.rules.specs.Answers.{Row, first, reason_number, answer_numbers, reason_of, last_number, Outcome, outcome}
use Rattle.rules.specs.Commands.{command_of, numbered, uses}
use Rattle.rules.specs.Signed.{negative, signed, modulo, eq_z}
use Rattle.rules.specs.WakeOp.{code_bits, arg_bits, op_field, cmp_arg_field, shift_bit, undefined_op, operate, new_word, compare_by, compares, val3_of}
use Rattle.rules.specs.Calls.{caller, is_wake_op, matches, candidates_in, released_in, old_word}
use Rattle.rules.specs.Events.{refusals, effect, step}
use Rattle.rules.specs.Numbers.{numbers_of}
use Rattle.rules.specs.Before.{step_without_reasons, new_word_unsigned, compares_unsigned, step_unsigned, none_negative, other, minus12, numbers_with12, as_with12, full, judged_with12, step_with12, taken_by_arrival, under_arrival, back_to, step_by_arrival, Level}
use Rattle.rules.specs.History.{start, final, answers, is_clock, belongs, kept_for, entries_of, answers_to}
use Rattle.rules.specs.Claims.{FirstOf, Clear, Sleeps, GoesBefore, Took, Takes, woken_by, moved_by, woke, shifted, counts_moves, SameSleepers, NamedAlike, before, after, PrioritySet, asleep_there, Enters, slept_through, Since, Alike}
use Rattle.rules.specs.Cases.{wake_op_at, asleep_at_minus_one, Case, sleepers, ended_from, given, Reasoned, reasoned_as, Share, mixed, share_of, Unsound, each, unsound_given}
use Rattle.rules.specs.PriorityCases.{Prioritised, ranked_from, prioritised_as, Choice, sleep_on, chosen_as}
use Rattle.rules.specs.WakeOpCases.{Compared, compared_as, Stored, stored_as, Called, called_as}
use Rattle.tables.proofs.Sound.{once, tables_sound}
use Rattle.rules.proofs.ByEvent.{no_call}
use Rattle.rules.proofs.Rows.{first_of, of_first, pass_clear, clear_pass}
use Rattle.rules.proofs.Preserved.{Valid}
use Rattle.rules.proofs.Signed as Signed'
use Rattle.rules.proofs.Signed.{eq_z_true, eq_eq_z}
use Rattle.rules.proofs.Numbers as Numbers'
use Rattle.rules.proofs.Before as Before'
use Rattle.rules.proofs.Taken as Taken
use Rattle.rules.proofs.Fate.{fate}
use Rattle.rules.proofs.Determined as Determined
use Rattle.rules.proofs.Alike as Alike'
use Rattle.rules.proofs.Slept as Slept
use Rattle.rules.proofs.Elsewhere as Elsewhere
use Rattle.rules.proofs.Fates as Fates
use Rattle.rules.proofs.Counts as Counts
use Rattle.rules.proofs.Histories as Histories

-- "The display's fixed sizes"
pub sizes : (processes ≡ 8) × (threads_per_process ≡ 8) × (threads ≡ 64) × (no_entry ≡ 255) × (words_per_process ≡ 1024) × (bytes_per_process ≡ 4096)
    × (memory_words ≡ 8192) × (max_cap ≡ 2147483647) × (max_priority ≡ 31) × (word_bits ≡ 32) × (word_limit ≡ 4294967296) × (code_bits ≡ 4) × (arg_bits ≡ 12) × (shift_bit ≡ 8)
sizes = (refl, refl, refl, refl, refl, refl, refl, refl, refl, refl, refl, refl, refl, refl)

-- The last answers by number: "The last answer is 1 until a sleep ends, then 0 (woken), -110 or -4."
pub fresh_last : (words : List ℕ) (t : ℕ) → last_number (thread_of (start words).state t).last ≡ pos 1
unfolding fresh_in
fresh_last words t = ap (λ (r : Thread). last_number r.last) (get_d_replicated threads t _)

pub released_last : (c : Call) (w : World) (n t : ℕ) → (step (CallEvent c) w).answer ≡ Count n → elem t (woken_by (command_of c.op) c w) ≡ true
    → last_number (thread_of (step (CallEvent c) w).world.state t).last ≡ pos 0
released_last c w n t h e = ap (λ (r : Thread). last_number r.last) ((Taken.takes_first c w n h).took.ran t e)

pub deadline_last : (now : ℕ) (w : World) (n t : ℕ) → (step (Clock now) w).answer ≡ Count n → expired now (thread_of w.state t) ≡ true
    → last_number (thread_of (step (Clock now) w).world.state t).last ≡ neg_ℤ (pos 110)
deadline_last now w n t h e = ap (λ (r : Thread). last_number r.last) ((Taken.clock_ends now w n h).ran t (Taken.expired_all now w n h t e))

pub interrupt_last : (p i : ℕ) (w : World) (n : ℕ) → (step (Interrupt p i) w).answer ≡ Count n → (thread_of w.state (thread_number p i)).waiting ≡ true
    → last_number (thread_of (step (Interrupt p i) w).world.state (thread_number p i)).last ≡ neg_ℤ (pos 4)
interrupt_last p i w n h e =
    let t = thread_number p i in
    ap (λ (r : Thread). last_number r.last) ((Taken.interrupt_ends p i w n h e).ran t (rw (eqb_refl t)))

-- Priorities: "0 at the start"; a record with another priority is the same in all else;
pub fresh_priority : (words : List ℕ) (t : ℕ) → (thread_of (start words).state t).priority ≡ 0
unfolding fresh_in
fresh_priority words t = ap (λ (r : Thread). r.priority) (get_d_replicated threads t _)

pub priority_written : (n : ℕ) (r : Thread)
    → with_priority n r
    ≡ record { waiting = r.waiting; uaddr = r.uaddr; bitset = r.bitset; timed = r.timed; deadline = r.deadline; last = r.last; priority = n }
priority_written n r = refl

-- which event set it, of which thread, to what, and what it was answered.
pub priority_set_exactly : (e : Event) (w : World) (t : ℕ)
    → PrioritySet e w t
    ↔ ((p : ℕ) × (i : ℕ) × (n : ℕ) × (e ≡ SetPriority p i n) × (t ≡ thread_number p i) × ((step e w).answer ≡ Count 0) × (after e w t ≡ with_priority n (before w t)))
priority_set_exactly e w t = (
  (λ s. (s.process, s.index, s.priority, s.event, s.thread, s.answer, s.left)),
  (λ s. record { process = s.0; index = s.1; priority = s.2; event = s.3; thread = s.4; answer = s.5; left = s.6 }),
)

-- Histories.

-- the fresh tables over the words that are given
pub starts : (words : List ℕ) → start words ≡ world fresh words
starts words = refl

-- What a history leaves and is answered: nothing at first, then event by event, each on "the tables and words that the one before it left".
pub nothing_yet : (p : ℕ) (w : World) → (final [] w ≡ w) × (answers [] w ≡ []) × (answers_to p [] w ≡ []) × (kept_for p [] ≡ [])
nothing_yet p w = (refl, refl, refl, refl)

pub final_last : (g : List Event) (e : Event) (w : World) → final (g ++ e ∷ []) w ≡ (step e (final g w)).world
final_last g e w = Histories.final_append g (e ∷ []) w

pub answers_last : (g : List Event) (e : Event) (w : World) → answers (g ++ e ∷ []) w ≡ answers g w ++ (step e (final g w)).answer ∷ []
answers_last g e w = Histories.answers_append g (e ∷ []) w

-- Whose an event is: "A call, store, interrupt or panel query belongs to the process that it names. A clock event belongs to none"; a priority
-- that is set "belongs to the named process".
pub belongs_to : (p q i a v now n : ℕ) (c : Call)
    → (belongs p (CallEvent c) ≡ eqb c.process p)
    × (belongs p (Store q a v) ≡ eqb q p)
    × (belongs p (Interrupt q i) ≡ eqb q p)
    × (belongs p (Query q) ≡ eqb q p)
    × (belongs p (SetPriority q i n) ≡ eqb q p)
    × (belongs p (Clock now) ≡ false)
belongs_to p q i a v now n c = (refl, refl, refl, refl, refl, refl)

-- What a process's events are answered: all of them, in order, and no other's.
pub answers_in_order : (p : ℕ) (g : List Event) (e : Event) (w : World)
    → answers_to p (g ++ e ∷ []) w ≡ answers_to p g w ++ cond (belongs p e) ((step e (final g w)).answer ∷ []) []
answers_in_order = Histories.answers_in_order

-- the same of any list with an entry for each event
pub entries_last : {A : Type 0} (p : ℕ) (g : List Event) (e : Event) (l : List A) (x : A) → length l ≡ length g
    → entries_of p (g ++ e ∷ []) (l ++ x ∷ []) ≡ entries_of p g l ++ cond (belongs p e) (x ∷ []) []
entries_last = Histories.entries_last

-- What is left of a history when "the events that name another process" are struck: the process's own, and the clock's.
pub kept_last : (p : ℕ) (g : List Event) (e : Event) → kept_for p (g ++ e ∷ []) ≡ kept_for p g ++ cond (belongs p e || is_clock e) (e ∷ []) []
kept_last = Histories.kept_last

pub clock_kept : (p now : ℕ) (g : List Event) → kept_for p (g ++ Clock now ∷ []) ≡ kept_for p g ++ Clock now ∷ []
clock_kept p now g = kept_last p g (Clock now)

-- Refusals: the first row that applies, and no row.
pub first_exactly : (x : Refusal) (rs : List Row) → FirstOf x rs ↔ (first rs ≡ Err x)
first_exactly x rs = (of_first x rs, first_of x rs)

pub clear_exactly : (rs : List Row) → Clear rs ↔ (first rs ≡ Ok tt)
clear_exactly rs = (clear_pass rs, pass_clear rs)

-- Reasons by their numbers, and which commands use the arguments that they speak of, by theirs.
pub reason_numbers : map reason_number (None ∷ map Some (FirstCap ∷ SecondCap ∷ MaskZero ∷ UaddrUnaligned ∷ Uaddr2Unaligned ∷ SameAddress ∷ ClockBack ∷ PriorityHigh ∷ []))
    ≡ 0 ∷ 1 ∷ 2 ∷ 3 ∷ 4 ∷ 5 ∷ 6 ∷ 7 ∷ 8 ∷ []
reason_numbers = refl

pub arguments_used : let commands : List ℕ = 0 ∷ 1 ∷ 3 ∷ 4 ∷ 5 ∷ 9 ∷ 10 ∷ [] in
    (filter (λ n. (uses (numbered n)).cap) commands ≡ 1 ∷ 3 ∷ 4 ∷ 5 ∷ 10 ∷ [])
    × (filter (λ n. (uses (numbered n)).second) commands ≡ 3 ∷ 4 ∷ 5 ∷ [])
    × (filter (λ n. (uses (numbered n)).mask) commands ≡ 9 ∷ 10 ∷ [])
    × (filter (λ n. (uses (numbered n)).moves) commands ≡ 3 ∷ 4 ∷ [])
arguments_used = (refl, refl, refl, refl)

pub reason_beside : (x : Refusal) (n : ℕ) (v : Panel)
    → (reason_of (Refused x) ≡ x.reason) × (reason_of Asleep ≡ None) × (reason_of (Count n) ≡ None) × (reason_of (Waiting v) ≡ None)
reason_beside x n v = (refl, refl, refl, refl)

-- The rules before reasons answered by the same numbers, and gave no reason.
pub before_numbers : (e : Event) (w : World) → (answer_numbers (step_without_reasons e w).answer ≡ numbers_of e w) × (reason_of (step_without_reasons e w).answer ≡ None)
before_numbers = Numbers'.before_numbers

-- Signed numbers: a word stands for what the library reads its bits as; and equality by its test, which `compares_signed` speaks of.
pub signed_word : (x : ℕ) → x < word_limit → signed word_bits x ≡ to_z w32 x
signed_word = Signed'.signed_word

pub equal_exactly : (y z : ℤ) → (eq_z y z ≡ true) ↔ (y ≡ z)
equal_exactly y z = (eq_z_true y z, eq_eq_z y z)

-- WAKE_OP's operations and comparisons by their numbers: "0 set, 1 add, 2 or, 3 and-not, 4 xor", "0 =, 1 not =, 2 <, 3 <=, 4 >, 5 >=";
pub operated : (x old : ℕ)
    → (operate 0 x old ≡ x)
    × (operate 1 x old ≡ (old + x) % 4294967296)
    × (operate 2 x old ≡ bit_or old x)
    × (operate 3 x old ≡ bit_and old (4294967295 - x))
    × (operate 4 x old ≡ bit_xor old x)
unfolding operate
operated x old = (refl, refl, refl, refl, refl)

pub compared : {A : Type 0} (same below : A → A → Bool) (x y : A)
    → (compare_by same below 0 x y ≡ same x y)
    × (compare_by same below 1 x y ≡ not (same x y))
    × (compare_by same below 2 x y ≡ below x y)
    × (compare_by same below 3 x y ≡ not (below y x))
    × (compare_by same below 4 x y ≡ below y x)
    × (compare_by same below 5 x y ≡ not (below x y))
unfolding compare_by
compared same below x y = (refl, refl, refl, refl, refl, refl)

-- "5 to 7 undefined", of op's low three bits, and "the rest undefined".
pub undefined_parts : let sixteen : List ℕ = 0 ∷ 1 ∷ 2 ∷ 3 ∷ 4 ∷ 5 ∷ 6 ∷ 7 ∷ 8 ∷ 9 ∷ 10 ∷ 11 ∷ 12 ∷ 13 ∷ 14 ∷ 15 ∷ [] in
    (filter (λ op. undefined_op (val3_of op (pos 0) 0 (pos 0))) sixteen ≡ 5 ∷ 6 ∷ 7 ∷ 13 ∷ 14 ∷ 15 ∷ [])
    × (filter (λ cmp. undefined_op (val3_of 0 (pos 0) cmp (pos 0))) sixteen ≡ 6 ∷ 7 ∷ 8 ∷ 9 ∷ 10 ∷ 11 ∷ 12 ∷ 13 ∷ 14 ∷ 15 ∷ [])
unfolding undefined_op modulo
undefined_parts = (refl, refl)

-- Of which events `as_before_signs` speaks: of all that are no WAKE_OP, and of a WAKE_OP with a power of two whatever its oparg.
pub none_negative_else : (w : World)
    → ((e : Event) → ((c : Call) → e ≡ CallEvent c → ⊥) → none_negative e w ≡ true)
    × ((c : Call) → is_wake_op (command_of c.op) ≡ false → none_negative (CallEvent c) w ≡ true)
none_negative_else w = ((λ e h. no_call _ _ e h), λ c e. rw e)

pub none_negative_power : (c : Call) (w : World) → is_wake_op (command_of c.op) ≡ true → shift_bit ≤ op_field c.val3
    → none_negative (CallEvent c) w ≡ (not (negative arg_bits (cmp_arg_field c.val3)) && not (negative word_bits (old_word c w)))
none_negative_power c w e h = rw (e, le-leb shift_bit (op_field c.val3) h)

-- The rules with -12, which `never_12` and `as_before_12` speak of: a row above that applies answers, then the row for -12, then the event does what it does;
pub row_of_12 : (x : Refusal) (rows : List Row) (applies : Bool) (o : Outcome) (w : World)
    → (FirstOf x rows → judged_with12 rows applies o w ≡ as_with12 (outcome (Refused x) w))
    × (Clear rows → judged_with12 rows true o w ≡ record { answer = minus12; world = w })
    × (Clear rows → judged_with12 rows false o w ≡ as_with12 o)
row_of_12 x rows applies o w = (
  (λ h. Before'.judged_refused x rows applies o w (of_first x rows h)),
  Before'.judged_clear rows true o w,
  Before'.judged_clear rows false o w,
)

-- their rows are those that hold now and, of a call alone, "the arrival list already holds 64";
pub rows_with_12 : (e : Event) (w : World) → step_with12 e w ≡ judged_with12 (refusals e w) (full e w) (effect e w) w
unfolding step_with12
rows_with_12 e w = refl

pub full_exactly : (c : Call) (w : World) → (full (CallEvent c) w ≡ true) ↔ (64 ≤ w.state.count)
full_exactly c w = (leb-true 64 w.state.count, le-leb 64 w.state.count)

pub none_else_full : (w : World) (e : Event) → ((c : Call) → e ≡ CallEvent c → ⊥) → full e w ≡ false
none_else_full w e h = no_call _ _ e h

-- their numbers; and an outcome among them is the whole of it, with the reason.
pub numbered_12 : (a : Answer) → (numbers_with12 (other a) ≡ answer_numbers a) × (numbers_with12 minus12 ≡ neg_ℤ (pos 12) ∷ [])
numbered_12 a = (refl, refl)

pub whole_with_12 : (o : Outcome) → as_with12 o ≡ record { answer = other o.answer; world = o.world }
whole_with_12 o = refl

-- The rules before request (vii), which `as_before_order` speaks of: they go by the edition that takes sleepers as they stand in the list;
pub by_arrival_lem : (e : Event) (w : World) → step_by_arrival e w ≡ back_to present (step e (under_arrival w))
unfolding step_by_arrival
by_arrival_lem e w = refl

pub released_by_arrival : (k : Command) (c : Call) (s : State)
    → released_in (taken_by_arrival present) k c s ≡ take c.val (filter (λ t. matches k c (thread_of s t)) (queue c.process c.uaddr s))
unfolding released_in candidates_in queue_in
released_by_arrival k c s = refl

-- and of tables in which one number is the priority of every record.
pub level_exactly : (s : State) → Level s ↔ ((n : ℕ) × (all (λ (r : Thread). eqb r.priority n) s.threads ≡ true))
level_exactly s = (
  (λ h. ((thread_of s 0).priority, all_at _ fresh_thread s.threads (λ t e. eq-eqb _ _ (h t 0 e (omega arith))))),
  (λ h t u e d. let at = at_all (λ (r : Thread). eqb r.priority h.0) fresh_thread s.threads h.1 in
      eqb-true _ _ (at t e) ∙ sym (eqb-true _ _ (at u d))),
)

-- Of two sleepers not each goes before the other, and none before itself.
pub goes_one_way : (s : State) → tables_ok s ≡ true → (t u : ℕ) → GoesBefore s u t → GoesBefore s t u → ⊥
goes_one_way s h t u first back = by_cases first
    (λ a. by_cases back (λ b. omega arith) (λ b. omega (arith, b.0)))
    (λ a. by_cases back (λ b. omega (arith, a.0)) (λ b. stands_once u t (arrivals s) (once s (tables_sound s h)) a.1 b.1))

-- Wakes and requeues: what was taken fixes every record and the order of the list afterwards,
pub took_fixes : {a : LastAnswer} {out on : List ℕ} {target : ℕ} {s u v : State} → Took a out on target s u → Took a out on target s v
    → ((t : ℕ) → thread_of u t ≡ thread_of v t) × (arrivals u ≡ arrivals v)
took_fixes g h = (Determined.took_records g h, Determined.took_order g h)

-- and, of a call, the clock and the words.
pub takes_fixes : {k : Command} {c : Call} {w u v : World} → Takes k c w u → Takes k c w v
    → ((t : ℕ) → thread_of u.state t ≡ thread_of v.state t)
    × (arrivals u.state ≡ arrivals v.state)
    × (u.state.clock ≡ v.state.clock)
    × (u.words ≡ v.words)
takes_fixes = Determined.takes_fixes

-- Counts: from waiting to running; still waiting, at another address; and where moves count.
pub woke_exactly : (s u : State) (t : ℕ) → (woke s u t ≡ true) ↔ (((thread_of s t).waiting ≡ true) × ((thread_of u t).waiting ≡ false))
woke_exactly s u t = (Counts.woke_is s u t, Counts.is_woke s u t)

pub shifted_exactly : (s u : State) (t : ℕ)
    → (shifted s u t ≡ true)
    ↔ (((thread_of s t).waiting ≡ true) × ((thread_of u t).waiting ≡ true) × ((thread_of s t).uaddr ≡ (thread_of u t).uaddr → ⊥))
shifted_exactly s u t = (Counts.shifted_is s u t, Counts.is_shifted s u t)

pub moves_count : (c : Call) → (counts_moves (CallEvent c) ≡ true) ↔ (command_of c.op ≡ CmpRequeue)
moves_count c = (Counts.moves_count (command_of c.op), λ e. rw e)

pub none_moves : (e : Event) → ((c : Call) → e ≡ CallEvent c → ⊥) → counts_moves e ≡ false
none_moves e h = no_call _ _ e h

-- What a count depends on is the same in the world itself, and after a thread has fallen asleep at a word that the call does not name.
pub named_same : (k : Command) (c : Call) (w : World) → NamedAlike k c w w
named_same k c w = record { first = same; second = λ e. same; word = λ e. refl }
  where
    same : {p a : ℕ} → SameSleepers p a w.state w.state
    same = record { order = refl; records = λ t e. refl }

pub named_elsewhere : (k : Command) (c d : Call) (w : World) → Sleeps d w
    → (d.process ≡ c.process → (d.uaddr ≡ c.uaddr → ⊥) × (d.uaddr ≡ c.uaddr2 → ⊥))
    → NamedAlike k c w (step (CallEvent d) w).world
named_elsewhere = Elsewhere.named_elsewhere

-- A thread's fate. Who slept and runs was released by a call that was answered a count, reached its deadline or was interrupted, and its last answer says which;
pub came_back : (e : Event) (w : World) (t : ℕ) → (before w t).waiting ≡ true → (after e w t).waiting ≡ false
    → ((c : Call) × (n : ℕ) × (e ≡ CallEvent c) × ((step e w).answer ≡ Count n) × (elem t (woken_by (command_of c.op) c w) ≡ true) × (last_number (after e w t).last ≡ pos 0))
    ⊎ ((now : ℕ) × (e ≡ Clock now) × (expired now (before w t) ≡ true) × (last_number (after e w t).last ≡ neg_ℤ (pos 110)))
    ⊎ ((p : ℕ) × (i : ℕ) × (e ≡ Interrupt p i) × (t ≡ thread_number p i) × (last_number (after e w t).last ≡ neg_ℤ (pos 4)))
came_back e w t on off = Fates.comes_back e w t on off (fate e w t)

-- who ran and sleeps called a wait that sleeps;
pub fell_asleep : (e : Event) (w : World) (t : ℕ) → (before w t).waiting ≡ false → (after e w t).waiting ≡ true
    → (c : Call) × (e ≡ CallEvent c) × (t ≡ caller c) × Sleeps c w
fell_asleep e w t off on = Fates.falls_asleep e w t off on (fate e w t)

-- who sleeps on was moved by a requeue, had its priority set, or has the record that it had; and who runs on had its priority set, or has
-- the record that it had.
pub slept_on : (e : Event) (w : World) (t : ℕ) → (before w t).waiting ≡ true → (after e w t).waiting ≡ true
    → (after e w t ≡ before w t)
    ⊎ ((c : Call) × (e ≡ CallEvent c) × (elem t (moved_by (command_of c.op) c w) ≡ true) × (after e w t ≡ moved_to c.uaddr2 (before w t)))
    ⊎ PrioritySet e w t
slept_on e w t on still = Fates.sleeps_on e w t on still (fate e w t)

pub ran_on : (e : Event) (w : World) (t : ℕ) → (before w t).waiting ≡ false → (after e w t).waiting ≡ false → (after e w t ≡ before w t) ⊎ PrioritySet e w t
ran_on e w t off still = Fates.runs_on e w t off still (fate e w t)

pub records_read : (e : Event) (w : World) (t : ℕ)
    → (before w t ≡ thread_of w.state t) × (after e w t ≡ thread_of (step e w).world.state t)
records_read e w t = (refl, refl)

-- Asleep at an address, there throughout a history, and there since an event of it.
pub asleep_there_lem : (t a : ℕ) (w : World) → (asleep_there t a w ≡ true) ↔ (((thread_of w.state t).waiting ≡ true) × ((thread_of w.state t).uaddr ≡ a))
asleep_there_lem t a w =
    let r = thread_of w.state t in (
      (λ h. (and_left r.waiting (eqb r.uaddr a) h, eqb-true r.uaddr a (and_right r.waiting (eqb r.uaddr a) h))),
      (λ h. and_intro h.0 (eq-eqb r.uaddr a h.1)),
    )

pub slept_exactly : (t a : ℕ) (h : List Event) (w : World)
    → (slept_through t a h w ≡ true) ↔ ((n : ℕ) → asleep_there t a (final (take n h) w) ≡ true)
slept_exactly t a h w = (Slept.slept_at t a h w, Slept.at_slept t a h w)

-- Who enters called a wait that sleeps and saw its number there, or slept at the first word of a requeue that was answered a count;
-- and it sleeps there afterwards.
pub entered_by : (t a : ℕ) (e : Event) (w : World) → Enters t a e w
    → ((c : Call) × (e ≡ CallEvent c) × (t ≡ caller c) × (c.uaddr ≡ a) × ((step e w).answer ≡ Asleep) × (word_at w c.process a ≡ c.val))
    ⊎ ((c : Call) × (n : ℕ) × (e ≡ CallEvent c) × ((step e w).answer ≡ Count n) × (c.process ≡ process_of t) × (c.uaddr2 ≡ a) × (asleep_there t c.uaddr w ≡ true))
entered_by = Slept.entered_by

pub entered_asleep : (t a : ℕ) (e : Event) (w : World) → Enters t a e w → asleep_there t a (step e w).world ≡ true
entered_asleep = Slept.entered_asleep

pub since_exactly : (t a : ℕ) (h : List Event) (w : World)
    → Since t a h w
    ↔ ((earlier : List Event) × (entry : Event) × (later : List Event) × (h ≡ earlier ++ entry ∷ later) × Enters t a entry (final earlier w)
    × ((n : ℕ) → asleep_there t a (final (take n later) (step entry (final earlier w)).world) ≡ true))
since_exactly t a h w = (
  (λ s. (s.earlier, s.entry, s.later, s.split, s.entered, Slept.slept_at t a s.later _ s.slept)),
  (λ s. record {
    earlier = s.0;
    entry = s.1;
    later = s.2;
    split = s.3;
    entered = s.4;
    slept = Slept.at_slept t a s.2 (step s.1 (final s.0 w)).world s.5;
  }),
)

pub since_asleep : (t a : ℕ) (h : List Event) (w : World) → Since t a h w → asleep_there t a (final h w) ≡ true
since_asleep = Slept.since_asleep

-- Isolation: worlds are alike for a process where three lists are equal: its words, its records and its sleepers in their order.
pub alike_exactly : (p : ℕ) (u v : World) → length u.words ≡ length v.words → length u.state.threads ≡ length v.state.threads
    → Alike p u v
    ↔ ((take words_per_process (drop (words_per_process * p) u.words) ≡ take words_per_process (drop (words_per_process * p) v.words))
    × (take threads_per_process (drop (threads_per_process * p) u.state.threads) ≡ take threads_per_process (drop (threads_per_process * p) v.state.threads))
    × (filter (λ t. eqb (t / threads_per_process) p) (arrivals u.state) ≡ filter (λ t. eqb (t / threads_per_process) p) (arrivals v.state)))
alike_exactly = Alike'.alike_exactly

-- In worlds that are alike for a process, at one time, its next event is answered the same; that event or the clock leaves worlds that are
-- alike for it, at one time; and every other event leaves each alike to what it was.
pub alike_next : (p : ℕ) (u v : World) → length u.words ≡ memory_words → tables_ok u.state ≡ true → length v.words ≡ memory_words → tables_ok v.state ≡ true
    → u.state.clock ≡ v.state.clock → Alike p u v → (e : Event)
    → (belongs p e ≡ true → (step e u).answer ≡ (step e v).answer)
    × ((belongs p e || is_clock e) ≡ true → ((step e u).world.state.clock ≡ (step e v).world.state.clock) × Alike p (step e u).world (step e v).world)
    × ((belongs p e || is_clock e) ≡ false → Alike p (step e u).world u)
alike_next p u v lu ou lv ov time same e =
    let g : Valid u = record { memory = lu; sound = tables_sound u.state ou } in
    let h : Valid v = record { memory = lv; sound = tables_sound v.state ov } in (
      Alike'.alike_own p u v g h time same e,
      (λ k. Alike'.alike_kept p u v g h time same e (Histories.kept_is p e ∙ k)),
      (λ k. Alike'.alike_other p e u (Histories.kept_is p e ∙ k)),
    )

-- The tables of cases: what stands in them is what the rules give, and not what is expected.
pub case_given : (r : Case) → let w = start (replicate memory_words 0) in let v = final r.happens w in
    given r
    ≡ record {
      happens = r.happens;
      answers = map answer_numbers (answers r.happens w);
      sleep = sleepers v.state;
      ended = ended_from 0 v.state.threads;
      word = word_at v 0 8;
    }
case_given r = refl

pub prioritised_given : (r : Prioritised) → let w = start (replicate memory_words 0) in
    prioritised_as r
    ≡ record { happens = r.happens; answers = map answer_numbers (answers r.happens w); priorities = ranked_from 0 (final r.happens w).state.threads }
prioritised_given r = refl

pub choice_given : (r : Choice) → let w = final r.happens (start (replicate memory_words 0)) in
    chosen_as r
    ≡ record { happens = r.happens; call = r.call; now = sleep_on (step r.call w); before = sleep_on (step_by_arrival r.call w) }
choice_given r = refl

pub sleep_on_lem : (o : Outcome)
    → sleep_on o ≡ (answer_numbers o.answer, map (λ t. (t, (thread_of o.world.state t).uaddr)) (arrivals o.world.state))
sleep_on_lem o = refl

pub share_given : (s : Share) → let w = start (replicate memory_words 0) in
    share_of s ≡ record { process = s.process; kept = kept_for s.process mixed; answers = map answer_numbers (answers_to s.process mixed w) }
share_given s = refl

pub reasoned_given : (r : Reasoned) → let a = (step r.event (step (Clock 5) (start (replicate memory_words 0))).world).answer in
    reasoned_as r ≡ record { event = r.event; numbers = answer_numbers a; reason = reason_number (reason_of a) }
reasoned_given r = refl

pub unsound_given_lem : (u : Unsound) → unsound_given u ≡ record { world = u.world; answers = map answer_numbers (answers each u.world) }
unsound_given_lem u = refl

pub compared_given : (r : Compared)
    → compared_as r
    ≡ record {
      cmparg = r.cmparg;
      old = r.old;
      now = map (λ cmp. compares (val3_of 0 (pos 0) cmp r.cmparg) r.old) (0 ∷ 1 ∷ 2 ∷ 3 ∷ 4 ∷ 5 ∷ []);
      before = map (λ cmp. compares_unsigned (val3_of 0 (pos 0) cmp r.cmparg) r.old) (0 ∷ 1 ∷ 2 ∷ 3 ∷ 4 ∷ 5 ∷ []);
    }
compared_given r = refl

pub stored_given : (r : Stored) → let v = val3_of r.op r.oparg 0 (pos 0) in
    stored_as r ≡ record { op = r.op; oparg = r.oparg; old = r.old; now = new_word v r.old; before = new_word_unsigned v r.old }
stored_given r = refl

pub called_given : (r : Called) → let w = final asleep_at_minus_one (start (replicate memory_words 0)) in
    let o = step (wake_op_at r.val3) w in
    let b = step_unsigned (wake_op_at r.val3) w in
    called_as r
    ≡ record {
      val3 = r.val3;
      now = (answer_numbers o.answer, word_at o.world 0 8);
      before = (answer_numbers b.answer, word_at b.world 0 8);
    }
called_given r = refl
