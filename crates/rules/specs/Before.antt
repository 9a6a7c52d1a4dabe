-- The rules before each request that changed them: those that hold now, with the one thing that the request changed as it was. They stand here
-- for the comparisons with the rules that hold now (proofs/Theorems.antt), and nothing else uses them.
use Rattle.std.specs.Prelude.{◌≡◌, Bool, true, false, not, cond, ◌&&◌, ◌||◌, List, [], ◌∷◌, ◌++◌, map, ℕ, ◌%◌, ◌^◌, ◌<◌, length, eqb, leb, ltb, ℤ, pos, neg_ℤ}
use Rattle.tables.specs.declared.State.{State}
use Rattle.rules.specs.declared.event.Command.{Command}
use Rattle.rules.specs.declared.event.Call.{Call}
use Rattle.rules.specs.declared.event.Event.{Event}
use Rattle.rules.specs.declared.answer.Errno.TheVariants.{EINVAL}
use Rattle.rules.specs.declared.answer.Answer.{Answer}
use Rattle.rules.specs.declared.answer.Answer.TheVariants.{Asleep, Count, Refused, Waiting}
use Rattle.tables.specs.Editions.{by_arrival, Edition, edition, present}
use Rattle.tables.specs.Sizes.{threads, word_bits}
use Rattle.tables.specs.Tables.{WorldIn, World, thread_of, word_at}
use Rattle.rules.specs.Answers.{answer_numbers, Row, plain, ◌when◌, by_rows, first, OutcomeIn, Outcome, outcome, judged}
use Rattle.rules.specs.Commands.{command_of}
use Rattle.rules.specs.Signed.{negative}
use Rattle.rules.specs.WakeOp.{arg_bits, cmp_field, op_arg_field, cmp_arg_field, is_power, op_code, operate, compare_by}
use Rattle.rules.specs.Calls.{first_rows, caller, bad_argument, is_wake_op, table_with, old_word, second_by, wake_op_by}
use Rattle.rules.specs.Events.{own_rows, is_query, of_call, refusals, effect, step}

-- Before request (i): document 01's one row for -22, and no reason beside any error.

abbrev pub row_without_reason : Row → Row
row_without_reason r = r.refusal.errno when r.applies

abbrev pub own_rows_without_reasons : Event → World → List Row
own_rows_without_reasons e w = of_call
    (λ c. table_with present (EINVAL when bad_argument (command_of c.op) c ∷ []) c (thread_of w.state (caller c)).waiting w.state.clock (word_at w c.process c.uaddr))
    (map row_without_reason (own_rows e w)) e

unfoldable pub refusals_without_reasons : Event → World → List Row
refusals_without_reasons e w = cond (is_query e) [] (first_rows w ++ own_rows_without_reasons e w)

unfoldable pub step_without_reasons : Event → World → Outcome
step_without_reasons e w = judged (first (refusals_without_reasons e w)) (effect e w) w

-- an answer, its reason taken away
abbrev pub without_reason : Answer → Answer
without_reason Asleep = Asleep
without_reason (Count n) = Count n
without_reason (Refused x) = Refused (plain x.errno)
without_reason (Waiting v) = Waiting v

-- Before request (ii): document 01's WAKE_OP, "oparg and cmparg are 0 to 4095 and comparisons are unsigned".

abbrev pub operand_unsigned : ℕ → ℕ
operand_unsigned v = cond (is_power v) (2 ^ (op_arg_field v % word_bits)) (op_arg_field v)

abbrev pub new_word_unsigned : ℕ → ℕ → ℕ
new_word_unsigned v old = operate (op_code v) (operand_unsigned v) old

abbrev pub compares_unsigned : ℕ → ℕ → Bool
compares_unsigned v old = compare_by eqb ltb (cmp_field v) old (cmp_arg_field v)

abbrev pub wake_op_unsigned : Command → Call → World → Outcome
wake_op_unsigned k c w = wake_op_by (new_word_unsigned c.val3 (old_word c w)) (second_by compares_unsigned k c w) k c w

abbrev pub effect_unsigned : Event → World → Outcome
effect_unsigned e w = of_call (λ c. let k = command_of c.op in cond (is_wake_op k) (wake_op_unsigned k c w) (effect e w)) (effect e w) e

unfoldable pub step_unsigned : Event → World → Outcome
step_unsigned e w = judged (first (refusals e w)) (effect_unsigned e w) w

-- an event that is no WAKE_OP, or one none of whose numbers is negative now: oparg and cmparg are below 2048 and the old word below 2^31; "The
-- power-of-two operand is still 2 to the power (oparg mod 32)", whatever oparg
abbrev pub none_negative : Event → World → Bool
none_negative e w = of_call
    (λ c.
    not (is_wake_op (command_of c.op))
    || (is_power c.val3 || not (negative arg_bits (op_arg_field c.val3)))
    && not (negative arg_bits (cmp_arg_field c.val3))
    && not (negative word_bits (old_word c w)))
    true e

-- Before request (iii): a call had one more row, the last of document 01's table, answered -12. No refusal has that error now, so what was answered
-- then is an answer that there still is, or -12.

pub data AnswerWith12 : Type 0 where
  other : Answer → AnswerWith12
  minus12 : AnswerWith12

abbrev pub numbers_with12 : AnswerWith12 → List ℤ
numbers_with12 (other a) = answer_numbers a
numbers_with12 minus12 = neg_ℤ (pos 12) ∷ []

pub record OutcomeWith12 : Type 0 where
  pub answer : AnswerWith12
  pub world : World

-- an outcome by the rules that hold now, as one of then
abbrev pub as_with12 : Outcome → OutcomeWith12
as_with12 o = record { answer = other o.answer; world = o.world }

-- "the arrival list already holds 64", asked of calls alone
abbrev pub full : Event → World → Bool
full e w = of_call (λ c. leb threads w.state.count) false e

-- A table of answers with the row for -12 below its rows: the first that applies answers, and "leaves words, records, list and clock unchanged".
unfoldable pub judged_with12 : List Row → Bool → Outcome → World → OutcomeWith12
judged_with12 rows applies o w =
    by_rows (λ x. as_with12 (outcome (Refused x) w)) rows (cond applies (record { answer = minus12; world = w }) (as_with12 o))

unfoldable pub step_with12 : Event → World → OutcomeWith12
step_with12 e w = judged_with12 (refusals e w) (full e w) (effect e w) w

-- Before request (vii): a wake or requeue took the matching sleepers in list order, whatever their priorities. That is another edition of the rules.

abbrev pub taken_by_arrival : Edition → Edition
taken_by_arrival ed = edition ed.per_process by_arrival

-- the same tables and words, under that edition
abbrev pub under_arrival : {ed : Edition} → WorldIn ed → WorldIn (taken_by_arrival ed)
under_arrival w = record { state = w.state; words = w.words }

-- what they leave, as an outcome of the edition that is compared
abbrev pub back_to : (ed : Edition) → OutcomeIn (taken_by_arrival ed) → OutcomeIn ed
back_to ed o = outcome o.answer (record { state = o.world.state; words = o.world.words })

unfoldable pub step_by_arrival : {ed : Edition} → Event → WorldIn ed → OutcomeIn ed
step_by_arrival {ed} e w = back_to ed (step e (under_arrival w))

-- "tables whose priorities are all equal"
abbrev pub Level : State → Type 0
Level s = (t u : ℕ) → t < length s.threads → u < length s.threads → (thread_of s t).priority ≡ (thread_of s u).priority
