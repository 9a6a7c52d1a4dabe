-- What a C host gets: the rules' answers as numbers, and every byte of tables and words afterwards.
use Rattle.std.specs.Prelude.{◌≡◌, cond, List, [], ◌∷◌, ◌++◌, ℕ, ◌+◌, ◌*◌, ◌^◌, ◌≤◌, ◌<◌, ℤ, pos, neg_ℤ, length, take, drop, eqb, Option, None, Result, Ok, Err}
use Rattle.tables.specs.declared.State.{State}
use Rattle.rules.specs.declared.event.Call.{Call}
use Rattle.rules.specs.declared.event.Event.{Event}
use Rattle.rules.specs.declared.event.Event.TheVariants.{Call as CallEvent, Store, Clock, Interrupt, Query, SetPriority}
use Rattle.rules.specs.declared.answer.Answer.{Answer}
use Rattle.rules.specs.declared.answer.Answer.TheVariants.{Asleep, Count, Refused, Waiting}
use Rattle.rules.specs.declared.answer.Errno.TheVariants.{EBADF}
use Rattle.rules.specs.declared.answer.Reason.{Reason}
use Rattle.rules.specs.declared.answer.Refusal.{Refusal}
use Rattle.rules.specs.declared.answer.Panel.{Panel}
use Rattle.tables.specs.Sizes.{word_limit, time_limit}
use Rattle.tables.specs.Tables.{World, world, fresh, arrivals}
use Rattle.tables.specs.Steps.{Places}
use Rattle.rules.specs.Answers.{plain, first, Outcome, is_refused, errno_number, reason_number, reason_of, asleep_number}
use Rattle.rules.specs.Calls.{first_rows}
use Rattle.rules.specs.Events.{step, panel}
use Rattle.layout.specs.Layout.{tables_at, tables_bytes, tables_size, state_at, words_at, words_bytes, memory_size}
use Rattle.layout.specs.Check.{Held}
use Rattle.plans.specs.declared.Take.{Take}
use Rattle.plans.specs.Ready.{Granted}
use Rattle.plans.specs.Plans.{written}

-- the tables and the words that the bytes stand for
abbrev pub seen : List ℕ → List ℕ → World
seen tables words = world (tables_at tables) (words_at words)

-- a refusal leaves every byte; else they are the bytes of the tables and of the words that the rules leave
abbrev pub tables_left : Outcome → List ℕ → List ℕ
tables_left o tables = cond (is_refused o.answer) tables (tables_bytes o.world.state)

abbrev pub words_left : Outcome → List ℕ → List ℕ
words_left o words = cond (is_refused o.answer) words (words_bytes o.world.words)

-- the three numbers of a panel query in one: the waiting set in the lowest byte, the count in the second, the lowest thread above
abbrev pub count_unit : ℕ
count_unit = 2 ^ 8

abbrev pub lowest_unit : ℕ
lowest_unit = 2 ^ 16

abbrev pub packed : Panel → ℕ
packed v = v.waiting + count_unit * v.count + lowest_unit * v.lowest

-- The one number that an answer is to a host: "a count, or the error number negated"; "There "asleep" is 2147483647".
abbrev pub host_number : Answer → ℤ
host_number Asleep = pos asleep_number
host_number (Count n) = pos n
host_number (Refused x) = neg_ℤ (pos (errno_number x.errno))
host_number (Waiting v) = pos (packed v)

-- What an event tells beside its number, byte by byte: the reason.
abbrev pub report_bytes : Answer → List ℕ
report_bytes a = reason_number (reason_of a) ∷ []

abbrev pub report_size : ℕ
report_size = 1

-- A report laid over the bytes that a host lends for it: as much of it as has room there, and the bytes behind it as they were.
abbrev pub laid_over : List ℕ → List ℕ → List ℕ
laid_over report lent = take (length lent) report ++ drop (length report) lent

-- Each argument fits its type in C: uint8_t, uint32_t, uint64_t.
abbrev pub byte_limit : ℕ
byte_limit = 2 ^ 8

pub record CallFits (c : Call) : Type 0 where
  pub process : c.process < byte_limit
  pub index : c.index < byte_limit
  pub op : c.op < word_limit
  pub uaddr : c.uaddr < word_limit
  pub val : c.val < word_limit
  pub flag : c.flag < byte_limit
  pub timeout : c.timeout < time_limit
  pub uaddr2 : c.uaddr2 < word_limit
  pub val3 : c.val3 < word_limit

abbrev pub EventFits : Event → Type 0
EventFits (CallEvent c) = CallFits c
EventFits (Store p a v) = (p < byte_limit) × (a < word_limit) × (v < word_limit)
EventFits (Clock now) = now < time_limit
EventFits (Interrupt p i) = (p < byte_limit) × (i < byte_limit)
EventFits (Query p) = p < byte_limit
EventFits (SetPriority p i n) = (p < byte_limit) × (i < byte_limit) × (n < byte_limit)

-- What the entry points ensure: the number, every byte that they may change, the bytes `lent` for a report among them, and, since no other
-- event can be passed to them, that the event's arguments fit their types. One that is lent no bytes for a report ensures it of none.

-- An event that may change the tables, with words that are only read.
pub record ChangesTables (e : Event) (tables words lent : List ℕ) (r : ℤ) (after told : List ℕ) : Type 0 where
  pub number : r ≡ host_number (step e (seen tables words)).answer
  pub bytes : after ≡ tables_left (step e (seen tables words)) tables
  pub report : told ≡ laid_over (report_bytes (step e (seen tables words)).answer) lent
  pub fits : EventFits e

-- An event that may change a word, with tables that are only read.
pub record ChangesWords (e : Event) (tables words lent : List ℕ) (r : ℤ) (after told : List ℕ) : Type 0 where
  pub number : r ≡ host_number (step e (seen tables words)).answer
  pub bytes : after ≡ words_left (step e (seen tables words)) words
  pub report : told ≡ laid_over (report_bytes (step e (seen tables words)).answer) lent
  pub fits : EventFits e

-- A call, which may change both.
pub record Calls (c : Call) (b m lent : List ℕ) (r : ℤ) (bAfter mAfter told : List ℕ) : Type 0 where
  pub number : r ≡ host_number (step (CallEvent c) (seen b m)).answer
  pub tables : bAfter ≡ tables_left (step (CallEvent c) (seen b m)) b
  pub words : mAfter ≡ words_left (step (CallEvent c) (seen b m)) m
  pub report : told ≡ laid_over (report_bytes (step (CallEvent c) (seen b m)).answer) lent
  pub fits : CallFits c

-- A panel query, which changes nothing.
pub record Shows (p : ℕ) (tables : List ℕ) (n : ℕ) : Type 0 where
  pub number : n ≡ packed (panel p (tables_at tables))
  pub fits : EventFits (Query p)

-- fresh tables are laid down; of another length than the tables' they are refused as the tables would be
pub record Initialised (b : List ℕ) (r : ℤ) (after : List ℕ) : Type 0 where
  pub number : r ≡ host_number (cond (eqb (length b) tables_size) (Count 0) (Refused (plain EBADF)))
  pub bytes : after ≡ cond (eqb (length b) tables_size) (tables_bytes fresh) b

-- What the functions inside tell each other.

-- the number of an answer: a count, or a refusal
abbrev pub number_of : Result ℕ Refusal → ℤ
number_of (Ok n) = host_number (Count n)
number_of (Err x) = host_number (Refused x)

-- the reason of an answer, where it is a refusal that has one
abbrev pub reason_in : Result ℕ Refusal → Option Reason
reason_in (Ok n) = None
reason_in (Err x) = x.reason

-- What the function of an event answers, from which the entry points make a number and a report: the number that they ensure, and the reason.
pub record TablesTold (e : Event) (tables words : List ℕ) (r : Result ℕ Refusal) (after : List ℕ) : Type 0 where
  pub changes : ChangesTables e tables words [] (number_of r) after []
  pub reason : reason_in r ≡ reason_of (step e (seen tables words)).answer

pub record WordsTold (e : Event) (tables words : List ℕ) (r : Result ℕ Refusal) (after : List ℕ) : Type 0 where
  pub changes : ChangesWords e tables words [] (number_of r) after []
  pub reason : reason_in r ≡ reason_of (step e (seen tables words)).answer

pub record CallTold (c : Call) (b m : List ℕ) (r : Result ℕ Refusal) (bAfter mAfter : List ℕ) : Type 0 where
  pub changes : Calls c b m [] (number_of r) bAfter mAfter []
  pub reason : reason_in r ≡ reason_of (step (CallEvent c) (seen b m)).answer

-- whether rows refuse, without what they let through
abbrev pub verdict_of : {A : Type 0} → Result A Refusal → Result (Unit {0}) Refusal
verdict_of (Ok x) = Ok tt
verdict_of (Err x) = Err x

-- the first two rows of every event but the panel query, and what it means to pass them
pub record BuffersJudged (tables words : List ℕ) (l : Result (List ℕ) Refusal) : Type 0 where
  pub verdict : verdict_of l ≡ first (first_rows (seen tables words))
  pub held : verdict_of l ≡ Ok tt → Held tables
  pub long : verdict_of l ≡ Ok tt → length words ≡ memory_size
  pub places : (place : List ℕ) → l ≡ Ok place → Places place (arrivals (state_at tables))

-- a call on tables that keep the rules, which no row refuses
pub record Passed (c : Call) (tables words place : List ℕ) : Type 0 where
  pub held : Held tables
  pub long : length words ≡ memory_size
  pub granted : Granted c (state_at tables) (words_at words)
  pub places : Places place (arrivals (state_at tables))

-- the word that a plan writes, on the words' bytes
abbrev pub PutWord : Call → Take → List ℕ → List ℕ → Type 0
PutWord c d before after = (s : State) → after ≡ words_bytes (written c d (world s (words_at before))).words

-- an answer and the tables that go with it, as a number and bytes
pub record Done (a : Answer) (s : State) (n : ℕ) (after : List ℕ) : Type 0 where
  pub number : pos n ≡ host_number a
  -- it fits a signed 32-bit number, of which "asleep" is the largest
  pub small : n ≤ asleep_number
  pub bytes : after ≡ tables_bytes s

abbrev pub Leaves : Outcome → ℕ → List ℕ → Type 0
Leaves o n after = Done o.answer o.world.state n after
