-- "Answers by number": the paper's numbers, and how its table of answers is read.
use Rattle.std.specs.Prelude.{Bool, true, false, cond, List, [], ◌∷◌, ℕ, eqb, ℤ, pos, negsuc, neg_ℤ, Option, Some, None, Result, Ok, Err}
use Rattle.tables.specs.declared.LastAnswer.{LastAnswer}
use Rattle.tables.specs.declared.LastAnswer.TheVariants.{NoneYet, Woken, TimedOut, Interrupted}
use Rattle.rules.specs.declared.answer.Errno.{Errno}
use Rattle.rules.specs.declared.answer.Errno.TheVariants.{ENXIO, EBADF, ESRCH, EBUSY, ENOSYS, EINVAL, EFAULT, EAGAIN, ETIMEDOUT}
use Rattle.rules.specs.declared.answer.Reason.{Reason}
use Rattle.rules.specs.declared.answer.Reason.TheVariants.{FirstCap, SecondCap, MaskZero, UaddrUnaligned, Uaddr2Unaligned, SameAddress, ClockBack, PriorityHigh}
use Rattle.rules.specs.declared.answer.Refusal.{Refusal}
use Rattle.rules.specs.declared.answer.Answer.{Answer}
use Rattle.rules.specs.declared.answer.Answer.TheVariants.{Asleep, Count, Refused, Waiting}
use Rattle.rules.specs.declared.answer.Answered.{Answered}
use Rattle.tables.specs.Editions.{Edition, present}
use Rattle.tables.specs.Tables.{WorldIn}

-- "Numbers are those of the Linux headers."
abbrev pub errno_number : Errno → ℕ
errno_number ENXIO = 6
errno_number EBADF = 9
errno_number ESRCH = 3
errno_number EBUSY = 16
errno_number ENOSYS = 38
errno_number EINVAL = 22
errno_number EFAULT = 14
errno_number EAGAIN = 11
errno_number ETIMEDOUT = 110

-- "1 first cap, 2 second cap, 3 mask zero, 4 uaddr not aligned (also a store's address), 5 uaddr2 not aligned, 6 same address twice,
-- 7 clock went back; 0 with every other answer"; "-22 if above 31 (reason 8)"
abbrev pub reason_number : Option Reason → ℕ
reason_number None = 0
reason_number (Some FirstCap) = 1
reason_number (Some SecondCap) = 2
reason_number (Some MaskZero) = 3
reason_number (Some UaddrUnaligned) = 4
reason_number (Some Uaddr2Unaligned) = 5
reason_number (Some SameAddress) = 6
reason_number (Some ClockBack) = 7
reason_number (Some PriorityHigh) = 8

-- To a host, "asleep" is this number.
abbrev pub asleep_number : ℕ
asleep_number = 2147483647

-- "A call answers "asleep" or one signed 32-bit number: a count, or the error number negated"; a panel query gives three.
abbrev pub answer_numbers : Answer → List ℤ
answer_numbers Asleep = pos asleep_number ∷ []
answer_numbers (Count n) = pos n ∷ []
answer_numbers (Refused x) = neg_ℤ (pos (errno_number x.errno)) ∷ []
answer_numbers (Waiting v) = pos v.waiting ∷ pos v.count ∷ pos v.lowest ∷ []

-- "Beside the number, give a reason"
abbrev pub reason_of : Answer → Option Reason
reason_of Asleep = None
reason_of (Count n) = None
reason_of (Refused x) = x.reason
reason_of (Waiting v) = None

-- the number that has a reason beside it, -22
abbrev pub is_minus22 : ℤ → Bool
is_minus22 (pos n) = false
is_minus22 (negsuc n) = eqb n 21

-- "The last answer is 1 until a sleep ends, then 0 (woken), -110 or -4."
abbrev pub last_number : LastAnswer → ℤ
last_number NoneYet = pos 1
last_number Woken = pos 0
last_number TimedOut = neg_ℤ (pos (errno_number ETIMEDOUT))
last_number Interrupted = neg_ℤ (pos 4)

-- A row of the table of answers: the error with its reason, and whether what it is given for applies.
pub record Row : Type 0 where
  pub refusal : Refusal
  pub applies : Bool

infix 80 ◌because◌
abbrev pub ◌because◌ : Errno → Reason → Refusal
x because r = record { errno = x; reason = Some r }

-- an error that has no reason beside it: "0 with every other answer"
abbrev pub plain : Errno → Refusal
plain x = record { errno = x; reason = None }

infix 70 ◌given◌
abbrev pub ◌given◌ : Refusal → Bool → Row
x given b = record { refusal = x; applies = b }

infix 70 ◌when◌
abbrev pub ◌when◌ : Errno → Bool → Row
x when b = plain x given b

-- "Tests come in this order; the first that applies answers": what is given for its refusal, and what stands below where none applies.
abbrev pub by_rows {ℓ} : {A : Type ℓ} → (Refusal → A) → List Row → A → A
by_rows f [] below = below
by_rows f (r ∷ rs) below = cond r.applies (f r.refusal) (by_rows f rs below)

abbrev pub first : List Row → Result (Unit {0}) Refusal
first rs = by_rows Err rs (Ok tt)

-- the reason of the first that applies
abbrev pub reason_among : List Row → Option Reason
reason_among rs = by_rows (λ x. x.reason) rs None

-- What an event leaves: its answer, and the tables and words.
pub record OutcomeIn (ed : Edition) : Type 0 where
  pub answer : Answer
  pub world : WorldIn ed

abbrev pub Outcome : Type 0
Outcome = OutcomeIn present

abbrev pub outcome : {ed : Edition} → Answer → WorldIn ed → OutcomeIn ed
outcome a w = record { answer = a; world = w }

-- an answer that refuses
abbrev pub is_refused : Answer → Bool
is_refused Asleep = false
is_refused (Count n) = false
is_refused (Refused x) = true
is_refused (Waiting v) = false

-- what the code hands back of it; the words it changes where they lie
abbrev pub answered : {ed : Edition} → OutcomeIn ed → Answered
answered o = record { answer = o.answer; state = o.world.state }

-- "Each of these leaves words, records, list and clock unchanged"
abbrev pub judged : {ed : Edition} → Result (Unit {0}) Refusal → OutcomeIn ed → WorldIn ed → OutcomeIn ed
judged (Err x) o w = outcome (Refused x) w
judged (Ok u) o w = o
