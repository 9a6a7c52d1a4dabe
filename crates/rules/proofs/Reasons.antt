-- Reasons: the lowest that applies is given, with -22 and with no other answer.
use mathlib.Core.Path.{◌≡◌, refl, sym, ap, ◌∙◌, subst}
use mathlib.Core.Bool.{Bool, true, false, not, cond, beq, ◌&&◌}
use mathlib.Core.List.{List, [], ◌∷◌}
use mathlib.Core.Logic.{◌↔◌}
use Prim.Native.Nat.{ℕ, ◌≤◌, ◌<◌, ◌%◌}
use native.Mathlib.Omega.{arith}
use lib.Dec.{eqb, ltb}
use lib.IntN.{ℤ, pos, negsuc, neg_ℤ}
use borrow.Author.Tests.{ltb-true, ltb-false, lt-ltb, eqb-true, eqb-false, eq-eqb, ne_eqb, not-true, not-false}
use Rattle.std.proofs.lemmas.Option.{none-some}
use Rattle.lists.specs.Lists.{filter, all}
use Rattle.lists.proofs.Tests.{cases, clash, and_intro, and_left, and_right, beq_true}
use Rattle.rules.specs.declared.event.Call.{Call}
use Rattle.rules.specs.declared.event.Event.{Event}
use Rattle.rules.specs.declared.event.Event.TheVariants.{Call as CallEvent, Store, Clock, Interrupt, Query, SetPriority}
use Rattle.rules.specs.declared.answer.Errno.{Errno}
use Rattle.rules.specs.declared.answer.Errno.TheVariants.{ENXIO, EBADF, ESRCH, EBUSY, ENOSYS, EINVAL, EFAULT, EAGAIN, ETIMEDOUT}
use Rattle.rules.specs.declared.answer.Reason.{Reason}
use Rattle.rules.specs.declared.answer.Reason.TheVariants.{FirstCap, SecondCap, MaskZero, UaddrUnaligned, Uaddr2Unaligned, SameAddress, ClockBack, PriorityHigh}
use Rattle.rules.specs.declared.answer.Refusal.{Refusal}
use Rattle.std.specs.Prelude.{Option, Some, None, Err, IsSomeAnd}
use Rattle.rules.specs.declared.answer.Answer.{Answer}
use Rattle.rules.specs.declared.answer.Answer.TheVariants.{Asleep, Count, Refused, Waiting}
use Rattle.tables.specs.Sizes.{word_bytes, word_limit, max_cap, max_priority}
use Rattle.tables.specs.Tables.{World, aligned}
use Rattle.rules.specs.Answers.{Row, errno_number, reason_number, reason_of, answer_numbers, is_minus22, first, reason_among, is_refused}
use Rattle.rules.specs.Commands.{command_of, uses}
use Rattle.rules.specs.Calls.{argument_rows, rows_in}
use Rattle.rules.specs.Events.{refusals, effect, step}
use Rattle.rules.specs.Claims.{Fault, first_cap, second_cap, mask_zero, uaddr_unaligned, address_unaligned, uaddr2_unaligned, same_address, clock_back, priority_high}
use Rattle.rules.proofs.Rows.{not_pass, rows_refused, ◌and◌, verdicts, step_refused, step_clear}
use Rattle.rules.proofs.Refused.{granted, refused_row, refusal_of}

-- a row of the table
data In : Row → List Row → Type 0 where
  at : {r : Row} {rs : List Row} → In r (r ∷ rs)
  behind : {r q : Row} {rs : List Row} → In r rs → In r (q ∷ rs)

-- what each row that applies tells of its reason
abbrev Each : (Option Reason → Type 0) → List Row → Type 0
Each P [] = Unit {0}
Each P (r ∷ rs) = (r.applies ≡ true → P r.refusal.reason) × Each P rs

first_tells : (P : Option Reason → Type 0) (rs : List Row) → Each P rs → (x : Refusal) → first rs ≡ Err x → P x.reason
first_tells P [] h x f = not_pass (sym f)
first_tells P (r ∷ rs) h x f = cases r.applies
    (λ e. let same : r.refusal ≡ x = cc in subst (λ y. P y.reason) same (h.0 e))
    (λ e. first_tells P rs h.1 x (cc))

-- Rows whose reasons rise: of those that apply, the first has the lowest.
abbrev Rising : ℕ → List Row → Type 0
Rising n [] = Unit {0}
Rising n (r ∷ rs) = (n ≤ reason_number r.refusal.reason) × Rising (reason_number r.refusal.reason) rs

rising_all : (n : ℕ) (rs : List Row) → Rising n rs → (r : Row) → In r rs → n ≤ reason_number r.refusal.reason
rising_all n [] h r i = elim i [ ]
rising_all n (r ∷ rs) h _ at = h.0
rising_all n (q ∷ rs) h r (behind i) = let rest = rising_all _ rs h.1 r i in omega (arith, h.0, rest)

lowest : (n : ℕ) (rs : List Row) (x : Refusal) → Rising n rs → first rs ≡ Err x → (r : Row) → In r rs → r.applies ≡ true
    → reason_number x.reason ≤ reason_number r.refusal.reason
lowest n [] x h f r i on = elim i [ ]
lowest n (r ∷ rs) x h f _ at on = let same : r.refusal ≡ x = cc in rw (sym same) (omega arith)
lowest n (q ∷ rs) x h f r (behind i) on = cases q.applies
    (λ e. let same : q.refusal ≡ x = cc in rw (sym same) (rising_all _ rs h.1 r i))
    (λ e. lowest _ rs x h.1 (cc) r i on)

-- The rows for -22 of an event.
abbrev pub is_invalid : Errno → Bool
is_invalid ENXIO = false
is_invalid EBADF = false
is_invalid ESRCH = false
is_invalid EBUSY = false
is_invalid ENOSYS = false
is_invalid EINVAL = true
is_invalid EFAULT = false
is_invalid EAGAIN = false
is_invalid ETIMEDOUT = false

abbrev invalid : List Row → List Row
invalid rs = filter (λ r. is_invalid r.refusal.errno) rs

first_invalid : (rs : List Row) (x : Refusal) → first rs ≡ Err x → is_invalid x.errno ≡ true → first (invalid rs) ≡ Err x
first_invalid [] x h is = not_pass (sym h)
first_invalid (r ∷ rs) x h is = cases r.applies
    (λ e. let same : r.refusal ≡ x = cc in let on : is_invalid r.refusal.errno ≡ true = cc in rw (on, e, same))
    (λ e. let rest = first_invalid rs x (cc) is in cases (is_invalid r.refusal.errno) (λ d. rw (d, e, rest)) (λ d. rw (d, rest)))

-- a reason stands beside -22, and beside no other error
abbrev has_reason : Option Reason → Bool
has_reason r = not (eqb (reason_number r) 0)

abbrev fitting : Row → Bool
fitting r = beq (has_reason r.refusal.reason) (is_invalid r.refusal.errno)

table_fitting : (e : Event) (w : World) → all fitting (refusals e w) ≡ true
unfolding refusals rows_in argument_rows
table_fitting (CallEvent c) w = refl
table_fitting (Store p a v) w = refl
table_fitting (Clock now) w = refl
table_fitting (Interrupt p i) w = refl
table_fitting (Query p) w = refl
table_fitting (SetPriority p i n) w = refl

table_rising : (e : Event) (w : World) → Rising 1 (invalid (refusals e w))
unfolding refusals rows_in argument_rows
table_rising (CallEvent c) w = omega arith and omega arith and omega arith and omega arith and omega arith and omega arith and tt
table_rising (Store p a v) w = omega arith and tt
table_rising (Clock now) w = omega arith and tt
table_rising (Interrupt p i) w = tt
table_rising (Query p) w = tt
table_rising (SetPriority p i n) w = omega arith and tt

-- each of them tests for a fault of the event
by_both : {P : Type 0} (a b : Bool) → (a ≡ true → b ≡ true → P) → (a && b) ≡ true → P
by_both a b f h = f (and_left a b h) (and_right a b h)

each_fault : (e : Event) (w : World) → Each (λ q. IsSomeAnd q (λ r. Fault w r e)) (invalid (refusals e w))
unfolding refusals rows_in argument_rows
each_fault (CallEvent c) w =
    by_both (uses (command_of c.op)).cap (ltb max_cap c.val) (λ on h. first_cap c on (ltb-true max_cap c.val h))
    and by_both (uses (command_of c.op)).second (ltb max_cap (c.timeout % word_limit)) (λ on h. second_cap c on (ltb-true max_cap (c.timeout % word_limit) h))
    and by_both (uses (command_of c.op)).mask (eqb c.val3 0) (λ on h. mask_zero c on (eqb-true c.val3 0 h))
    and (λ h. uaddr_unaligned c (eqb-false (c.uaddr % word_bytes) 0 (not-true _ h)))
    and by_both (uses (command_of c.op)).second (not (aligned c.uaddr2)) (λ on h. uaddr2_unaligned c on (eqb-false (c.uaddr2 % word_bytes) 0 (not-true _ h)))
    and by_both (uses (command_of c.op)).moves (eqb c.uaddr c.uaddr2) (λ on h. same_address c on (eqb-true c.uaddr c.uaddr2 h))
    and tt
each_fault (Store p a v) w = (λ h. address_unaligned p a v (eqb-false (a % word_bytes) 0 (not-true _ h))) and tt
each_fault (Clock now) w = (λ h. clock_back now (ltb-true now w.state.clock h)) and tt
each_fault (Interrupt p i) w = tt
each_fault (Query p) w = tt
each_fault (SetPriority p i n) w = (λ h. priority_high p i n (ltb-true max_priority n h)) and tt

fault_in : (e : Event) (w : World) (q : Reason) → Fault w q e → (r : Row) × In r (invalid (refusals e w)) × (r.refusal.reason ≡ Some q) × (r.applies ≡ true)
unfolding refusals rows_in argument_rows
fault_in _ w _ (first_cap c u l) = (_, at, refl, and_intro u (lt-ltb max_cap c.val l))
fault_in _ w _ (second_cap c u l) = (_, behind at, refl, and_intro u (lt-ltb max_cap (c.timeout % word_limit) l))
fault_in _ w _ (mask_zero c u z) = (_, behind (behind at), refl, and_intro u (eq-eqb c.val3 0 z))
fault_in _ w _ (uaddr_unaligned c n) = (_, behind (behind (behind at)), refl, ap not (ne_eqb (c.uaddr % word_bytes) 0 n))
fault_in _ w _ (uaddr2_unaligned c u n) = (_, behind (behind (behind (behind at))), refl, and_intro u (ap not (ne_eqb (c.uaddr2 % word_bytes) 0 n)))
fault_in _ w _ (same_address c u s) = (_, behind (behind (behind (behind (behind at)))), refl, and_intro u (eq-eqb c.uaddr c.uaddr2 s))
fault_in _ w _ (address_unaligned p a v n) = (_, at, refl, ap not (ne_eqb (a % word_bytes) 0 n))
fault_in _ w _ (clock_back now l) = (_, at, refl, lt-ltb now w.state.clock l)
fault_in _ w _ (priority_high p i n l) = (_, at, refl, lt-ltb max_priority n l)

-- Reasons by number: 0 is no reason, and no two have one number.
abbrev numbered : ℕ → Option Reason
numbered n =
    cond (eqb n 1) (Some FirstCap)
    (cond (eqb n 2) (Some SecondCap)
    (cond (eqb n 3) (Some MaskZero)
    (cond (eqb n 4) (Some UaddrUnaligned)
    (cond (eqb n 5) (Some Uaddr2Unaligned)
    (cond (eqb n 6) (Some SameAddress)
    (cond (eqb n 7) (Some ClockBack)
    (cond (eqb n 8) (Some PriorityHigh) None)))))))

number_back : (r : Option Reason) → numbered (reason_number r) ≡ r
number_back None = refl
number_back (Some FirstCap) = refl
number_back (Some SecondCap) = refl
number_back (Some MaskZero) = refl
number_back (Some UaddrUnaligned) = refl
number_back (Some Uaddr2Unaligned) = refl
number_back (Some SameAddress) = refl
number_back (Some ClockBack) = refl
number_back (Some PriorityHigh) = refl

same_reason : (q r : Option Reason) → reason_number q ≡ reason_number r → q ≡ r
same_reason q r h = sym (number_back q) ∙ ap numbered h ∙ number_back r

-- An answer is -22 where it refuses with EINVAL.
abbrev pub refuses22 : Answer → Bool
refuses22 Asleep = false
refuses22 (Count n) = false
refuses22 (Refused x) = is_invalid x.errno
refuses22 (Waiting v) = false

pub errno_22 : (x : Errno) → is_minus22 (neg_ℤ (pos (errno_number x))) ≡ is_invalid x
errno_22 ENXIO = refl
errno_22 EBADF = refl
errno_22 ESRCH = refl
errno_22 EBUSY = refl
errno_22 ENOSYS = refl
errno_22 EINVAL = refl
errno_22 EFAULT = refl
errno_22 EAGAIN = refl
errno_22 ETIMEDOUT = refl

only_22 : (z : ℤ) → is_minus22 z ≡ true → z ∷ [] ≡ neg_ℤ (pos 22) ∷ []
only_22 (pos n) h = clash true refl (sym h)
only_22 (negsuc n) h = ap (λ k. negsuc k ∷ []) (eqb-true n 21 h)

numbers_22 : (a : Answer) → answer_numbers a ≡ neg_ℤ (pos 22) ∷ [] → refuses22 a ≡ true
numbers_22 a h =
    let r = refusal_of a 21 h in
    rw r.1 (sym (errno_22 r.0.errno) ∙ ap (λ n. is_minus22 (neg_ℤ (pos n))) r.2)

minus_22 : (a : Answer) → refuses22 a ≡ true → answer_numbers a ≡ neg_ℤ (pos 22) ∷ []
minus_22 Asleep h = clash true refl (sym h)
minus_22 (Count n) h = clash true refl (sym h)
minus_22 (Refused x) h = only_22 (neg_ℤ (pos (errno_number x.errno))) (errno_22 x.errno ∙ h)
minus_22 (Waiting v) h = clash true refl (sym h)

-- Such an answer has a reason, and no other has one.
first_all : (f : Row → Bool) (rs : List Row) → all f rs ≡ true → (x : Refusal) → first rs ≡ Err x → (b : Bool) × (f (record { refusal = x; applies = b }) ≡ true)
first_all f [] h x r = not_pass (sym r)
first_all f (q ∷ rs) h x r = cases q.applies
    (λ e. let same : q.refusal ≡ x = cc in (q.applies, subst (λ y. f (record { refusal = y; applies = q.applies }) ≡ true) same (and_left _ (all f rs) h)))
    (λ e. first_all f rs (and_right (f q) _ h) x (cc))

not_refused : (a : Answer) → is_refused a ≡ false → has_reason (reason_of a) ≡ refuses22 a
not_refused Asleep h = refl
not_refused (Count n) h = refl
not_refused (Refused x) h = clash true refl h
not_refused (Waiting v) h = refl

reason_with_22 : (e : Event) (w : World) → has_reason (reason_of (step e w).answer) ≡ refuses22 (step e w).answer
reason_with_22 e w = verdicts e w
    (λ x r. rw (step_refused e w x r) (beq_true (has_reason x.reason) (is_invalid x.errno) (first_all fitting (refusals e w) (table_fitting e w) x r).1))
    (λ r. rw (step_clear e w r) (not_refused (effect e w).answer (granted e w r)))

pub reason_none : (e : Event) (w : World) → (reason_of (step e w).answer ≡ None) ↔ (answer_numbers (step e w).answer ≡ neg_ℤ (pos 22) ∷ [] → ⊥)
reason_none e w =
    let a = (step e w).answer in (
      (λ h n. clash (refuses22 a) (numbers_22 a n) (sym (reason_with_22 e w) ∙ ap has_reason h)),
      (λ h. cases (refuses22 a)
          (λ on. absurd (h (minus_22 a on)))
          (λ off. same_reason (reason_of a) None (eqb-true (reason_number (reason_of a)) 0 (not-false _ (reason_with_22 e w ∙ off))))),
    )

-- The reason of an answer that is -22: a fault of the event, and the lowest that it has.
refused_22 : (e : Event) (w : World) (a : Answer) → (step e w).answer ≡ a → refuses22 a ≡ true
    → (x : Refusal) × (first (invalid (refusals e w)) ≡ Err x) × (reason_of a ≡ x.reason)
refused_22 e w Asleep is h = clash true refl (sym h)
refused_22 e w (Count n) is h = clash true refl (sym h)
refused_22 e w (Refused x) is h = (x, first_invalid (refusals e w) x (refused_row e w x is) h, refl)
refused_22 e w (Waiting v) is h = clash true refl (sym h)

-- So a number that is -22 and a call's arguments alone tell the reason.
pub reason_told : (e : Event) (w : World) (wrong : Option Reason) → (refuses22 (step e w).answer ≡ true → reason_of (step e w).answer ≡ wrong)
    → cond (refuses22 (step e w).answer) wrong None ≡ reason_of (step e w).answer
reason_told e w wrong h =
    let a = (step e w).answer in
    cases (refuses22 a)
    (λ on. rw on (sym (h on)))
    (λ off. rw off (sym ((reason_none e w).1 (λ n. clash (refuses22 a) (numbers_22 a n) off))))

pub call_reason : (c : Call) (w : World) → refuses22 (step (CallEvent c) w).answer ≡ true
    → reason_of (step (CallEvent c) w).answer ≡ reason_among (argument_rows (command_of c.op) c)
unfolding refusals rows_in argument_rows
call_reason c w h =
    let by = refused_22 (CallEvent c) w (step (CallEvent c) w).answer refl h in
    by.2 ∙ sym (rows_refused (λ x. x.reason) (argument_rows (command_of c.op) c) None by.0 by.1)

lowest_fault : (e : Event) (w : World) → refuses22 (step e w).answer ≡ true
    → IsSomeAnd (reason_of (step e w).answer) (λ r. Fault w r e) × ((q : Reason) → Fault w q e → reason_number (reason_of (step e w).answer) ≤ reason_number (Some q))
lowest_fault e w h =
    let by = refused_22 e w (step e w).answer refl h in
    let rows = invalid (refusals e w) in (
      rw by.2 (first_tells (λ q. IsSomeAnd q (λ r. Fault w r e)) rows (each_fault e w) by.0 by.1),
      (λ q f.
          let row = fault_in e w q f in
          rw by.2 (subst (λ r. reason_number by.0.reason ≤ reason_number r) row.2 (lowest 1 rows by.0 (table_rising e w) by.1 row.0 row.1 row.3))),
    )

-- what a reason tells: the answer is -22, the fault is there, and no lower one
abbrev Tells : Event → World → Option Reason → Type 0
Tells e w r =
    (answer_numbers (step e w).answer ≡ neg_ℤ (pos 22) ∷ [])
    × IsSomeAnd r (λ q. Fault w q e)
    × ((q : Reason) → reason_number (Some q) < reason_number r → Fault w q e → ⊥)

given_tells : (e : Event) (w : World) → refuses22 (step e w).answer ≡ true → Tells e w (reason_of (step e w).answer)
given_tells e w on = let low = lowest_fault e w on in (minus_22 (step e w).answer on, low.0, λ p l f. omega (arith, low.1 p f, l))

not_below : (m n : ℕ) → m ≤ n → (m < n → ⊥) → m ≡ n
not_below m n le lt = cases (ltb m n) (λ e. absurd (lt (ltb-true m n e))) (λ e. let ge = ltb-false m n e in omega arith)

-- a reason that is given is that of no fault below n, where no fault is below n
none_lower : (F : Reason → Type 0) (n : ℕ) → ((q : Reason) → reason_number (Some q) < n → F q → ⊥) → (r : Option Reason) → IsSomeAnd r F → reason_number r < n → ⊥
none_lower F n none None h l = absurd h
none_lower F n none (Some q) h l = none q l h

pub reason_exactly : (e : Event) (w : World) (r : Reason) → (reason_of (step e w).answer ≡ Some r) ↔ Tells e w (Some r)
reason_exactly e w r =
    let a = (step e w).answer in (
      (λ h. subst (Tells e w) h (cases (refuses22 a)
          (given_tells e w)
          (λ off. absurd (none-some r (sym ((reason_none e w).1 (λ n. clash (refuses22 a) (numbers_22 a n) off)) ∙ h))))),
      (λ h.
          let low = lowest_fault e w (numbers_22 a h.0) in
          same_reason (reason_of a) (Some r)
          (not_below _ _ (low.1 r h.1) (none_lower (λ q. Fault w q e) (reason_number (Some r)) h.2 (reason_of a) low.0))),
    )
