-- What is proved of the entry points, beside what each ensures (specs/Host.antt): what a host's bytes stand for, what its numbers mean, which
-- events it can pass, and that what an entry point ensures leaves nothing open. crates/hosting has the theorems of whole histories.
use mathlib.Core.Path.{◌≡◌, refl, sym, ap, ◌∙◌}
use mathlib.Core.Bool.{Bool, true, false, not, cond, ◌||◌}
use mathlib.Core.List.{List, [], ◌∷◌, ◌++◌, map, append-nil}
use mathlib.Core.Logic.{◌⊎◌, inl, inr, ◌↔◌}
use Prim.Native.Nat.{ℕ, ◌/◌, ◌%◌, ◌^◌, ◌≤◌, ◌<◌}
use native.Mathlib.Omega.{arith}
use lib.Count.{ones, count_trailing_zeros, ones-le, trailing_le}
use lib.ListN.{length, get_or, take, drop, drop_of_length-le}
use lib.Seq.{take_all}
use lib.IntN.{ℤ, pos, neg_ℤ}
use lib.Dec.{eqb}
use borrow.Author.Tests.{eq-eqb, ne_eqb}
use Rattle.lists.proofs.Tests.{cases}
use Rattle.tables.specs.declared.State.{State}
use Rattle.tables.specs.Sizes.{threads_per_process, memory_words, word_limit}
use Rattle.tables.specs.Tables.{tables_ok, fresh}
use Rattle.rules.specs.declared.event.Call.{Call}
use Rattle.rules.specs.declared.event.Event.{Event}
use Rattle.rules.specs.declared.event.Event.TheVariants.{Call as CallEvent, Store, Clock, Interrupt, Query, SetPriority}
use Rattle.rules.specs.declared.answer.Errno.TheVariants.{ENXIO, EBADF, ESRCH, EBUSY, ENOSYS, EINVAL, EFAULT, EAGAIN, ETIMEDOUT}
use Rattle.rules.specs.declared.answer.Panel.{Panel}
use Rattle.rules.specs.declared.answer.Answer.{Answer}
use Rattle.rules.specs.declared.answer.Answer.TheVariants.{Asleep, Count, Refused, Waiting}
use Rattle.rules.specs.Answers.{plain, answer_numbers, reason_number, reason_of}
use Rattle.rules.specs.Calls.{no_process}
use Rattle.rules.specs.Events.{waiting_in, waiting_set, panel_of, panel_in, panel}
use Rattle.kernel.proofs.Events.{bits_small}
use Rattle.layout.specs.Layout.{tables_bytes, tables_size, tables_at, words_bytes, words_at}
use Rattle.vradomil.specs.Host.{packed, host_number, report_bytes, report_size, laid_over, EventFits, Calls, ChangesWords, ChangesTables, Shows, Initialised}
use Rattle.changes.specs.Change.{Fits}
use Rattle.changes.proofs.Faithful.{tables_back}
use Rattle.vradomil.proofs.Memory.{words_back}

-- Bytes of tables and of words stand for these tables and words, so the next event sees what this one left. Tables and words that code holds
-- fit their fields by their types.
pub tables_stand : (s : State) → tables_ok s ≡ true → Fits s → tables_at (tables_bytes s) ≡ s
tables_stand s ok fit = tables_back s (tables_bytes s) (record { bytes = refl; sound = ok }) fit

pub words_stand : (ws : List ℕ) → length ws ≡ memory_words → ((i : ℕ) → i < memory_words → get_or ws i 0 < word_limit) → words_at (words_bytes ws) ≡ ws
words_stand ws long fit = words_back memory_words ws long fit

-- What each answer is to a host, by document 01's numbers: "asleep" is 2147483647, a count is itself, a refusal the error number negated; with
-- threads 1 and 3 asleep a panel query is 10 in the lowest byte, 2 in the second, 1 above.
pub host_numbers : (n : ℕ)
    → (host_number Asleep ≡ pos 2147483647) × (host_number (Count n) ≡ pos n)
    × (map (λ x. host_number (Refused (plain x))) (ENXIO ∷ EBADF ∷ ESRCH ∷ EBUSY ∷ ENOSYS ∷ EINVAL ∷ EFAULT ∷ EAGAIN ∷ ETIMEDOUT ∷ [])
    ≡ map (λ k. neg_ℤ (pos k)) (6 ∷ 9 ∷ 3 ∷ 16 ∷ 38 ∷ 22 ∷ 14 ∷ 11 ∷ 110 ∷ []))
    × (host_number (Waiting (panel_of 10)) ≡ pos 0x01020A)
unfolding ones count_trailing_zeros
host_numbers n = (refl, refl, refl, refl)

-- They are the rules' numbers, but that a panel query's three are in one.
pub one_number : (a : Answer) → (answer_numbers a ≡ host_number a ∷ []) ⊎ ((v : Panel) × (a ≡ Waiting v))
one_number Asleep = inl refl
one_number (Count n) = inl refl
one_number (Refused x) = inl refl
one_number (Waiting v) = inr (v, refl)

-- The one number of a panel query holds the three that document 01 asks for, where include/vradomil.h takes them out.
pub panel_unpacks : (p : ℕ) (s : State)
    → (packed (panel p s) % 256 ≡ (panel p s).waiting) × (packed (panel p s) / 256 % 256 ≡ (panel p s).count) × (packed (panel p s) / 65536 ≡ (panel p s).lowest)
unfolding panel_in waiting_in
panel_unpacks p s = parts (cond (no_process p || not (tables_ok s)) 0 (waiting_set p s)) small
  where
    parts : (b : ℕ) → b < 2 ^ threads_per_process
        → (packed (panel_of b) % 256 ≡ b) × (packed (panel_of b) / 256 % 256 ≡ ones b) × (packed (panel_of b) / 65536 ≡ count_trailing_zeros threads_per_process b)
    parts b low =
        let few = ones-le threads_per_process b low in
        let near = trailing_le threads_per_process b in
        (omega arith, omega arith, omega arith)

    small : cond (no_process p || not (tables_ok s)) 0 (waiting_set p s) < 2 ^ threads_per_process
    small = cases (no_process p || not (tables_ok s)) (λ e. rw e (omega arith)) (λ e. rw e (bits_small threads_per_process _))

-- An event fits exactly if each argument does: 8 bits for process, index, flag and priority, 64 for a timeout and a time, 32 for all else.
pub call_fits_exactly : (c : Call)
    → EventFits (CallEvent c) ↔ ((c.process < 256) × (c.index < 256) × (c.op < 4294967296) × (c.uaddr < 4294967296) × (c.val < 4294967296)
    × (c.flag < 256) × (c.timeout < 18446744073709551616) × (c.uaddr2 < 4294967296) × (c.val3 < 4294967296))
call_fits_exactly c = (
  λ f. (f.process, f.index, f.op, f.uaddr, f.val, f.flag, f.timeout, f.uaddr2, f.val3),
  λ f. record { process = f.0; index = f.1; op = f.2; uaddr = f.3; val = f.4; flag = f.5; timeout = f.6; uaddr2 = f.7; val3 = f.8 },
)

pub fits_exactly : (p i a v now n : ℕ)
    → (EventFits (Store p a v) ↔ ((p < 256) × (a < 4294967296) × (v < 4294967296)))
    × (EventFits (Clock now) ↔ (now < 18446744073709551616))
    × (EventFits (Interrupt p i) ↔ ((p < 256) × (i < 256)))
    × (EventFits (Query p) ↔ (p < 256))
    × (EventFits (SetPriority p i n) ↔ ((p < 256) × (i < 256) × (n < 256)))
fits_exactly p i a v now n = ((λ f. f, λ f. f), (λ f. f, λ f. f), (λ f. f, λ f. f), (λ f. f, λ f. f), (λ f. f, λ f. f))

-- What an entry point ensures leaves nothing open: the number and every byte that it may change are fixed by the event and the bytes that came.
pub call_fixed : {c : Call} {b m l b1 m1 t1 b2 m2 t2 : List ℕ} {r s : ℤ} → Calls c b m l r b1 m1 t1 → Calls c b m l s b2 m2 t2
    → (r ≡ s) × (b1 ≡ b2) × (m1 ≡ m2) × (t1 ≡ t2)
call_fixed f g = (f.number ∙ sym g.number, f.tables ∙ sym g.tables, f.words ∙ sym g.words, f.report ∙ sym g.report)

pub words_fixed : {e : Event} {b m l m1 t1 m2 t2 : List ℕ} {r s : ℤ} → ChangesWords e b m l r m1 t1 → ChangesWords e b m l s m2 t2
    → (r ≡ s) × (m1 ≡ m2) × (t1 ≡ t2)
words_fixed f g = (f.number ∙ sym g.number, f.bytes ∙ sym g.bytes, f.report ∙ sym g.report)

pub tables_fixed : {e : Event} {b m l b1 t1 b2 t2 : List ℕ} {r s : ℤ} → ChangesTables e b m l r b1 t1 → ChangesTables e b m l s b2 t2
    → (r ≡ s) × (b1 ≡ b2) × (t1 ≡ t2)
tables_fixed f g = (f.number ∙ sym g.number, f.bytes ∙ sym g.bytes, f.report ∙ sym g.report)

pub query_fixed : {p n k : ℕ} {b : List ℕ} → Shows p b n → Shows p b k → n ≡ k
query_fixed f g = f.number ∙ sym g.number

-- Reports: one byte, the reason; laid over bytes that are lent, as much of it as they have room for, and what is behind it stays.
pub report_of : (a : Answer) → (report_bytes a ≡ reason_number (reason_of a) ∷ []) × (length (report_bytes a) ≡ report_size)
report_of a = (refl, refl)

pub laid_over_lem : (report lent : List ℕ)
    → (length lent ≤ length report → laid_over report lent ≡ take (length lent) report)
    × (length report ≤ length lent → laid_over report lent ≡ report ++ drop (length report) lent)
laid_over_lem report lent = (
  (λ h. ap (λ l. take (length lent) report ++ l) (drop_of_length-le lent h) ∙ append-nil _),
  (λ h. ap (λ l. l ++ drop (length report) lent) (take_all (length lent) report h)),
)

-- vradomil_fresh: 1,360 bytes become those of the fresh tables, and the answer is 0; bytes of another length stay, and the answer is -9.
pub fresh_laid : {b after : List ℕ} {r : ℤ} → Initialised b r after
    → (length b ≡ tables_size → (r ≡ pos 0) × (after ≡ tables_bytes fresh)) × ((length b ≡ tables_size → ⊥) → (r ≡ neg_ℤ (pos 9)) × (after ≡ b))
fresh_laid {b} {after} {r} f = (λ e. laid true (eq-eqb (length b) tables_size e), λ e. laid false (ne_eqb (length b) tables_size e))
  where
    laid : (x : Bool) → eqb (length b) tables_size ≡ x → (r ≡ host_number (cond x (Count 0) (Refused (plain EBADF)))) × (after ≡ cond x (tables_bytes fresh) b)
    laid x is = (f.number ∙ ap (λ y. host_number (cond y (Count 0) (Refused (plain EBADF)))) is, f.bytes ∙ ap (λ y. cond y (tables_bytes fresh) b) is)
