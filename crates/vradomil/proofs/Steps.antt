-- An event's number and bytes are the rules', by its verdict: refused, or let through.
use mathlib.Core.Path.{◌≡◌, refl, sym, ap, subst, ◌∙◌}
use mathlib.Core.Bool.{false, cond}
use mathlib.Core.List.{List}
use Prim.Native.Nat.{ℕ}
use lib.IntN.{ℤ}
use mir.Syntax.{w32}
use mir.Val.{SFits, to_z, of_z}
use mir.Facts.{to_z-of_z}
use Rattle.tables.specs.declared.State.{State}
use Rattle.rules.specs.declared.event.Call.{Call}
use Rattle.rules.specs.declared.event.Event.{Event}
use Rattle.rules.specs.declared.event.Event.TheVariants.{Call as CallEvent}
use Rattle.rules.specs.declared.answer.Refusal.{Refusal}
use Rattle.std.specs.Prelude.{None, Result, Err, Ok}
use Rattle.std.specs.Result.{IsErrAnd}
use Rattle.std.proofs.lemmas.Result.{err_from_is_err_and}
use Rattle.rules.specs.declared.answer.Answer.{Answer}
use Rattle.rules.specs.declared.answer.Answer.TheVariants.{Asleep, Count, Refused, Waiting}
use Rattle.lists.proofs.Tests.{never}
use Rattle.rules.specs.Answers.{first, Outcome, is_refused, reason_of}
use Rattle.rules.specs.Commands.{command_of}
use Rattle.rules.specs.Calls.{first_rows, call_effect}
use Rattle.rules.specs.Events.{own_rows, is_query, refusals, effect, step}
use Rattle.rules.proofs.Rows.{all_rows, refused_before, passed_before, pass_clear, step_refused, step_passed}
use Rattle.rules.proofs.Refused.{granted}
use Rattle.tables.specs.Tables.{world}
use Rattle.layout.specs.Layout.{tables_bytes, state_at, words_at, words_bytes}
use Rattle.layout.specs.Check.{Held}
use Rattle.changes.specs.Change.{Stands}
use Rattle.vradomil.specs.Host.{seen, tables_left, words_left, host_number, CallFits, EventFits, number_of, reason_in, TablesTold, WordsTold, CallTold, BuffersJudged, Leaves}

-- the tables that sound bytes stand for
pub stands : (b : List ℕ) → Held b → Stands (state_at b) b
stands b h = record { bytes = h.bytes; sound = h.sound }

-- a number that fits 32 bits is read back as it was stored
pub read_back : {z y : ℤ} → (z ≡ y) × SFits w32 z → to_z w32 (of_z w32 z) ≡ y
read_back h = to_z-of_z h.1 ∙ h.0

pub leaves_by : (o p : Outcome) (n : ℕ) (after : List ℕ) → o ≡ p → Leaves o n after → Leaves p n after
leaves_by o p n after is h = subst (λ (x : Outcome). Leaves x n after) is h

-- The first two rows, before those of the event.

pub row_refused : (e : Event) (b m : List ℕ) → is_query e ≡ false → (z : Refusal) → Err z ≡ first (first_rows (seen b m)) → first (refusals e (seen b m)) ≡ Err z
row_refused e b m some z h = ap first (all_rows e (seen b m) some) ∙ refused_before (first_rows (seen b m)) (own_rows e (seen b m)) z (sym h)

pub event_refused : (e : Event) (b m : List ℕ) {x : Refusal} → is_query e ≡ false → BuffersJudged b m (Err x) → first (refusals e (seen b m)) ≡ Err x
event_refused e b m {x} some l = row_refused e b m some x l.verdict

pub event_passed : (e : Event) (b m : List ℕ) {place : List ℕ} → is_query e ≡ false → BuffersJudged b m (Ok place)
    → first (refusals e (seen b m)) ≡ first (own_rows e (seen b m))
event_passed e b m some l = ap first (all_rows e (seen b m) some) ∙ passed_before (first_rows (seen b m)) (own_rows e (seen b m)) (sym l.verdict)

-- a refusal that `?` hands on
handed_on : (r : Result ℕ Refusal) (x : Refusal) → IsErrAnd r (λ y. y ≡ x) → number_of r ≡ host_number (Refused x)
handed_on r x h = let p = err_from_is_err_and r h in ap number_of p.1 ∙ ap (λ y. host_number (Refused y)) p.2

-- what is no refusal has no reason
no_reason : (a : Answer) → is_refused a ≡ false → None ≡ reason_of a
no_reason Asleep h = refl
no_reason (Count n) h = refl
no_reason (Refused x) h = never (cc h)
no_reason (Waiting v) h = refl

-- bytes that a change leaves
tables_changed : (o : Outcome) (b : List ℕ) → is_refused o.answer ≡ false → tables_left o b ≡ tables_bytes o.world.state
tables_changed o b h = ap (λ r. cond r b (tables_bytes o.world.state)) h

words_changed : (o : Outcome) (m : List ℕ) → is_refused o.answer ≡ false → words_left o m ≡ words_bytes o.world.words
words_changed o m h = ap (λ r. cond r m (words_bytes o.world.words)) h

module _ (e : Event) (b m : List ℕ) where
  module _ {x : Refusal} (h : first (refusals e (seen b m)) ≡ Err x) (r : Result ℕ Refusal) (n : IsErrAnd r (λ y. y ≡ x)) where
    number_refused : number_of r ≡ host_number (step e (seen b m)).answer
    number_refused = handed_on r x n ∙ ap (λ (o : Outcome). host_number o.answer) (sym (step_refused e (seen b m) x h))

    tables_refused : b ≡ tables_left (step e (seen b m)) b
    tables_refused = ap (λ (o : Outcome). tables_left o b) (sym (step_refused e (seen b m) x h))

    words_refused : m ≡ words_left (step e (seen b m)) m
    words_refused = ap (λ (o : Outcome). words_left o m) (sym (step_refused e (seen b m) x h))

    reason_refused : reason_in r ≡ reason_of (step e (seen b m)).answer
    reason_refused =
        let p = err_from_is_err_and r n in
        ap reason_in p.1 ∙ ap (λ (y : Refusal). y.reason) p.2 ∙ ap (λ (o : Outcome). reason_of o.answer) (sym (step_refused e (seen b m) x h))

    pub changes_tables_refused : EventFits e → TablesTold e b m r b
    changes_tables_refused f =
        record { changes = record { number = number_refused; bytes = tables_refused; report = refl; fits = f }; reason = reason_refused }

    pub changes_words_refused : EventFits e → WordsTold e b m r m
    changes_words_refused f =
        record { changes = record { number = number_refused; bytes = words_refused; report = refl; fits = f }; reason = reason_refused }

  module _ (h : first (refusals e (seen b m)) ≡ Ok tt) where
    pub number_passed : {r : ℤ} → r ≡ host_number (effect e (seen b m)).answer → r ≡ host_number (step e (seen b m)).answer
    number_passed n = n ∙ ap (λ (o : Outcome). host_number o.answer) (sym (step_passed e (seen b m) h))

    done : is_refused (effect e (seen b m)).answer ≡ false
    done = granted e (seen b m) (pass_clear (refusals e (seen b m)) h)

    pub reason_passed : None ≡ reason_of (step e (seen b m)).answer
    reason_passed = no_reason (effect e (seen b m)).answer done ∙ ap (λ (o : Outcome). reason_of o.answer) (sym (step_passed e (seen b m) h))

    tables_passed : {after : List ℕ} → after ≡ tables_bytes (effect e (seen b m)).world.state → after ≡ tables_left (step e (seen b m)) b
    tables_passed is = is ∙ sym (tables_changed (effect e (seen b m)) b done) ∙ ap (λ (o : Outcome). tables_left o b) (sym (step_passed e (seen b m) h))

    pub words_passed : {after : List ℕ} → after ≡ words_bytes (effect e (seen b m)).world.words → after ≡ words_left (step e (seen b m)) m
    words_passed is = is ∙ sym (words_changed (effect e (seen b m)) m done) ∙ ap (λ (o : Outcome). words_left o m) (sym (step_passed e (seen b m) h))

-- an event that leaves the words, on tables that keep the rules
pub changes_tables_done : (e : Event) (b m : List ℕ) {n : ℕ} {after : List ℕ} → Held b → first (refusals e (seen b m)) ≡ Ok tt
    → Leaves (effect e (world (state_at b) (words_at m))) n after → EventFits e → TablesTold e b m (Ok n) after
changes_tables_done e b m {n} {after} held h is f =
    let d = leaves_by _ _ n after (ap (λ (s : State). effect e (world s (words_at m))) (sym held.tables)) is in
    record {
      changes = record { number = number_passed e b m h d.number; bytes = tables_passed e b m h d.bytes; report = refl; fits = f };
      reason = reason_passed e b m h;
    }

-- an event on tables that are lent on as an array, which holds what they hold
pub on_array : {e : Event} {b array m after : List ℕ} {r : Result ℕ Refusal} → array ≡ b → TablesTold e array m r after → TablesTold e b m r after
on_array {e} {m = m} {after} {r} same h = subst (λ x. TablesTold e x m r after) same h

-- a call
module _ (c : Call) (b m : List ℕ) (f : CallFits c) where
  pub calls_refused : {x : Refusal} → first (refusals (CallEvent c) (seen b m)) ≡ Err x → (r : Result ℕ Refusal) → IsErrAnd r (λ y. y ≡ x)
      → CallTold c b m r b m
  calls_refused h r n =
      record {
        changes = record {
          number = number_refused (CallEvent c) b m h r n;
          tables = tables_refused (CallEvent c) b m h r n;
          words = words_refused (CallEvent c) b m h r n;
          report = refl;
          fits = f;
        };
        reason = reason_refused (CallEvent c) b m h r n;
      }

  pub calls_passed : {n : ℕ} {bAfter mAfter : List ℕ} → Held b → first (refusals (CallEvent c) (seen b m)) ≡ Ok tt
      → Leaves (call_effect (command_of c.op) c (world (state_at b) (words_at m))) n bAfter
      → mAfter ≡ words_bytes (call_effect (command_of c.op) c (world (state_at b) (words_at m))).world.words
      → CallTold c b m (Ok n) bAfter mAfter
  unfolding effect
  calls_passed {n} {bAfter} held h is words =
      let k = command_of c.op in
      let same = ap (λ (s : State). call_effect k c (world s (words_at m))) (sym held.tables) in
      let d = leaves_by _ _ n bAfter same is in
      record {
        changes = record {
          number = number_passed (CallEvent c) b m h d.number;
          tables = tables_passed (CallEvent c) b m h d.bytes;
          words = words_passed (CallEvent c) b m h (words ∙ ap (λ (o : Outcome). words_bytes o.world.words) same);
          report = refl;
          fits = f;
        };
        reason = reason_passed (CallEvent c) b m h;
      }
