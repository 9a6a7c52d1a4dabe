-- Any bytes that a host may lend: they stand for words and for tables that keep the rules, or every event but a panel query is refused.
use mathlib.Core.Path.{◌≡◌, refl, sym, ap, subst, subst₂, ◌∙◌}
use mathlib.Core.Logic.{◌⊎◌, inl, inr}
use mathlib.Core.Bool.{true, false, not, cond, ◌||◌}
use mathlib.Core.List.{List, ◌∷◌}
use Prim.Native.Nat.{ℕ, ◌+◌, ◌*◌, ◌^◌, ◌≤◌, ◌<◌}
use native.Mathlib.Omega.{arith}
use lib.IntN.{ℤ}
use lib.ListN.{length, drop, length-drop}
use lib.Dec.{eqb}
use borrow.Author.Tests.{eqb-true, eqb-false}
use Rattle.lists.specs.LittleEndian.{Bytes, number_at}
use Rattle.lists.proofs.LittleEndian.{le_below, bytes_drop}
use Rattle.lists.proofs.Tests.{cases, clash}
use Rattle.tables.specs.Sizes.{threads, word_bytes, memory_words}
use Rattle.tables.specs.Tables.{tables_ok}
use Rattle.tables.proofs.Sound.{tables_sound}
use Rattle.rules.specs.declared.event.Event.{Event}
use Rattle.rules.specs.declared.event.Event.TheVariants.{Query}
use Rattle.rules.specs.declared.answer.Refusal.{Refusal}
use Rattle.rules.specs.declared.answer.Errno.TheVariants.{ENXIO, EBADF}
use Rattle.std.specs.Prelude.{Err}
use Rattle.rules.specs.declared.answer.Answer.TheVariants.{Refused}
use Rattle.rules.specs.Answers.{plain, first, Outcome, outcome, is_refused}
use Rattle.rules.specs.Calls.{first_rows, no_process}
use Rattle.rules.specs.Events.{is_query, step, waiting_set, panel_of, panel_in, panel}
use Rattle.rules.specs.History.{final, answers}
use Rattle.rules.proofs.ByEvent.{by_query}
use Rattle.rules.proofs.Rows.{step_refused}
use Rattle.layout.specs.Layout.{tables_at, tables_bytes, state_at, thread_at, tables_size, time_bytes, clock_at, uaddr_at, bitset_at, deadline_at, memory_size}
use Rattle.layout.specs.Check.{Held}
use Rattle.layout.proofs.Reading.{clock_read, thread_read}
use Rattle.layout.proofs.Exact.{words_exact}
use Rattle.layout.proofs.Checks.{wrong_size, held}
use Rattle.changes.specs.Change.{FitsThread, Fits}
use Rattle.vradomil.specs.Host.{seen, host_number, packed}
use Rattle.vradomil.proofs.Memory.{words_length, word_fits}
use Rattle.vradomil.proofs.FirstRows.{memory_row, tables_row}
use Rattle.vradomil.proofs.Steps.{row_refused}
use Rattle.hosting.specs.Hosts.{Hosted, Heard, hears_all, HostRuns, over, next}
use Rattle.hosting.proofs.Hosting.{Stand, seen_is, stepped, asked, refused_stays}
use Rattle.hosting.proofs.Heard.{heard_is}

-- numbers of some bytes fit that many
module _ (b : List ℕ) (size : length b ≡ tables_size) (low : Bytes b) where
  number_fits : (w k : ℕ) → k + w ≤ tables_size → number_at w k b < 256 ^ w
  number_fits w k inside = le_below w (drop k b) (omega (arith, length-drop k b, size)) (bytes_drop k b low)

  thread_fits : (i : ℕ) → i < threads → FitsThread (thread_at b i)
  thread_fits i l =
      record {
        uaddr = number_fits word_bytes (uaddr_at + word_bytes * i) (omega arith);
        bitset = number_fits word_bytes (bitset_at + word_bytes * i) (omega arith);
        deadline = number_fits time_bytes (deadline_at + time_bytes * i) (omega arith);
      }

  state_fits : Fits (state_at b)
  state_fits =
      record {
        clock = subst (◌< 256 ^ time_bytes) (clock_read b) (number_fits time_bytes clock_at (omega arith));
        records = λ i l. subst FitsThread (sym (thread_read b i l)) (thread_fits i l);
      }

-- bytes that the first two rows refuse
pub record Unfit (b m : List ℕ) : Type 0 where
  pub refusal : Refusal
  pub judged : Err refusal ≡ first (first_rows (seen b m))

abbrev pub Lent : List ℕ → List ℕ → Type 0
Lent b m = Stand b m (seen b m) ⊎ Unfit b m

module _ (b m : List ℕ) (lb : Bytes b) (lm : Bytes m) where
  fit : length m ≡ memory_size → Held b → Stand b m (seen b m)
  fit size h =
      record {
        tables = h.bytes ∙ ap tables_bytes (sym h.tables);
        words = words_exact memory_words m size lm;
        valid = record { memory = words_length memory_words m size; sound = tables_sound (tables_at b) (ap tables_ok h.tables ∙ h.sound) };
        fits = record { state = subst Fits (sym h.tables) (state_fits b h.size lb); words = word_fits memory_words m size lm };
      }

  held_if : tables_ok (tables_at b) ≡ true → Held b
  held_if ok = cases (eqb (length b) tables_size)
      (λ e. held b (eqb-true (length b) tables_size e) lb ok)
      (λ e. clash (tables_ok (tables_at b)) ok (wrong_size b (eqb-false (length b) tables_size e)))

  pub lent : Lent b m
  lent = cases (eqb (length m) memory_size)
      (λ e. let size = eqb-true (length m) memory_size e in
      cases (tables_ok (tables_at b)) (λ ok. inl (fit size (held_if ok))) (λ bad. inr (record { refusal = plain EBADF; judged = tables_row b m size bad })))
      (λ e. inr (record { refusal = plain ENXIO; judged = memory_row b m (eqb-false (length m) memory_size e) }))

-- an event on refused bytes leaves them, and the rules leave the world
record Same (e : Event) (b m b1 m1 : List ℕ) : Type 0 where
  tables : b1 ≡ b
  words : m1 ≡ m
  world : (step e (seen b m)).world ≡ seen b m

module _ (e : Event) {b m : List ℕ} (u : Unfit b m) (some : is_query e ≡ false) where
  refused_step : step e (seen b m) ≡ outcome (Refused u.refusal) (seen b m)
  refused_step = step_refused e (seen b m) u.refusal (row_refused e b m some u.refusal u.judged)

  pub refused_number : {lent b1 m1 told : List ℕ} {r : ℤ} → Hosted e b m lent r b1 m1 told → r ≡ host_number (Refused u.refusal)
  refused_number h = h.number ∙ ap (λ (o : Outcome). host_number o.answer) refused_step

  refused : {lent b1 m1 told : List ℕ} {r : ℤ} → Hosted e b m lent r b1 m1 told → Same e b m b1 m1
  refused h =
      let stays = refused_stays h (ap (λ (o : Outcome). is_refused o.answer) refused_step) in
      record { tables = stays.0; words = stays.1; world = ap (λ (o : Outcome). o.world) refused_step }

same : (e : Event) {b m lent b1 m1 told : List ℕ} {r : ℤ} → Unfit b m → Hosted e b m lent r b1 m1 told → Same e b m b1 m1
same e {b} {m} {lent} {b1} {m1} {told} {r} u = by_query (λ e. Hosted e b m lent r b1 m1 told → Same e b m b1 m1)
    (λ p h. record { tables = h.tables; words = h.words; world = asked p (seen b m) })
    (λ e some. refused e u some) e

-- an event that is no panel query
not_query : (e : Event) → ((p : ℕ) → e ≡ Query p → ⊥) → is_query e ≡ false
not_query = by_query (λ e. ((p : ℕ) → e ≡ Query p → ⊥) → is_query e ≡ false) (λ p h. absurd (h p refl)) (λ e some h. some)

-- words of another length, and tables of another length
module _ {e : Event} {b m lent b1 m1 told : List ℕ} {r : ℤ} (h : Hosted e b m lent r b1 m1 told) (some : (p : ℕ) → e ≡ Query p → ⊥) where
  pub wrong_memory_lem : (length m ≡ memory_size → ⊥) → r ≡ host_number (Refused (plain ENXIO))
  wrong_memory_lem other = refused_number e (record { refusal = plain ENXIO; judged = memory_row b m other }) (not_query e some) h

  pub wrong_tables : length m ≡ memory_size → (length b ≡ tables_size → ⊥) → r ≡ host_number (Refused (plain EBADF))
  wrong_tables size other = refused_number e (record { refusal = plain EBADF; judged = tables_row b m size (wrong_size b other) }) (not_query e some) h

pub wrong_panel : (p : ℕ) (b : List ℕ) → (length b ≡ tables_size → ⊥) → packed (panel p (tables_at b)) ≡ packed (panel_of 0)
unfolding panel_in
wrong_panel p b other = ap (λ x. packed (panel_of (cond (no_process p || not x) 0 (waiting_set p (tables_at b))))) (wrong_size b other)
    ∙ cases (no_process p) (λ e. rw e) (λ e. rw e)

-- one event: the bytes that it leaves stand for what the rules leave
pub after : {e : Event} {b m lent b1 m1 told : List ℕ} {r : ℤ} → Lent b m → Hosted e b m lent r b1 m1 told → (seen b1 m1 ≡ (step e (seen b m)).world) × Lent b1 m1
after {e} {b} {m} {b1 = b1} {m1} (inl s) h =
    let stand = stepped b m s h in
    let is = seen_is b1 m1 (step e (seen b m)).world stand in
    (is, inl (subst (Stand b1 m1) (sym is) stand))
after {e} (inr u) h =
    let k = same e u h in
    ((λ j. seen (k.tables j) (k.words j)) ∙ sym k.world, inr (subst₂ Unfit (sym k.tables) (sym k.words) u))

-- a whole history
pub ran : (room : Event → ℕ) {h : List Event} {b m b2 m2 : List ℕ} {hs : List Heard} → HostRuns room h b m hs b2 m2 → Lent b m
    → (hs ≡ hears_all room h (answers h (seen b m))) × (seen b2 m2 ≡ final h (seen b m))
ran room over l = (refl, refl)
ran room (next {es = es} long h run) l =
    let one = after l h in
    let rest = ran room run one.1 in
    let told = rest.0 ∙ ap (λ w. hears_all room es (answers es w)) one.0 in
    (λ j. heard_is room long h j ∷ told j, rest.1 ∙ ap (final es) one.0)

-- and what it leaves is lent again
pub ran_lent : (room : Event → ℕ) {h : List Event} {b m b2 m2 : List ℕ} {hs : List Heard} → HostRuns room h b m hs b2 m2 → Lent b m → Lent b2 m2
ran_lent room over l = l
ran_lent room (next long h run) l = ran_lent room run (after l h).1
