-- The bytes of tables stand for these tables, where each number fits its field.
use mathlib.Core.Path.{◌≡◌, refl, sym, ap, subst, ◌∙◌}
use mathlib.Core.Bool.{Bool, true, false}
use mathlib.Core.List.{List, [], map, flatten}
use Prim.Native.Nat.{ℕ, zero, suc, ◌+◌, ◌*◌, ◌/◌, ◌^◌, ◌≤◌, ◌<◌}
use native.Mathlib.Omega.{arith}
use native.Mathlib.Nat.{pow-succ'}
use lib.ListN.{length, take, drop, get_or}
use lib.Seq.{drop-cons, ext_get_or}
use lib.Dec.{eqb}
use borrow.Author.Tests.{eq-eqb, leb-true, le-leb}
use Rattle.lists.specs.Lists.{elem, every_below, bit, tabulate}
use Rattle.lists.specs.LittleEndian.{le, bytes, number_at}
use Rattle.lists.proofs.LittleEndian.{le_bytes}
use Rattle.lists.proofs.Tests.{cases, bit_le}
use Rattle.lists.proofs.Count.{every_below_intro}
use Rattle.lists.proofs.Tabulate.{length_tabulate, get_d_tabulate}
use Rattle.tables.specs.declared.State.{State}
use Rattle.tables.specs.declared.Thread.{Thread}
use Rattle.tables.specs.declared.LastAnswer.{LastAnswer}
use Rattle.tables.specs.Sizes.{threads, word_bytes, max_priority}
use Rattle.tables.specs.Tables.{fresh_thread, thread_of, ended, end_in, end_sleeps, tables_ok}
use Rattle.tables.proofs.Changes.{change_at}
use Rattle.tables.proofs.Sound.{tables_sound, sound_tables, priority_kept}
use Rattle.tables.proofs.Kept.{ending}
use Rattle.layout.specs.Layout.{time_bytes, column, columns, last_byte, max_last, last_of, waiting_byte, timed_byte, tables_bytes, tables_at, state_at, thread_at, tables_size, flags_ok, clock_at, waiting_at, timed_at, last_at, uaddr_at, bitset_at, deadline_at, priority_at}
use Rattle.layout.proofs.Columns.{length_column, entry_read, before, get_column, column_read}
use Rattle.layout.proofs.Exact.{sizes, last_low, last_back}
use Rattle.layout.proofs.Reading.{clock_read, thread_read}
use Rattle.layout.specs.Check.{Held}
use Rattle.changes.specs.Change.{Whole, Stands, FitsThread, Fits}
use Rattle.changes.proofs.Writing.{sized}
use Rattle.changes.proofs.Standing.{whole, size_held, list_held, count_held}

waits : (x : Bool) → eqb (bit x) 1 ≡ x
waits true = refl
waits false = refl

-- what is read of a number's bytes fits them
le_low : (w v : ℕ) → le (bytes w v) < 256 ^ w
le_low zero v = omega arith
le_low (suc w) v = let ih = le_low w (v / 256) in rw (pow-succ' 256 w) (omega arith)

module _ (s : State) (w : Whole s) (b : List ℕ) (is : b ≡ tables_bytes s) where
  -- the bytes of a number of the j-th column, which holds v of each record
  number_bytes : (j v at : ℕ) (f : Thread → ℕ) → before j sizes ≡ at → get_or (columns s) j [] ≡ column v f s.threads → (i : ℕ) → i < threads
      → (k : ℕ) → k ≡ at + v * i → v * i + v ≤ v * threads → take v (drop k b) ≡ bytes v (f (thread_of s i))
  unfolding tables_bytes
  number_bytes j v at f place col i low k here inside =
      let long : length (get_or (columns s) j []) ≡ v * threads = ap length col ∙ length_column v f s.threads ∙ ap (v *◌) w.records in
      let there : k ≡ before j (map length (columns s)) + v * i = here ∙ ap (◌+ v * i) (sym place ∙ ap (before j) (sym (sized s w))) in
      ap (λ l. take v (drop k l)) is
      ∙ ap (λ n. take v (drop n (flatten (columns s)))) there
      ∙ get_column (columns s) j (v * i) v (rw long inside) ∙ ap (λ c. take v (drop (v * i) c)) col
      ∙ entry_read v f s.threads i fresh_thread (omega (arith, w.records))

  clock_bytes : take time_bytes (drop clock_at b) ≡ bytes time_bytes s.clock
  unfolding tables_bytes
  clock_bytes = ap (λ l. take time_bytes (drop clock_at l)) is ∙ column_read (columns s) (sized s w) 0 clock_at time_bytes (bytes time_bytes s.clock) refl refl refl

module _ (s : State) (b : List ℕ) (h : Stands s b) (fit : Fits s) where
  abbrev shape : Whole s
  shape = whole s h.sound

  number_read : (j w at : ℕ) (f : Thread → ℕ) → before j sizes ≡ at → get_or (columns s) j [] ≡ column w f s.threads → (i : ℕ) → i < threads
      → f (thread_of s i) < 256 ^ w → (k : ℕ) → k ≡ at + w * i → w * i + w ≤ w * threads → number_at w k b ≡ f (thread_of s i)
  number_read j w at f place is i low small k here inside =
      ap le (number_bytes s shape b h.bytes j w at f place is i low k here inside) ∙ le_bytes w (f (thread_of s i)) small

  byte_read : (j at : ℕ) (f : Thread → ℕ) → before j sizes ≡ at → at + threads ≤ tables_size → get_or (columns s) j [] ≡ column 1 f s.threads → (i : ℕ) → i < threads
      → f (thread_of s i) < 256 ^ 1 → get_or b (at + i) 0 ≡ f (thread_of s i)
  byte_read j at f place fits is i low small =
      let one : number_at 1 (at + i) b ≡ get_or b (at + i) 0 = rw (drop-cons b (at + i) 0 (omega (arith, size_held s b h))) (omega arith) in
      sym one ∙ number_read j 1 at f place is i low small (at + i) (omega arith) (omega arith)

  -- the three flags of a thread
  flags_read : (i : ℕ) → i < threads
      → let r = thread_of s i in
      (get_or b (waiting_at + i) 0 ≡ waiting_byte r) × (get_or b (timed_at + i) 0 ≡ timed_byte r) × (get_or b (last_at + i) 0 ≡ last_byte r.last)
  flags_read i low =
      let r = thread_of s i in (
        byte_read 3 waiting_at waiting_byte refl (omega arith) refl i low (omega (arith, bit_le r.waiting)),
        byte_read 4 timed_at timed_byte refl (omega arith) refl i low (omega (arith, bit_le r.timed)),
        byte_read 5 last_at (λ q. last_byte q.last) refl (omega arith) refl i low (omega (arith, last_low r.last)),
      )

  thread_back : (i : ℕ) → i < threads → thread_at b i ≡ thread_of s i
  thread_back i low =
      let r = thread_of s i in
      let g = fit.records i low in
      let f = flags_read i low in
      let waiting = ap (λ n. eqb n 1) f.0 ∙ waits r.waiting in
      let timed = ap (λ n. eqb n 1) f.1 ∙ waits r.timed in
      let last = ap last_of f.2 ∙ last_back r.last in
      let uaddr = number_read 6 word_bytes uaddr_at (λ q. q.uaddr) refl refl i low g.uaddr (uaddr_at + word_bytes * i) refl (omega arith) in
      let bitset = number_read 7 word_bytes bitset_at (λ q. q.bitset) refl refl i low g.bitset (bitset_at + word_bytes * i) refl (omega arith) in
      let deadline = number_read 8 time_bytes deadline_at (λ q. q.deadline) refl refl i low g.deadline (deadline_at + time_bytes * i) refl (omega arith) in
      let most = leb-true r.priority max_priority (priority_kept s (tables_sound s h.sound) i) in
      let priority = byte_read 9 priority_at (λ q. q.priority) refl (omega arith) refl i low (omega (arith, most)) in
      λ j. record { waiting = waiting j; uaddr = uaddr j; bitset = bitset j; timed = timed j; deadline = deadline j; last = last j; priority = priority j }

  state_back : state_at b ≡ s
  unfolding state_at
  state_back =
      let clock : number_at time_bytes clock_at b ≡ s.clock = ap le (clock_bytes s shape b h.bytes) ∙ le_bytes time_bytes s.clock fit.clock in
      let records : tabulate threads (thread_at b) ≡ s.threads =
      ext_get_or fresh_thread (tabulate threads (thread_at b)) s.threads (length_tabulate threads (thread_at b) ∙ sym shape.records)
      (λ i l. let low : i < threads = omega (arith, length_tabulate threads (thread_at b)) in get_d_tabulate threads (thread_at b) i fresh_thread low ∙ thread_back i low) in
      let list = list_held s b h in
      let count = count_held s b h in
      λ j. record { clock = clock j; threads = records j; list = list j; count = count j }

  flags_held : every_below threads (flags_ok b) ≡ true
  flags_held = every_below_intro threads (flags_ok b)
      (λ i low. let r = thread_of s i in
      let f = flags_read i low in
      rw (
        le-leb (get_or b (waiting_at + i) 0) 1 (omega (arith, f.0, bit_le r.waiting)),
        le-leb (get_or b (timed_at + i) 0) 1 (omega (arith, f.1, bit_le r.timed)),
        le-leb (get_or b (last_at + i) 0) max_last (omega (arith, f.2, last_low r.last)),
      ))

  pub tables_back : tables_at b ≡ s
  unfolding tables_at
  tables_back = rw (eq-eqb (length b) tables_size (size_held s b h), flags_held) state_back

  held_back : Held b
  held_back =
      record {
        size = size_held s b h;
        tables = tables_back ∙ sym state_back;
        bytes = h.bytes ∙ ap tables_bytes (sym state_back);
        sound = ap tables_ok state_back ∙ h.sound;
      }

-- Tables that their own bytes stand for: each number fits.
module _ (b : List ℕ) (h : Held b) where
  abbrev own : State
  own = state_at b

  number_low : (j w at : ℕ) (f : Thread → ℕ) → before j sizes ≡ at → get_or (columns own) j [] ≡ column w f own.threads → (i : ℕ) → i < threads
      → w * i + w ≤ w * threads → f (thread_of own i) ≡ number_at w (at + w * i) b → f (thread_of own i) < 256 ^ w
  number_low j w at f place is i low inside read =
      let v = f (thread_of own i) in
      omega (arith, read, ap le (number_bytes own (whole own h.sound) b h.bytes j w at f place is i low (at + w * i) refl inside), le_low w v)

  held_fits : Fits own
  held_fits =
      record {
        clock = omega (arith, clock_read b, ap le (clock_bytes own (whole own h.sound) b h.bytes), le_low time_bytes own.clock);
        records = λ i low. record {
          uaddr = number_low 6 word_bytes uaddr_at (λ q. q.uaddr) refl refl i low (omega arith) (ap (λ (r : Thread). r.uaddr) (thread_read b i low));
          bitset = number_low 7 word_bytes bitset_at (λ q. q.bitset) refl refl i low (omega arith) (ap (λ (r : Thread). r.bitset) (thread_read b i low));
          deadline = number_low 8 time_bytes deadline_at (λ q. q.deadline) refl refl i low (omega arith) (ap (λ (r : Thread). r.deadline) (thread_read b i low));
        };
      }

-- sleeps that end leave numbers that fit
ended_fits : (a : LastAnswer) (ts : List ℕ) (s : State) → length s.threads ≡ threads → Fits s → Fits (end_sleeps a ts s)
unfolding end_in
ended_fits a ts s size fit =
    record {
      clock = fit.clock;
      records = λ i low. subst FitsThread (sym (change_at (ended a) ts s.threads i fresh_thread (omega arith))) (cases (elem i ts)
          (λ e. rw e (record { uaddr = omega arith; bitset = omega arith; deadline = omega arith }))
          (λ e. rw e (fit.records i low)));
    }

-- bytes that were held, once sleeps have ended
module _ (b : List ℕ) (h : Held b) (a : LastAnswer) (ts after : List ℕ) (is : after ≡ tables_bytes (end_sleeps a ts (state_at b))) where
  abbrev s : State
  s = end_sleeps a ts (state_at b)

  stand : Stands s after
  stand = record { bytes = is; sound = sound_tables s (ending a ts (state_at b) (tables_sound (state_at b) h.sound)) }

  fit : Fits s
  fit = ended_fits a ts (state_at b) (whole (state_at b) h.sound).records (held_fits b h)

  pub ended_held : Held after
  ended_held = held_back s after stand fit

  pub ended_back : state_at after ≡ s
  ended_back = state_back s after stand fit
