-- Bytes that stand for tables are the bytes of these tables, and bytes of words the bytes of these words.
use mathlib.Core.Path.{◌≡◌, refl, sym, ap, ◌∙◌}
use mathlib.Core.Bool.{true, ◌&&◌}
use mathlib.Core.List.{List, [], ◌∷◌, map, flatten}
use Prim.Native.Nat.{ℕ, zero, suc, ◌+◌, ◌*◌, ◌%◌, ◌≤◌, ◌<◌}
use native.Mathlib.Omega.{arith}
use lib.ListN.{length, take, drop, get_or}
use lib.Seq.{take_all, drop-cons}
use lib.Dec.{eqb, leb}
use borrow.Author.Tests.{leb-true, eq-eqb}
use Rattle.lists.specs.Lists.{every_below, bit, tabulate}
use Rattle.lists.specs.LittleEndian.{bytes, Bytes, number_at}
use Rattle.lists.proofs.Tests.{and_left, and_right}
use Rattle.lists.proofs.Count.{every_below_at}
use Rattle.tables.specs.declared.Thread.{Thread}
use Rattle.tables.specs.declared.LastAnswer.{LastAnswer}
use Rattle.tables.specs.declared.LastAnswer.TheVariants.{NoneYet, Woken, TimedOut, Interrupted}
use Rattle.tables.specs.Sizes.{threads, word_bytes}
use Rattle.layout.specs.Layout.{time_bytes, column, Field, thread_fields, columns, thread_at, state_at, tables_bytes, tables_size, last_byte, max_last, last_of, waiting_byte, timed_byte, flags_ok, clock_at, count_at, list_at, waiting_at, timed_at, last_at, uaddr_at, bitset_at, deadline_at, priority_at, words_bytes, words_of}
use Rattle.layout.proofs.Columns.{exact, column_tabulate, cuts, flatten_cuts}

-- the sizes of the columns
abbrev pub sizes : List ℕ
sizes = time_bytes ∷ time_bytes ∷ threads ∷ map (λ (f : Field). f.width * threads) thread_fields

-- one byte at a place
one_byte : (b : List ℕ) (k v : ℕ) → k < length b → v ≡ get_or b k 0 → v < 256 → bytes 1 v ≡ take 1 (drop k b)
one_byte b k v h is low =
    let e : v % 256 ≡ get_or b k 0 = omega (arith, is) in
    rw (drop-cons b k 0 h) (ap (λ n. n ∷ []) e)

bit_of : (n : ℕ) → n ≤ 1 → bit (eqb n 1) ≡ n
bit_of zero h = refl
bit_of (suc zero) h = refl
bit_of (suc (suc n)) h = absurd (omega arith)

-- the byte of an answer
pub last_low : (a : LastAnswer) → last_byte a ≤ max_last
last_low NoneYet = omega arith
last_low Woken = omega arith
last_low TimedOut = omega arith
last_low Interrupted = omega arith

pub last_back : (a : LastAnswer) → last_of (last_byte a) ≡ a
last_back NoneYet = refl
last_back Woken = refl
last_back TimedOut = refl
last_back Interrupted = refl

last_of_lem : (n : ℕ) → n ≤ max_last → last_byte (last_of n) ≡ n
last_of_lem zero h = refl
last_of_lem (suc zero) h = refl
last_of_lem (suc (suc zero)) h = refl
last_of_lem (suc (suc (suc zero))) h = refl
last_of_lem (suc (suc (suc (suc n)))) h = absurd (omega arith)

module _ (b : List ℕ) (size : length b ≡ tables_size) (flags : every_below threads (flags_ok b) ≡ true) (h : Bytes b) where
  low : (i : ℕ) → i < threads → (get_or b (waiting_at + i) 0 ≤ 1) × (get_or b (timed_at + i) 0 ≤ 1) × (get_or b (last_at + i) 0 ≤ max_last)
  low i l =
      let w = leb (get_or b (waiting_at + i) 0) 1 in
      let t = leb (get_or b (timed_at + i) 0) 1 in
      let a = leb (get_or b (last_at + i) 0) max_last in
      let f = every_below_at threads (flags_ok b) flags i l in
      let wt = and_left (w && t) a f in
      (leb-true _ 1 (and_left w t wt), leb-true _ 1 (and_right w t wt), leb-true _ max_last (and_right (w && t) a f))

  -- a column of bytes, and one of numbers
  byte_column : (f : Thread → ℕ) (at : ℕ) → at + threads ≤ tables_size
      → ((i : ℕ) → i < threads → f (thread_at b i) ≡ get_or b (at + i) 0)
      → column 1 f (tabulate threads (thread_at b)) ≡ take threads (drop at b)
  byte_column f at fits is =
      column_tabulate 1 f threads at (thread_at b) b
      (λ i l. one_byte b (at + 1 * i) (f (thread_at b i)) (omega (arith, size)) (is i l ∙ ap (λ n. get_or b (at + n) 0) (omega arith)) (omega (arith, is i l, h (at + i))))

  number_column : (w : ℕ) (f : Thread → ℕ) (at : ℕ) → ((i : ℕ) → i < threads → at + w * i + w ≤ tables_size)
      → ((i : ℕ) → f (thread_at b i) ≡ number_at w (at + w * i) b)
      → column w f (tabulate threads (thread_at b)) ≡ take (w * threads) (drop at b)
  number_column w f at fits is =
      column_tabulate w f threads at (thread_at b) b
      (λ i l. ap (bytes w) (is i) ∙ exact b h w (at + w * i) (rw size (fits i l)))

  columns_cut : columns (state_at b) ≡ cuts 0 sizes b
  unfolding state_at
  columns_cut =
      let clock = exact b h time_bytes clock_at (omega (arith, size)) in
      let count = exact b h time_bytes count_at (omega (arith, size)) in
      let waiting = byte_column waiting_byte waiting_at (omega arith) (λ i l. bit_of _ (low i l).0) in
      let timed = byte_column timed_byte timed_at (omega arith) (λ i l. bit_of _ (low i l).1) in
      let last = byte_column (λ r. last_byte r.last) last_at (omega arith) (λ i l. last_of_lem _ (low i l).2) in
      let uaddr = number_column word_bytes (λ r. r.uaddr) uaddr_at (λ i l. omega arith) (λ i. refl) in
      let bitset = number_column word_bytes (λ r. r.bitset) bitset_at (λ i l. omega arith) (λ i. refl) in
      let deadline = number_column time_bytes (λ r. r.deadline) deadline_at (λ i l. omega arith) (λ i. refl) in
      let priority = byte_column (λ r. r.priority) priority_at (omega arith) (λ i l. refl) in
      λ j. clock j ∷ count j ∷ take threads (drop list_at b) ∷ waiting j ∷ timed j ∷ last j ∷ uaddr j ∷ bitset j ∷ deadline j ∷ priority j ∷ []

  pub tables_exact : b ≡ tables_bytes (state_at b)
  unfolding tables_bytes
  tables_exact = sym (ap flatten columns_cut ∙ flatten_cuts 0 sizes b ∙ take_all tables_size b (omega (arith, size)))

-- the words: those of bytes of the right length, and these bytes
pub words_read : (n : ℕ) (m : List ℕ) → length m ≡ word_bytes * n → words_of n m ≡ tabulate n (λ i. number_at word_bytes (word_bytes * i) m)
unfolding words_of
words_read n m size = rw (eq-eqb (length m) (word_bytes * n) size)

pub words_exact : (n : ℕ) (m : List ℕ) → length m ≡ word_bytes * n → Bytes m → m ≡ words_bytes (words_of n m)
unfolding words_bytes
words_exact n m size h =
    sym (ap (column word_bytes (λ w. w)) (words_read n m size)
    ∙ column_tabulate word_bytes (λ w. w) n 0 (λ i. number_at word_bytes (word_bytes * i) m) m
    (λ i l. let e : 0 + word_bytes * i ≡ word_bytes * i = omega arith in rw e (exact m h word_bytes (word_bytes * i) (omega (arith, size))))
    ∙ take_all (word_bytes * n) m (omega (arith, size)))
