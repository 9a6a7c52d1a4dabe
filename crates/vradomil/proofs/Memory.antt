-- Words that are read from bytes, and written there.
use mathlib.Core.Path.{◌≡◌, sym, ap, ◌∙◌}
use mathlib.Core.List.{List}
use Prim.Native.Nat.{ℕ, ◌*◌, ◌^◌, ◌≤◌, ◌<◌}
use native.Mathlib.Omega.{arith}
use lib.ListN.{length, get_or, set, drop, length-drop, get_or-eq_default}
use lib.Dec.{ltb}
use borrow.Author.Tests.{ltb-true, ltb-false}
use lib.Seq.{sets, ext_get_or}
use Rattle.lists.specs.Lists.{tabulate}
use Rattle.lists.specs.LittleEndian.{le, bytes, Bytes, number_at}
use Rattle.lists.proofs.Tests.{cases}
use Rattle.lists.proofs.LittleEndian.{le_bytes, le_below, bytes_drop}
use Rattle.lists.proofs.Tabulate.{length_tabulate, get_d_tabulate}
use Rattle.tables.specs.Sizes.{word_bytes}
use Rattle.layout.specs.Layout.{column, words_of, words_bytes}
use Rattle.layout.proofs.Columns.{length_column, column_set, entry_read}
use Rattle.layout.proofs.Exact.{words_read, words_exact}

module _ (n : ℕ) (m : List ℕ) where
  pub word_read : (i : ℕ) → length m ≡ word_bytes * n → i < n → get_or (words_of n m) i 0 ≡ number_at word_bytes (word_bytes * i) m
  word_read i size low =
      ap (λ ws. get_or ws i 0) (words_read n m size) ∙ get_d_tabulate n (λ k. number_at word_bytes (word_bytes * k) m) i 0 low

  pub words_length : length m ≡ word_bytes * n → length (words_of n m) ≡ n
  words_length size = ap length (words_read n m size) ∙ length_tabulate n (λ k. number_at word_bytes (word_bytes * k) m)

  pub word_fits : length m ≡ word_bytes * n → Bytes m → (i : ℕ) → get_or (words_of n m) i 0 < 256 ^ word_bytes
  word_fits size h i = cases (ltb i n)
      (λ e.
      let low = ltb-true i n e in
      rw (word_read i size low)
      (le_below word_bytes (drop (word_bytes * i) m) (omega (arith, size, length-drop (word_bytes * i) m)) (bytes_drop (word_bytes * i) m h)))
      (λ e.
      let out : length (words_of n m) ≤ i = omega (arith, words_length size, ltb-false i n e) in
      rw (get_or-eq_default (words_of n m) 0 out) (omega arith))

  pub word_written : (i v : ℕ) → length m ≡ word_bytes * n → Bytes m → i < n
      → sets m (word_bytes * i) (bytes word_bytes v) ≡ words_bytes (set (words_of n m) i v)
  unfolding words_bytes
  word_written i v size h low =
      ap (λ l. sets l (word_bytes * i) (bytes word_bytes v)) (words_exact n m size h)
      ∙ sym (column_set word_bytes (λ w. w) (words_of n m) i v (rw (words_length size) low))

-- the bytes of words stand for these words, where each fits
pub words_back : (n : ℕ) (ws : List ℕ) → length ws ≡ n → ((i : ℕ) → i < n → get_or ws i 0 < 256 ^ word_bytes) → words_of n (words_bytes ws) ≡ ws
unfolding words_bytes
words_back n ws long fit =
    let m = column word_bytes (λ w. w) ws in
    let size : length m ≡ word_bytes * n = length_column word_bytes (λ w. w) ws ∙ ap (word_bytes *◌) long in
    let word : ℕ → ℕ = λ (i : ℕ). number_at word_bytes (word_bytes * i) m in
    words_read n m size
    ∙ ext_get_or 0 (tabulate n word) ws (length_tabulate n word ∙ sym long)
    (λ i l. let low : i < n = omega (arith, length_tabulate n word) in
    get_d_tabulate n word i 0 low ∙ ap le (entry_read word_bytes (λ w. w) ws i 0 (omega (arith, long))) ∙ le_bytes word_bytes (get_or ws i 0) (fit i low))
