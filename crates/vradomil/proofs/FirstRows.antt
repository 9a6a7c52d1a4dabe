-- What a host lends: words of the right length and tables that keep the rules pass the first two rows.
use mathlib.Core.Path.{◌≡◌, refl, sym, ap}
use mathlib.Core.Bool.{true, false, not}
use mathlib.Core.List.{List}
use Prim.Native.Nat.{ℕ, ◌*◌, ◌<◌}
use lib.ListN.{length}
use lib.Dec.{eqb}
use native.Mathlib.Omega.{arith}
use borrow.Author.Tests.{eq-eqb, ne_eqb}
use Rattle.rules.proofs.Rows.{not_pass}
use Rattle.rules.specs.declared.answer.Refusal.{Refusal}
use Rattle.std.specs.Prelude.{Option, None, Some, Err}
use Rattle.std.specs.Option.{ok_or}
use Rattle.lists.proofs.Tests.{never}
use Rattle.rules.specs.declared.answer.Errno.TheVariants.{ENXIO, EBADF}
use Rattle.rules.specs.Answers.{plain, first}
use Rattle.rules.specs.Calls.{wrong_memory, first_rows}
use Rattle.tables.specs.Sizes.{word_bytes, memory_words}
use Rattle.tables.specs.Tables.{tables_ok}
use Rattle.layout.specs.Layout.{tables_at, words_of, words_at, memory_size}
use Rattle.layout.specs.Check.{Checked}
use Rattle.vradomil.specs.Host.{seen, BuffersJudged}
use Rattle.vradomil.proofs.Memory.{words_length}

no_words : (n : ℕ) (m : List ℕ) → 0 < n → (length m ≡ word_bytes * n → ⊥) → eqb (length (words_of n m)) n ≡ false
unfolding words_of
no_words n m some h = rw (ne_eqb (length m) (word_bytes * n) h) (ne_eqb 0 n (λ e. omega arith))

wrong_words : (b m : List ℕ) → (length m ≡ memory_size → ⊥) → wrong_memory (seen b m) ≡ true
wrong_words b m h = ap not (no_words memory_words m (omega arith) h)

right_words : (b m : List ℕ) → length m ≡ memory_size → wrong_memory (seen b m) ≡ false
right_words b m h = ap not (eq-eqb (length (words_at m)) memory_words (words_length memory_words m h))

module _ (b m : List ℕ) where
  pub memory_row : (length m ≡ memory_size → ⊥) → Err (plain ENXIO) ≡ first (first_rows (seen b m))
  memory_row h = rw (wrong_words b m h)

  pub tables_row : length m ≡ memory_size → tables_ok (tables_at b) ≡ false → Err (plain EBADF) ≡ first (first_rows (seen b m))
  tables_row size bad = rw (right_words b m size, bad)

  refused : (x : Refusal) → Err x ≡ first (first_rows (seen b m)) → BuffersJudged b m (Err x)
  refused x same = record { verdict = same; held = λ e. not_pass e; long = λ e. not_pass e; places = λ place e. never (cc e) }

  pub wrong_long : (length m ≡ memory_size → ⊥) → BuffersJudged b m (Err (plain ENXIO))
  wrong_long h = refused (plain ENXIO) (memory_row h)

  pub judged : length m ≡ memory_size → (found : Option (List ℕ)) → Checked b found → BuffersJudged b m (ok_or found (plain EBADF))
  judged size None is = refused (plain EBADF) (tables_row size (sym is.answer))
  judged size (Some place) is =
      record {
        verdict = rw (right_words b m size, sym is.answer);
        held = λ e. is.held refl;
        long = λ e. size;
        places = λ at e. is.places at (cc e);
      }
