-- The start of a display: the bytes of the fresh tables stand for these.
use mathlib.Core.Path.{◌≡◌, refl, sym, subst}
use mathlib.Core.Logic.{inl}
use mathlib.Core.Bool.{true}
use mathlib.Core.List.{List, flatten}
use Prim.Native.Nat.{ℕ}
use native.Mathlib.Omega.{arith}
use lib.ListN.{replicate, length-replicate}
use lib.Dec.{ltb}
use borrow.Author.Tests.{ltb-true}
use Rattle.lists.specs.LittleEndian.{Bytes}
use Rattle.lists.specs.Lists.{all}
use Rattle.lists.proofs.Filter.{get_d_all, get_d_replicated}
use Rattle.tables.specs.Sizes.{threads, memory_words}
use Rattle.tables.specs.Editions.{present}
use Rattle.tables.specs.Tables.{fresh_in, fresh, fresh_thread, thread_of}
use Rattle.rules.specs.History.{start}
use Rattle.rules.proofs.Preserved.{start_valid}
use Rattle.tables.proofs.Sound.{fresh_sound, sound_tables}
use Rattle.changes.specs.Change.{Fits}
use Rattle.layout.specs.Layout.{tables_bytes, words_bytes, words_at}
use Rattle.vradomil.specs.Host.{seen}
use Rattle.vradomil.proofs.Theorems.{tables_stand}
use Rattle.hosting.proofs.Fitting.{fresh_thread_fits}
use Rattle.hosting.proofs.Hosting.{Stand, seen_is}
use Rattle.hosting.proofs.Buffers.{Lent}

fresh_fits : Fits fresh
unfolding fresh_in
fresh_fits =
    record {
      clock = omega arith;
      records = λ i low. let e : thread_of fresh i ≡ fresh_thread = get_d_replicated threads i fresh_thread in
          rw e fresh_thread_fits;
    }

pub fresh_seen : (m : List ℕ) → seen (tables_bytes fresh) m ≡ start (words_at m)
fresh_seen m = λ j. record { state = tables_stand fresh (sound_tables fresh (fresh_sound present)) fresh_fits j; words = words_at m }

bytes_low : all (λ x. ltb x 256) (tables_bytes fresh) ≡ true
unfolding tables_bytes fresh_in flatten
bytes_low = refl

pub fresh_low : Bytes (tables_bytes fresh)
fresh_low i = ltb-true _ _ (get_d_all (λ x. ltb x 256) 0 (tables_bytes fresh) refl bytes_low i)

-- fresh tables, and words that are all 0
zeros_stand : Stand (tables_bytes fresh) (words_bytes (replicate memory_words 0)) (start (replicate memory_words 0))
zeros_stand =
    record {
      tables = refl;
      words = refl;
      valid = start_valid (replicate memory_words 0) (length-replicate {A = ℕ} memory_words 0);
      fits = record { state = fresh_fits; words = λ i. rw (get_d_replicated {A = ℕ} memory_words i 0) (omega arith) };
    }

pub zeros_seen : seen (tables_bytes fresh) (words_bytes (replicate memory_words 0)) ≡ start (replicate memory_words 0)
zeros_seen = seen_is (tables_bytes fresh) (words_bytes (replicate memory_words 0)) (start (replicate memory_words 0)) zeros_stand

pub zeros_lent : Lent (tables_bytes fresh) (words_bytes (replicate memory_words 0))
zeros_lent = inl (subst (Stand (tables_bytes fresh) (words_bytes (replicate memory_words 0))) (sym zeros_seen) zeros_stand)
