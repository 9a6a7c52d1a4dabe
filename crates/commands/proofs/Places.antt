-- A place is inside the tables or the memory, and of a thread or an address that exists it is its own.
use mathlib.Core.Path.{◌≡◌}
use Prim.Native.Nat.{ℕ, ◌<◌}
use native.Mathlib.Omega.{arith}
use Rattle.tables.specs.Sizes.{processes, threads_per_process, threads, bytes_per_process, memory_words}
use Rattle.tables.specs.Tables.{thread_number, word_number}
use Rattle.commands.specs.Places.{thread_place, word_place}

module _ (p i : ℕ) {r : ℕ} (at : r ≡ thread_place p i) where
  pub thread_below : r < threads
  thread_below = omega (arith, at)

  pub thread_there : p < processes → i < threads_per_process → r ≡ thread_number p i
  thread_there h k = omega (arith, at)

module _ (p a : ℕ) {r : ℕ} (at : r ≡ word_place p a) where
  pub word_below : r < memory_words
  word_below = omega (arith, at)

  pub word_there : p < processes → a < bytes_per_process → r ≡ word_number p a
  word_there h k = omega (arith, at)
