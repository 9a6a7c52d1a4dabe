-- Where the code looks for a thread's record and for a word. It computes a place first and refuses what does not exist afterwards, so
-- numbers past the last stand for others: each is taken modulo how many there are.
use Rattle.std.specs.Prelude.{ℕ, ◌%◌}
use Rattle.tables.specs.Sizes.{processes, threads_per_process, bytes_per_process}
use Rattle.tables.specs.Tables.{thread_number, word_number}

abbrev pub thread_place : ℕ → ℕ → ℕ
thread_place p i = thread_number (p % processes) (i % threads_per_process)

abbrev pub word_place : ℕ → ℕ → ℕ
word_place p a = word_number (p % processes) (a % bytes_per_process)
