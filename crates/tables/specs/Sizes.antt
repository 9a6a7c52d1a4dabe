-- "The display's fixed sizes". Every other file uses these names and never the numbers.
use Rattle.std.specs.Prelude.{ℕ, ◌*◌, ◌-◌, ◌^◌}
-- processes, threads and the entry that names none stand with the arrival list
pub use Rattle.arrivals.specs.Sizes.{processes, threads_per_process, threads, no_entry}

-- "Each process has 1,024 words of 32 bits at byte addresses 0, 4, .. 4092"
abbrev pub words_per_process : ℕ
words_per_process = 1024

abbrev pub word_bytes : ℕ
word_bytes = 4

abbrev pub bytes_per_process : ℕ
bytes_per_process = word_bytes * words_per_process

-- "The kernel is lent all 8,192 words as 32-bit numbers."
abbrev pub memory_words : ℕ
memory_words = processes * words_per_process

-- a word holds a number below 2^32, a time one below 2^64
abbrev pub word_bits : ℕ
word_bits = 32

abbrev pub word_limit : ℕ
word_limit = 2 ^ word_bits

abbrev pub time_limit : ℕ
time_limit = 2 ^ 64

-- all ones, the mask of a WAIT (FUTEX_BITSET_MATCH_ANY)
abbrev pub match_any : ℕ
match_any = word_limit - 1

-- "a base priority, 0 to 31"
abbrev pub max_priority : ℕ
max_priority = 31

-- the largest wake cap or second cap: -22 if "above 2147483647"
abbrev pub max_cap : ℕ
max_cap = 2147483647
