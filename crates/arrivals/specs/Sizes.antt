-- "The display's fixed sizes" that the arrival list has. Every other file uses these names and never the numbers.
use Rattle.std.specs.Prelude.{ℕ, ◌*◌}

-- "Eight processes, 0 to 7."
abbrev pub processes : ℕ
processes = 8

-- "Each has eight threads, index 0 to 7"
abbrev pub threads_per_process : ℕ
threads_per_process = 8

-- "thread (p, i) has number 8p + i, 0 to 63"
abbrev pub threads : ℕ
threads = processes * threads_per_process

-- "later entries are 255"
abbrev pub no_entry : ℕ
no_entry = 255
