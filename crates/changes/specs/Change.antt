-- What a change of the tables does to their bytes.
use Rattle.std.specs.Prelude.{◌≡◌, Bool, true, not, ◌&&◌, List, [], ◌∷◌, ℕ, ◌-◌, ◌≤◌, ◌<◌, length, take, get_or, set, eqb, leb, ltb}
use Rattle.lists.specs.Lists.{filter, all, elem, distinct, bit, pad_to}
use Rattle.tables.specs.declared.State.{State}
use Rattle.tables.specs.declared.Thread.{Thread}
use Rattle.tables.specs.Sizes.{threads_per_process, threads, no_entry, word_limit, time_limit}
use Rattle.tables.specs.Editions.{present}
use Rattle.tables.specs.Tables.{thread_number, process_of, thread_of, arrivals, with_threads, with_arrivals, expired, move_sleeps, tables_ok}
use Rattle.tables.specs.Steps.{place_of}
use Rattle.layout.specs.Layout.{tables_bytes}

-- "64 thread records and one arrival list"
pub record Whole (s : State) : Type 0 where
  pub records : length s.threads ≡ threads
  pub entries : length s.list ≡ threads

-- the record of thread i changed, and all else kept
abbrev pub at_thread : ℕ → (Thread → Thread) → State → State
at_thread i f s = with_threads (set s.threads i (f (thread_of s i))) s

-- the list changed, and all else kept
abbrev pub on_list : (List ℕ → List ℕ) → State → State
on_list f s = record { clock = s.clock; threads = s.threads; list = f s.list; count = s.count }

-- Bytes of tables become the bytes of the changed tables.
abbrev pub Writes : (State → State) → List ℕ → List ℕ → Type 0
Writes f b after = (s : State) → Whole s → b ≡ tables_bytes s → after ≡ tables_bytes (f s)

-- tables that keep the rules, and their bytes
pub record Stands (s : State) (b : List ℕ) : Type 0 where
  pub bytes : b ≡ tables_bytes s
  pub sound : tables_ok s ≡ true

-- a stored deadline is at or below the time; 0 is stored where there is none
abbrev pub has_come : ℕ → ℕ → Bool
has_come time due = not (eqb due 0) && leb due time

-- a sleeper whose deadline is at or below the time
abbrev pub is_due : ℕ → State → ℕ → Bool
is_due time s t = expired time (thread_of s t)

-- The first n of who are the listed threads that pass, and the bytes are those of the tables whose list has the others.
pub record Sifted (f : ℕ → Bool) (s : State) (who : List ℕ) (n : ℕ) (b : List ℕ) : Type 0 where
  pub passed : take n who ≡ filter f (arrivals s)
  pub counted : n ≡ length (filter f (arrivals s))
  pub bytes : b ≡ tables_bytes (with_arrivals present (filter (λ t. not (f t)) (arrivals s)) s)

-- a thread stands in a list, at a place from 1
pub record StandsAt (place t : ℕ) (l : List ℕ) : Type 0 where
  pub listed : elem t l ≡ true
  pub there : place ≡ place_of t l

-- the places of a process once the entry at one of them is taken out
abbrev pub Lowered : List ℕ → ℕ → List ℕ → Type 0
Lowered place out r = (i : ℕ) → i < threads_per_process → get_or r i 0 ≡ get_or place i 0 - bit (ltb out (get_or place i 0))

-- the rules of the list alone: a sleeper that moves keeps them, whatever the address
pub record Lined (s : State) : Type 0 where
  pub records : length s.threads ≡ threads
  pub stored : s.list ≡ pad_to threads no_entry (arrivals s)
  pub counted : s.count ≡ length (arrivals s)
  pub few : s.count ≤ threads
  pub apart : distinct (arrivals s) ≡ true

-- bytes of tables become the bytes of those in which the thread at a place of the list has moved
abbrev pub MovesOne : ℕ → ℕ → ℕ → List ℕ → List ℕ → Type 0
MovesOne a t place b after = (s : State) → Lined s → StandsAt place t (arrivals s) → b ≡ tables_bytes s → after ≡ tables_bytes (move_sleeps a (t ∷ []) s)

-- of the places of all threads those of process p
abbrev pub ColumnOf : ℕ → List ℕ → List ℕ → Type 0
ColumnOf p place r = (i : ℕ) → i < threads_per_process → get_or r i 0 ≡ get_or place (thread_number p i) 0

-- where each thread of process p stands in the list
abbrev pub Column : ℕ → List ℕ → State → Type 0
Column p place s = (i : ℕ) → i < threads_per_process → get_or place i 0 ≡ place_of (thread_number p i) (arrivals s)

-- and the first n threads of ts, all of that process and each once, who stand there
pub record Leave (place ts : List ℕ) (n : ℕ) (s : State) : Type 0 where
  pub process : ℕ
  pub column : Column process place s
  pub few : n ≤ threads_per_process
  pub own : all (λ t. eqb (process_of t) process) (take n ts) ≡ true
  pub each : all (λ t. elem t (arrivals s)) (take n ts) ≡ true
  pub apart : distinct (take n ts) ≡ true

-- each number fits its field, as in all tables that code holds; that the count and the priorities do is a table rule
pub record FitsThread (r : Thread) : Type 0 where
  pub uaddr : r.uaddr < word_limit
  pub bitset : r.bitset < word_limit
  pub deadline : r.deadline < time_limit

pub record Fits (s : State) : Type 0 where
  pub clock : s.clock < time_limit
  pub records : (i : ℕ) → i < threads → FitsThread (thread_of s i)
