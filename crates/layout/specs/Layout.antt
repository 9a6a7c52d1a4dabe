-- The tables and the words as bytes: docs/TABLES.md as definitions. Numbers are little-endian.
use Rattle.std.specs.Prelude.{Bool, cond, ◌&&◌, ℕ, ◌+◌, ◌*◌, length, take, drop, get_or, eqb, leb}
use mathlib.Core.List.{List, [], ◌∷◌, ◌++◌, map, flatten}
use Rattle.lists.specs.Lists.{every_below, bit, tabulate}
use Rattle.lists.specs.LittleEndian.{bytes, number_at}
use Rattle.tables.specs.declared.State.{State}
use Rattle.tables.specs.declared.Thread.{Thread}
use Rattle.tables.specs.declared.LastAnswer.{LastAnswer}
use Rattle.tables.specs.declared.LastAnswer.TheVariants.{NoneYet, Woken, TimedOut, Interrupted}
use Rattle.tables.specs.Sizes.{threads, word_bytes, memory_words}

-- a time has "64 bits"; the count of the list is stored as widely
abbrev pub time_bytes : ℕ
time_bytes = 8

-- one number of each element, in their order, w bytes each
module _ {A : Type 0} where
  abbrev pub column : ℕ → (A → ℕ) → List A → List ℕ
  column w f [] = []
  column w f (x ∷ xs) = bytes w (f x) ++ column w f xs

-- "the last answer is one of the four"
abbrev pub last_byte : LastAnswer → ℕ
last_byte NoneYet = 0
last_byte Woken = 1
last_byte TimedOut = 2
last_byte Interrupted = 3

-- no greater byte stands for a last answer
abbrev pub max_last : ℕ
max_last = 3

abbrev pub waiting_byte : Thread → ℕ
waiting_byte r = bit r.waiting

abbrev pub timed_byte : Thread → ℕ
timed_byte r = bit r.timed

-- A field of the records as bytes: how many, and the number that they hold.
pub record Field : Type 0 where
  pub width : ℕ
  pub number : Thread → ℕ

abbrev field : ℕ → (Thread → ℕ) → Field
field w f = record { width = w; number = f }

abbrev pub thread_fields : List Field
thread_fields =
    field 1 waiting_byte
    ∷ field 1 timed_byte
    ∷ field 1 (λ r. last_byte r.last)
    ∷ field word_bytes (λ r. r.uaddr)
    ∷ field word_bytes (λ r. r.bitset)
    ∷ field time_bytes (λ r. r.deadline)
    ∷ field 1 (λ r. r.priority)
    ∷ []

-- the tables in columns: clock, count, list, then a column for each field of the records
abbrev pub columns : State → List (List ℕ)
columns s =
    bytes time_bytes s.clock
    ∷ bytes time_bytes s.count
    ∷ s.list
    ∷ map (λ (f : Field). column f.width f.number s.threads) thread_fields

-- the bytes of tables
unfoldable pub tables_bytes : State → List ℕ
tables_bytes s = flatten (columns s)

-- where each column begins
abbrev pub clock_at : ℕ
clock_at = 0

abbrev pub count_at : ℕ
count_at = clock_at + time_bytes

abbrev pub list_at : ℕ
list_at = count_at + time_bytes

abbrev pub waiting_at : ℕ
waiting_at = list_at + threads

abbrev pub timed_at : ℕ
timed_at = waiting_at + threads

abbrev pub last_at : ℕ
last_at = timed_at + threads

abbrev pub uaddr_at : ℕ
uaddr_at = last_at + threads

abbrev pub bitset_at : ℕ
bitset_at = uaddr_at + word_bytes * threads

abbrev pub deadline_at : ℕ
deadline_at = bitset_at + word_bytes * threads

abbrev pub priority_at : ℕ
priority_at = deadline_at + time_bytes * threads

abbrev pub tables_size : ℕ
tables_size = priority_at + threads

abbrev pub last_of : ℕ → LastAnswer
last_of n = cond (eqb n 0) NoneYet (cond (eqb n 1) Woken (cond (eqb n 2) TimedOut Interrupted))

-- the record of thread i
abbrev pub thread_at : List ℕ → ℕ → Thread
thread_at b i =
    record {
      waiting = eqb (get_or b (waiting_at + i) 0) 1;
      uaddr = number_at word_bytes (uaddr_at + word_bytes * i) b;
      bitset = number_at word_bytes (bitset_at + word_bytes * i) b;
      timed = eqb (get_or b (timed_at + i) 0) 1;
      deadline = number_at time_bytes (deadline_at + time_bytes * i) b;
      last = last_of (get_or b (last_at + i) 0);
      priority = get_or b (priority_at + i) 0;
    }

unfoldable pub state_at : List ℕ → State
state_at b =
    record {
      clock = number_at time_bytes clock_at b;
      threads = tabulate threads (thread_at b);
      list = take threads (drop list_at b);
      count = number_at time_bytes count_at b;
    }

-- the bytes of thread i that are not numbers stand for something
abbrev pub flags_ok : List ℕ → ℕ → Bool
flags_ok b i = leb (get_or b (waiting_at + i) 0) 1 && leb (get_or b (timed_at + i) 0) 1 && leb (get_or b (last_at + i) 0) max_last

-- "tables of a wrong length, or with a byte that stands for nothing"
abbrev pub form_ok : List ℕ → Bool
form_ok b = eqb (length b) tables_size && every_below threads (flags_ok b)

-- tables that break a rule: they have no record
abbrev broken : State
broken = record { clock = 0; threads = []; list = []; count = 0 }

-- the tables that bytes stand for; bytes that stand for none "are -9", as tables that break a rule are
unfoldable pub tables_at : List ℕ → State
tables_at b = cond (form_ok b) (state_at b) broken

-- the words: "32,768 bytes, little-endian"
abbrev pub memory_size : ℕ
memory_size = word_bytes * memory_words

unfoldable pub words_bytes : List ℕ → List ℕ
words_bytes ws = column word_bytes (λ w. w) ws

-- the n words that bytes stand for; bytes of another length stand for none
unfoldable pub words_of : ℕ → List ℕ → List ℕ
words_of n m = cond (eqb (length m) (word_bytes * n)) (tabulate n (λ i. number_at word_bytes (word_bytes * i) m)) []

-- "another length is -6", as no words are
abbrev pub words_at : List ℕ → List ℕ
words_at m = words_of memory_words m
