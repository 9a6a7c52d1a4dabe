-- What the check of the bytes computes on the way, and what it tells.
use Rattle.std.specs.Prelude.{◌≡◌, Bool, true, not, cond, ◌&&◌, List, ℕ, ◌+◌, length, get_or, eqb, leb, ltb, is_some, Option, Some}
use Rattle.std.specs.Bool.{beq}
use Rattle.tables.specs.Sizes.{bytes_per_process}
use Rattle.tables.specs.Tables.{arrivals, aligned, priority_ok, tables_ok}
use Rattle.tables.specs.Steps.{Places, placed}
use Rattle.layout.specs.Layout.{max_last, waiting_at, timed_at, last_at, thread_at, state_at, tables_bytes, tables_at, tables_size}

-- the flags of thread i stand for something, a thread with a deadline waits, and its priority keeps its rule
abbrev pub flags_fit : List ℕ → ℕ → Bool
flags_fit b i =
    leb (get_or b (waiting_at + i) 0) 1
    && leb (get_or b (timed_at + i) 0) (get_or b (waiting_at + i) 0)
    && leb (get_or b (last_at + i) 0) max_last
    && priority_ok (thread_at b i)

abbrev pub waits : List ℕ → ℕ → Bool
waits b i = (thread_at b i).waiting

-- thread i has a place in the list where it waits
abbrev pub agrees : List ℕ → List ℕ → ℕ → Bool
agrees place b i = beq (placed place i) (waits b i)

abbrev pub place_ok : Bool → ℕ → ℕ → Bool
place_ok waiting a m = cond waiting (aligned a && ltb a bytes_per_process && not (eqb m 0)) (eqb a 0 && eqb m 0)

abbrev pub place_fits : List ℕ → ℕ → Bool
place_fits b i = place_ok (thread_at b i).waiting (thread_at b i).uaddr (thread_at b i).bitset

abbrev pub time_ok : ℕ → Bool → ℕ → Bool
time_ok now timed due = cond timed (ltb now due) (eqb due 0)

abbrev pub time_fits : ℕ → List ℕ → ℕ → Bool
time_fits now b i = time_ok now (thread_at b i).timed (thread_at b i).deadline

-- The bytes stand for these tables, which keep the rules.
pub record Held (b : List ℕ) : Type 0 where
  pub size : length b ≡ tables_size
  pub tables : tables_at b ≡ state_at b
  pub bytes : b ≡ tables_bytes (state_at b)
  pub sound : tables_ok (state_at b) ≡ true

-- What the check tells: whether the bytes stand for tables that keep the rules; and if they do, where each thread stands in the list.
pub record Checked (b : List ℕ) (r : Option (List ℕ)) : Type 0 where
  pub answer : is_some r ≡ tables_ok (tables_at b)
  pub held : is_some r ≡ true → Held b
  pub places : (place : List ℕ) → r ≡ Some place → Places place (arrivals (state_at b))
