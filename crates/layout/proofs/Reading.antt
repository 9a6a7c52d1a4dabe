-- What is read from the bytes of the tables is read from the tables that they stand for.
use mathlib.Core.Path.{◌≡◌, refl}
use mathlib.Core.List.{List}
use Prim.Native.Nat.{ℕ, ◌<◌}
use lib.ListN.{take, drop}
use Rattle.lists.specs.LittleEndian.{number_at}
use Rattle.lists.proofs.Tabulate.{get_d_tabulate}
use Rattle.tables.specs.Sizes.{threads}
use Rattle.tables.specs.Tables.{fresh_thread, thread_of}
use Rattle.layout.specs.Layout.{time_bytes, clock_at, count_at, list_at, thread_at, state_at}

pub thread_read : (b : List ℕ) (t : ℕ) → t < threads → thread_of (state_at b) t ≡ thread_at b t
unfolding state_at
thread_read b t h = get_d_tabulate threads (thread_at b) t fresh_thread h

pub count_read : (b : List ℕ) → number_at time_bytes count_at b ≡ (state_at b).count
unfolding state_at
count_read b = refl

pub clock_read : (b : List ℕ) → number_at time_bytes clock_at b ≡ (state_at b).clock
unfolding state_at
clock_read b = refl

pub list_read : (b : List ℕ) → take threads (drop list_at b) ≡ (state_at b).list
unfolding state_at
list_read b = refl
