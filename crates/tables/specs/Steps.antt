-- What the functions of this crate compute on the way: a change of a record, and of the sleepers that pass or are named.
use Rattle.std.specs.Prelude.{◌≡◌, Bool, true, not, List, ℕ, ◌≤◌, length, take, get_or, eqb}
use Rattle.lists.specs.Lists.{filter, all, elem, distinct}
use Rattle.tables.specs.declared.State.{State}
use Rattle.tables.specs.declared.Thread.{Thread}
use Rattle.tables.specs.declared.LastAnswer.{LastAnswer}
use Rattle.tables.specs.declared.Change.{Change}
use Rattle.tables.specs.declared.Change.TheVariants.{End, MoveTo}
use Rattle.tables.specs.declared.Taken.{Taken}
use Rattle.tables.specs.Sizes.{threads}
use Rattle.tables.specs.Tables.{arrivals, ended, moved_to, end_sleeps}
-- the arrival list's own definitions, passed on
pub use Rattle.arrivals.specs.Arrivals.{Numbers, flagged, Flags, place_of, Places}
unfoldable pub use Rattle.arrivals.specs.Arrivals.{split_of}

-- a record after a change
abbrev pub changed_by : Change → Thread → Thread
changed_by (End a) r = ended a r
changed_by (MoveTo a) r = moved_to a r

-- a thread has a place in the list
abbrev pub placed : List ℕ → ℕ → Bool
placed place t = not (eqb (get_or place t 0) 0)

-- the sleepers that pass end their sleep
unfoldable pub end_flagged : LastAnswer → (ℕ → Bool) → State → Taken
end_flagged a f s = record { state = end_sleeps a (filter f (arrivals s)) s; n = length (filter f (arrivals s)) }

-- where each thread stands in the list, and the first n threads of ts, each once, who stand there
pub record Taking (place ts : List ℕ) (n : ℕ) (s : State) : Type 0 where
  pub places : Places place (arrivals s)
  pub few : n ≤ threads
  pub each : all (λ t. elem t (arrivals s)) (take n ts) ≡ true
  pub apart : distinct (take n ts) ≡ true
