-- What the functions on the arrival list compute.
use Rattle.std.specs.Prelude.{◌≡◌, Bool, true, false, not, cond, List, [], ◌∷◌, ℕ, suc, ◌-◌, ◌≤◌, ◌<◌, length, take, get_or, eqb, ltb, Option, is_some, IfSome}
use Rattle.lists.specs.Lists.{filter, all, elem, bit, distinct, pad_to}
use Rattle.arrivals.specs.declared.Split.{Split}
use Rattle.arrivals.specs.Sizes.{threads, no_entry}

-- the first n entries are thread numbers
pub record Numbers (l : List ℕ) (n : ℕ) : Type 0 where
  pub few : n ≤ threads
  pub below : (k : ℕ) → k < n → get_or l k 0 < threads

-- a flag for each thread
abbrev pub flagged : List Bool → ℕ → Bool
flagged flags t = get_or flags t false

-- the flags say which threads pass the test
abbrev pub Flags : List Bool → (ℕ → Bool) → Type 0
Flags flags f = (t : ℕ) → t < threads → flagged flags t ≡ f t

-- where a thread stands in the list, from 1; 0 where it does not, and of one that stands there twice the last
abbrev pub place_of : ℕ → List ℕ → ℕ
place_of t [] = 0
place_of t (x ∷ l) = cond (elem t l) (suc (place_of t l)) (bit (eqb t x))

-- a number for each thread, where it stands
abbrev pub Places : List ℕ → List ℕ → Type 0
Places place l = (t : ℕ) → t < threads → get_or place t 0 ≡ place_of t l

-- where each thread stands, if the list names threads alone, and else nothing
pub record PlacedIn (l : List ℕ) (r : Option (List ℕ)) : Type 0 where
  pub named : is_some r ≡ all (λ t. ltb t threads) l
  pub places : IfSome r (λ place. Places place l)

-- the places once the entry at one of them is taken out
abbrev pub MovedUp : List ℕ → ℕ → List ℕ → Type 0
MovedUp place out r = (t : ℕ) → t < threads → get_or r t 0 ≡ get_or place t 0 - bit (ltb out (get_or place t 0))

-- the first count entries of a list as it is stored, thread numbers and no number twice; and where each stands
pub record Listing (list : List ℕ) (count : ℕ) (place : List ℕ) : Type 0 where
  pub stored : list ≡ pad_to threads no_entry (take count list)
  pub few : count ≤ threads
  pub low : all (λ t. ltb t threads) (take count list) ≡ true
  pub apart : distinct (take count list) ≡ true
  pub places : Places place (take count list)

-- and the first n threads of ts, each once, which stand there
pub record Listed (list : List ℕ) (count : ℕ) (place ts : List ℕ) (n : ℕ) : Type 0 where
  pub listing : Listing list count place
  pub few : n ≤ threads
  pub each : all (λ t. elem t (take count list)) (take n ts) ≡ true
  pub apart : distinct (take n ts) ≡ true

-- a list in two, as each part is stored
unfoldable pub split_of : (ℕ → Bool) → List ℕ → Split
split_of f l =
    record {
      left = pad_to threads no_entry (filter (λ t. not (f t)) l);
      count = length (filter (λ t. not (f t)) l);
      taken = pad_to threads no_entry (filter f l);
      n = length (filter f l);
    }
