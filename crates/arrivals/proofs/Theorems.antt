-- What the definitions of specs/Arrivals.antt say of a list.
use mathlib.Core.Path.{◌≡◌, refl, sym, ap, ◌∙◌}
use mathlib.Core.Bool.{Bool, true, false, not}
use mathlib.Core.List.{List}
use Prim.Native.Nat.{ℕ, ◌-◌, ◌≤◌, ◌<◌}
use native.Mathlib.Omega.{arith}
use lib.ListN.{length, take, get_or, replicate, get_or-append}
use lib.Dec.{ltb}
use Rattle.std.specs.Prelude.{Option, Some, None, is_some}
use Rattle.std.proofs.lemmas.Option.{MatchOption-at_some}
use borrow.Author.Tests.{ltb-true}
use Rattle.lists.specs.Lists.{filter, all, elem, distinct, pad_to}
use Rattle.lists.proofs.Filter.{filter_alike}
use Rattle.lists.proofs.Occurs.{elem_all, elem_get_d}
use Rattle.lists.proofs.Padded.{take_padded}
use Rattle.arrivals.specs.Sizes.{threads, no_entry}
use Rattle.arrivals.specs.Arrivals.{Numbers, Flags, flagged, Places, PlacedIn, Listing, Listed, split_of}
use Rattle.arrivals.proofs.Places.{place_absent, place_first, place_most, place_names}

-- The parts of a list as they are stored: the first entries of each are the threads that pass, and the others.
module _ (f : ℕ → Bool) (l : List ℕ) where
  pub split_taken : take (split_of f l).n (split_of f l).taken ≡ filter f l
  unfolding split_of
  split_taken = take_padded threads no_entry (filter f l)

  pub split_left : take (split_of f l).count (split_of f l).left ≡ filter (λ t. not (f t)) l
  unfolding split_of
  split_left = take_padded threads no_entry (filter (λ t. not (f t)) l)

  left_is : (split_of f l).left ≡ pad_to threads no_entry (filter (λ t. not (f t)) l)
  unfolding split_of
  left_is = refl

  pub split_stored : (split_of f l).left ≡ pad_to threads no_entry (take (split_of f l).count (split_of f l).left)
  split_stored = left_is ∙ ap (pad_to threads no_entry) (sym split_left)

  -- by flags that say which threads pass
  pub split_flags : (flags : List Bool) → Flags flags f → all (λ t. ltb t threads) l ≡ true → split_of (flagged flags) l ≡ split_of f l
  unfolding split_of
  split_flags flags say low =
      let taken = filter_alike (flagged flags) f (λ t. ltb t threads) (λ t e. say t (ltb-true t threads e)) l low in
      let left = filter_alike (λ t. not (flagged flags t)) (λ t. not (f t)) (λ t. ltb t threads) (λ t e. ap not (say t (ltb-true t threads e))) l low in
      rw (taken, left)

-- Where a list names threads alone, each of them stands at the place that is noted for it, and the others at none.
module _ (l : List ℕ) (r : Option (List ℕ)) (h : PlacedIn l r) where
  pub placed_other : r ≡ None → all (λ t. ltb t threads) l ≡ false
  placed_other e = sym h.named ∙ ap is_some e

  module _ (place : List ℕ) (found : r ≡ Some place) where
    pub placed_found : Places place l
    placed_found = MatchOption-at_some _ (λ p. Places p l) place found h.places

    pub placed_low : (t : ℕ) → elem t l ≡ true → t < threads
    placed_low t k = ltb-true t threads (elem_all (λ u. ltb u threads) l (sym h.named ∙ ap is_some found) t k)

    pub placed_there : (t : ℕ) → elem t l ≡ true → get_or l (get_or place t 0 - 1) 0 ≡ t
    placed_there t k = ap (λ p. get_or l (p - 1) 0) (placed_found t (placed_low t k)) ∙ place_names t l k

    pub placed_within : (t : ℕ) → elem t l ≡ true → (1 ≤ get_or place t 0) × (get_or place t 0 ≤ length l)
    placed_within t k =
        let is = placed_found t (placed_low t k) in
        (omega (arith, is, place_first t l k), omega (arith, is, place_most t l))

    pub placed_nowhere : (t : ℕ) → t < threads → elem t l ≡ false → get_or place t 0 ≡ 0
    placed_nowhere t b k = placed_found t b ∙ place_absent t l k

-- What is asked of a list, and of threads that are to be taken out of it, is no more than this.
module _ (l : List ℕ) (few : length l ≤ threads) (low : all (λ t. ltb t threads) l ≡ true) where
  pub numbers_of_lem : Numbers (pad_to threads no_entry l) (length l)
  numbers_of_lem = record {
    few = few;
    below = λ k h.
        let at = get_or-append l (replicate (threads - length l) no_entry) 0 k h in
        let named = ltb-true (get_or l k 0) threads (elem_all (λ t. ltb t threads) l low (get_or l k 0) (elem_get_d l k 0 h)) in
        omega (arith, at, named);
  }

  module _ (apart : distinct l ≡ true) (place : List ℕ) (places : Places place l) where
    here : take (length l) (pad_to threads no_entry l) ≡ l
    here = take_padded threads no_entry l

    pub listing_of : Listing (pad_to threads no_entry l) (length l) place
    listing_of = record {
      stored = ap (pad_to threads no_entry) (sym here);
      few = few;
      low = rw here low;
      apart = rw here apart;
      places = rw here places;
    }

    pub listed_of : (ts : List ℕ) (n : ℕ) → n ≤ threads → all (λ t. elem t l) (take n ts) ≡ true → distinct (take n ts) ≡ true
        → Listed (pad_to threads no_entry l) (length l) place ts n
    listed_of ts n some each once = record { listing = listing_of; few = some; each = rw here each; apart = once }
