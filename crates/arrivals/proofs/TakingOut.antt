-- A loop that takes threads out of the arrival list by their places has taken out the first i: what is left is stored, and the places are those
-- in it of the threads that are still to come.
use mathlib.Core.Path.{◌≡◌, sym, ap, subst, ◌∙◌}
use mathlib.Core.Bool.{true, false, not, ◌||◌}
use mathlib.Core.List.{List, [], ◌∷◌, ◌++◌}
use Prim.Native.Nat.{ℕ, ◌+◌, ◌-◌, ◌≤◌, ◌<◌}
use native.Mathlib.Omega.{arith}
use borrow.Author.Tests.{ltb-true, not-true}
use lib.ListN.{length, take, drop, get_or}
use lib.Seq.{length-take-le, get_or-take, take-take}
use lib.Dec.{eqb, ltb}
use Rattle.lists.specs.Lists.{elem, without, distinct, bit, pad_to}
use Rattle.lists.proofs.Tests.{and_right, or_left, or_right}
use Rattle.lists.proofs.Filter.{filter_true}
use Rattle.lists.proofs.Occurs.{occurs, elem_all, elem_get_d, elem_filter, without_append, distinct_occurs, occurs_distinct, occurs_filter_le, occurs_take_le}
use Rattle.lists.proofs.Loops.{take_next, elem_snoc, distinct_snoc}
use Rattle.lists.proofs.Padded.{length_out, padded_out, padded_joined}
use Rattle.arrivals.specs.Sizes.{threads, no_entry}
use Rattle.arrivals.specs.Arrivals.{place_of, MovedUp, Listed}
use Rattle.arrivals.proofs.Places.{place_first, place_most, place_out, place_moved}

-- what is left of the list
abbrev pub rest : List ℕ → ℕ → List ℕ → ℕ → List ℕ
rest list count ts i = without (take i ts) (take count list)

pub record TakingOut (list : List ℕ) (count : ℕ) (ts : List ℕ) (n : ℕ) (left at : List ℕ) (i : ℕ) : Type 0 where
  pub within : i ≤ n
  pub counted : length (rest list count ts i) + i ≡ count
  pub stored : left ≡ pad_to threads no_entry (rest list count ts i)
  pub places : (t : ℕ) → t < threads → elem t (take i ts) ≡ false → get_or at t 0 ≡ place_of t (rest list count ts i)

module _ (list : List ℕ) (count : ℕ) (place ts : List ℕ) (n : ℕ) (pre : Listed list count place ts n) where
  pub out_start : length list ≡ threads → TakingOut list count ts n list place 0
  out_start long =
      let whole = take count list in
      let same : without [] whole ≡ whole = filter_true whole in
      record {
        within = omega arith;
        counted = omega (arith, ap length same, length-take-le count list (omega (arith, pre.listing.few)));
        stored = pre.listing.stored ∙ ap (pad_to threads no_entry) (sym same);
        places = λ t h e. pre.listing.places t h ∙ ap (place_of t) (sym same);
      }

  -- one turn: the thread x, whose place is p
  module _ (size : n ≤ length ts) (left at : List ℕ) (i : ℕ) (g : TakingOut list count ts n left at i) (on : i < n) where
    abbrev whole : List ℕ
    whole = take count list

    abbrev l : List ℕ
    l = rest list count ts i

    abbrev x : ℕ
    x = get_or ts i 0

    abbrev p : ℕ
    p = place_of x l

    next : take (i + 1) ts ≡ take i ts ++ (x ∷ [])
    next = take_next ts i 0 (omega (arith, pre.few))

    in_whole : elem x whole ≡ true
    in_whole =
        elem_all (λ t. elem t whole) (take n ts) pre.each x
        (ap (λ t. elem t (take n ts)) (sym (get_or-take n ts i 0 on)) ∙ elem_get_d (take n ts) i 0 (omega (arith, pre.few, length-take-le n ts (omega (arith, pre.few)))))

    pub out_low : get_or ts i 0 < threads
    out_low = ltb-true x threads (elem_all (λ t. ltb t threads) whole pre.listing.low x in_whole)

    -- it was not taken out before
    fresh : elem x (take i ts) ≡ false
    fresh =
        let once : distinct (take (i + 1) ts) ≡ true =
        occurs_distinct (take (i + 1) ts)
        (λ t. omega (arith, distinct_occurs t (take n ts) pre.apart, ap (occurs t) (take-take (i + 1) n ts (omega arith)), occurs_take_le (i + 1) t (take n ts))) in
        not-true (elem x (take i ts))
        (and_right (distinct (take i ts)) (not (elem x (take i ts))) (sym (distinct_snoc (take i ts) x) ∙ ap distinct (sym next) ∙ once))

    there : elem x l ≡ true
    there = elem_filter (λ t. not (elem t (take i ts))) x whole (ap not fresh) ∙ in_whole

    apart : distinct l ≡ true
    apart = occurs_distinct l (λ t. omega (arith, distinct_occurs t whole pre.listing.apart, occurs_filter_le (λ u. not (elem u (take i ts))) t whole))

    is_place : get_or at x 0 ≡ p
    is_place = g.places x out_low fresh

    first : 1 ≤ p
    first = place_first x l there

    few : length l ≤ threads
    few = omega (arith, g.counted, pre.listing.few)

    -- the place is one of the list's
    pub out_within : (1 ≤ get_or at (get_or ts i 0) 0) × (get_or at (get_or ts i 0) 0 ≤ threads)
    out_within = (omega (arith, is_place, first), omega (arith, is_place, place_most x l, few))

    less_one : without (x ∷ []) l ≡ rest list count ts (i + 1)
    less_one = without_append (take i ts) (x ∷ []) whole ∙ ap (λ us. without us whole) (sym next)

    shorter_is : take (p - 1) l ++ drop p l ≡ rest list count ts (i + 1)
    shorter_is = place_out x l apart there ∙ less_one

    next_places : (at' : List ℕ) → MovedUp at p at' → (t : ℕ) → t < threads → elem t (take (i + 1) ts) ≡ false
        → get_or at' t 0 ≡ place_of t (rest list count ts (i + 1))
    next_places at' moved t h e =
        let both : (elem t (take i ts) || eqb t x) ≡ false = sym (elem_snoc t (take i ts) x) ∙ ap (elem t) (sym next) ∙ e in
        let was = g.places t h (or_left (elem t (take i ts)) (eqb t x) both) in
        moved t h ∙ ap (λ q. q - bit (ltb p q)) was
        ∙ sym (place_moved x t l apart there (or_right (elem t (take i ts)) (eqb t x) both)) ∙ ap (place_of t) less_one

    pub out_next : (out : ℕ) (left' at' : List ℕ) → out ≡ get_or at (get_or ts i 0) 0 → left' ≡ take (out - 1) left ++ (drop out left ++ (no_entry ∷ []))
        → MovedUp at out at' → TakingOut list count ts n left' at' (i + 1)
    out_next out left' at' is shorter moved =
        let out_is : out ≡ p = is ∙ is_place in
        record {
          within = omega arith;
          counted = omega (arith, g.counted, length_out l p first (place_most x l), ap length shorter_is);
          stored = shorter ∙ (λ j. take (out_is j - 1) (g.stored j) ++ (drop (out_is j) (g.stored j) ++ (no_entry ∷ [])))
              ∙ padded_out l p first (place_most x l) threads no_entry few ∙ ap (pad_to threads no_entry) shorter_is;
          places = next_places at' (subst (λ q. MovedUp at q at') out_is moved);
        }

  -- all are taken out, and some of them join the end
  module _ (left at : List ℕ) (i : ℕ) (g : TakingOut list count ts n left at i) (end : n ≤ i) where
    all_out : i ≡ n
    all_out = omega (arith, g.within)

    pub out_counted : length (rest list count ts n) + n ≡ count
    out_counted = ap (λ k. length (rest list count ts k) + k) (sym all_out) ∙ g.counted

    pub out_joined : (ms : List ℕ) (m : ℕ) → m ≡ length ms
        → take (count - n) left ++ (ms ++ drop (count - n + m) left) ≡ pad_to threads no_entry (rest list count ts n ++ ms)
    out_joined ms m some =
        let l = rest list count ts n in
        let left_is : left ≡ pad_to threads no_entry l = g.stored ∙ ap (λ k. pad_to threads no_entry (rest list count ts k)) all_out in
        let short : count - n ≡ length l = omega (arith, out_counted) in
        (λ j. take (short j) (left_is j) ++ (ms ++ drop (short j + some j) (left_is j))) ∙ padded_joined threads no_entry l ms
