-- The walks along the arrival list, turn by turn, however its entries are read: where each thread stands in it, and that the entries past the
-- count name none.
use mathlib.Core.Path.{◌≡◌, refl, sym, ap, ◌∙◌}
use mathlib.Core.Bool.{Bool, true, cond, ◌&&◌}
use mathlib.Core.List.{List, [], ◌∷◌, ◌++◌}
use Prim.Native.Nat.{ℕ, suc, ◌+◌, ◌-◌, ◌%◌, ◌≤◌, ◌<◌}
use native.Mathlib.Omega.{arith}
use lib.ListN.{length, drop, get_or, set, replicate, length-set}
use lib.Dec.{eqb, ltb}
use borrow.Author.Tests.{ltb-true}
use Rattle.lists.specs.Lists.{all}
use Rattle.lists.proofs.Tests.{and_left, and_right, eqb_refl}
use Rattle.lists.proofs.Filter.{get_d_replicated}
use Rattle.lists.proofs.Loops.{all_snoc, stored_at}
use Rattle.arrivals.specs.Sizes.{threads, no_entry}
use Rattle.arrivals.specs.Arrivals.{place_of, Places}
use Rattle.arrivals.proofs.Places.{place_snoc}

-- A loop has noted whether the entries so far are threads alone, and then where each stands.
pub record Noted (l : List ℕ) (low : Bool) (place : List ℕ) : Type 0 where
  pub size : length place ≡ threads
  pub named : low ≡ all (λ t. ltb t threads) l
  pub places : low ≡ true → Places place l

pub noted_start : Noted [] true (replicate threads 0)
noted_start = record { size = refl; named = refl; places = λ e t h. get_d_replicated threads t 0 }

-- one entry x more, at the index j
module _ (l : List ℕ) (low : Bool) (place : List ℕ) (x j k : ℕ) (g : Noted l low place) (is : j ≡ x % threads) (counted : k ≡ length l) where
  entry_placed : (low && ltb x threads) ≡ true → Places (set place j (k + 1)) (l ++ (x ∷ []))
  entry_placed e t h =
      let below : x < threads = ltb-true x threads (and_right low (ltb x threads) e) in
      let at : j ≡ x = is ∙ omega arith in
      let old = g.places (and_left low (ltb x threads) e) in
      let last : k + 1 ≡ place_of x (l ++ (x ∷ [])) =
      omega (arith, place_snoc x l x ∙ ap (λ b. cond b (suc (length l)) (place_of x l)) (eqb_refl x)) in
      ap (λ n. get_or (set place n (k + 1)) t 0) at
      ∙ stored_at place 0 (λ u. place_of u (l ++ (x ∷ []))) x (k + 1) (omega (arith, g.size)) last t
      (λ d. old t h ∙ sym (place_snoc t l x ∙ ap (λ b. cond b (suc (length l)) (place_of t l)) d))

  pub noted_next : Noted (l ++ (x ∷ [])) (low && ltb x threads) (set place j (k + 1))
  noted_next = record {
    size = length-set place j (k + 1) ∙ g.size;
    named = ap (◌&& ltb x threads) g.named ∙ sym (all_snoc (λ t. ltb t threads) l x);
    places = entry_placed;
  }

abbrev is_no_entry : ℕ → Bool
is_no_entry e = eqb e no_entry

-- the later of two places
abbrev later : ℕ → ℕ → ℕ
later i count = i + (count - i)

-- A loop that tests the entries past the count has come to the i-th: what is tested, and what is left to test, give the whole test.
pub record Ending (list : List ℕ) (count : ℕ) (ok : Bool) (k i : ℕ) : Type 0 where
  pub within : i ≤ threads
  pub counted : k ≡ i
  pub done : all is_no_entry (drop count list) ≡ (ok && all is_no_entry (drop (later i count) list))
