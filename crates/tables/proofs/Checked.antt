-- The passes over list and records say what the rules say.
use mathlib.Core.Path.{◌≡◌, refl, sym, ap, ◌∙◌}
use mathlib.Core.Bool.{Bool, true, false, not, ◌&&◌, beq, and-false}
use mathlib.Core.List.{List}
use Prim.Native.Nat.{ℕ, ◌≤◌}
use native.Mathlib.Omega.{arith}
use borrow.Author.Tests.{eq-eqb, le-leb, ne_eqb}
use lib.ListN.{length}
use lib.Seq.{length-take-le}
use lib.Dec.{eqb}
use Rattle.std.specs.Prelude.{Some, None}
use Rattle.lists.specs.Lists.{elem, distinct, every_below, count_below}
use Rattle.lists.proofs.Tests.{cases, beq_true}
use Rattle.lists.proofs.Count.{every_below_ext, every_below_at, count_below_ext, distinct_counted}
use Rattle.arrivals.specs.Arrivals.{PlacedIn, place_of}
use Rattle.arrivals.proofs.Places.{place_absent, place_first}
use Rattle.tables.specs.declared.State.{State}
use Rattle.tables.specs.Sizes.{threads}
use Rattle.tables.specs.Editions.{present}
use Rattle.tables.specs.Tables.{thread_of, arrivals, numbers_ok, exact_ok, tail_ok, records_ok, tables_in, tables_ok}
use Rattle.tables.specs.Steps.{placed}

-- those have a place that are listed
placed_listed : (t : ℕ) (l : List ℕ) → not (eqb (place_of t l) 0) ≡ elem t l
placed_listed t l = cases (elem t l)
    (λ e. rw (e, ne_eqb (place_of t l) 0 (λ z. omega (arith, place_first t l e))))
    (λ e. rw (e, place_absent t l e))

-- a list that names something that is no thread
pub unnamed : (s : State) → PlacedIn (arrivals s) None → tables_ok s ≡ false
unfolding tables_in
unnamed s is = rw (sym is.named, and-false)

-- the records keep their rules, those wait that have a place, and as many as the list counts
abbrev pub kept : State → List ℕ → Bool
kept s place =
    every_below threads (λ t. beq (placed place t) (thread_of s t).waiting) && records_ok s && eqb (count_below threads (λ t. (thread_of s t).waiting)) s.count

-- those that have a place wait, and they are as many as the entries: so none is listed twice
module _ (s : State) (place : List ℕ) (is : PlacedIn (arrivals s) (Some place)) (size : length (arrivals s) ≡ s.count) where
  abbrev waits : ℕ → Bool
  waits t = (thread_of s t).waiting

  abbrev agree : Bool
  agree = every_below threads (λ t. beq (placed place t) (waits t))

  agree_exact : agree ≡ exact_ok present s
  agree_exact = every_below_ext threads (λ t. beq (placed place t) (waits t)) (λ t. beq (elem t (arrivals s)) (waits t))
      (λ t h. ap (λ b. beq b (waits t)) (ap (λ n. not (eqb n 0)) (is.places t h) ∙ placed_listed t (arrivals s)))

  counted : exact_ok present s ≡ true → eqb (count_below threads waits) s.count ≡ distinct (arrivals s)
  counted exact =
      let same = count_below_ext threads waits (λ t. elem t (arrivals s)) (λ t h. sym (beq_true (elem t (arrivals s)) (waits t) (every_below_at threads _ exact t h))) in
      (λ i. eqb (same i) (sym size i)) ∙ sym (distinct_counted threads (arrivals s) (sym is.named))

  all_said : (tail : Bool) → (tail && kept s place)
      ≡ (numbers_ok present s && distinct (arrivals s) && exact_ok present s && tail && records_ok s)
  all_said tail = rw (sym is.named) (cases (exact_ok present s)
      (λ x. rw (agree_exact ∙ x, x, counted x) (regroup (distinct (arrivals s)) tail (records_ok s)))
      (λ x. rw (agree_exact ∙ x, x) (none (distinct (arrivals s)) tail)))
    where
      regroup : (d t r : Bool) → (t && (r && d)) ≡ (d && true && t && r)
      regroup true true true = refl
      regroup true true false = refl
      regroup true false r = refl
      regroup false true true = refl
      regroup false true false = refl
      regroup false false r = refl

      none : (d t : Bool) → (t && false) ≡ (d && false && t && records_ok s)
      none true true = refl
      none true false = refl
      none false true = refl
      none false false = refl

pub checked : (s : State) (tail records : Bool) (place : List ℕ) → length s.threads ≡ threads → length s.list ≡ threads → s.count ≤ threads
    → PlacedIn (arrivals s) (Some place) → tail ≡ tail_ok s
    → records ≡ kept s place
    → (tail && records) ≡ tables_ok s
unfolding tables_in
checked s tail records place size entries few is same all =
    let n : length (arrivals s) ≡ s.count = length-take-le s.count s.list (omega arith) in
    rw (all) (all_said s place is n tail ∙ rw (same, eq-eqb (length s.threads) threads size, eq-eqb (length s.list) threads entries, le-leb s.count threads few))
