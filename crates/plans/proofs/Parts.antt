-- The first of some threads, and the next, up to two caps.
use mathlib.Core.Path.{◌≡◌, sym, ap, ◌∙◌}
use mathlib.Core.Bool.{Bool, true, false, cond}
use mathlib.Core.List.{List, [], ◌++◌}
use Prim.Native.Nat.{ℕ, ◌+◌, ◌-◌, min}
use native.Mathlib.Omega.{arith}
use lib.ListN.{length, take, drop, length-drop, drop_of_length-le}
use lib.Seq.{take-nil, take_all, take-length, take-take, take-add, take_at, drop_at, length-take-le}
use lib.Dec.{leb}
use borrow.Author.Tests.{leb-true, leb-false}
use Rattle.lists.proofs.Tests.{cases}
use Rattle.plans.specs.declared.Takes.{Takes}

-- the first cap of a word's sleepers run, the next cap2 move or run too
pub record AtOneWord (l : List ℕ) (cap cap2 : ℕ) (moves : Bool) (r : Takes) : Type 0 where
  pub released : take r.released r.taken ≡ cond moves (take cap l) (take (cap + cap2) l)
  pub moved : take r.moved (drop r.released r.taken) ≡ cond moves (take cap2 (drop cap l)) []

-- the first of each of two words run
pub record AtTwoWords (l : List ℕ) (cap : ℕ) (m : List ℕ) (cap2 : ℕ) (r : Takes) : Type 0 where
  pub released : take r.released r.taken ≡ take cap l ++ take cap2 m
  pub moved : r.moved ≡ 0

-- the first cap of a list, of which there may be fewer
take_capped : (l : List ℕ) (cap : ℕ) → take cap l ≡ take (min (length l) cap) l
take_capped l cap = cases (leb cap (length l))
    (λ e. let less = leb-true cap (length l) e in let m : min (length l) cap ≡ cap = omega arith in ap (λ k. take k l) (sym m))
    (λ e. let more = leb-false cap (length l) e in let m : min (length l) cap ≡ length l = omega arith in take_all cap l (omega arith) ∙ sym (take-length l) ∙ ap (λ k. take k l) (sym m))

-- and the next cap2
next_capped : (l : List ℕ) (cap cap2 : ℕ) → take cap2 (drop cap l) ≡ take (min (length l - min (length l) cap) cap2) (drop (min (length l) cap) l)
next_capped l cap cap2 = cases (leb cap (length l))
    (λ e.
    let less = leb-true cap (length l) e in
    let m : min (length l) cap ≡ cap = omega arith in
    take_capped (drop cap l) cap2 ∙ (λ i. take (min (length-drop cap l i) cap2) (drop cap l)) ∙ ap (λ k. take (min (length l - k) cap2) (drop k l)) (sym m))
    (λ e.
    let more = leb-false cap (length l) e in
    let none : min (length l - min (length l) cap) cap2 ≡ 0 = omega arith in
    ap (take cap2) (drop_of_length-le l {i = cap} (omega arith)) ∙ take-nil cap2 ∙ ap (λ k. take k (drop (min (length l) cap) l)) (sym none))

-- the two parts of what is taken
module _ (who one two : List ℕ) (n m : ℕ) (a : length one ≡ n) (b : length two ≡ m) (is : take (n + m) who ≡ one ++ two) where
  first_part : take n who ≡ one
  first_part = sym (take-take n (n + m) who (omega arith)) ∙ ap (take n) is ∙ take_at one two n a

  next_part : take m (drop n who) ≡ two
  next_part = sym (drop_at (take n who) (take m (drop n who)) n (ap length first_part ∙ a)) ∙ ap (drop n) (sym (take-add n m who) ∙ is) ∙ drop_at one two n a

pub one_word : (l who : List ℕ) (cap cap2 : ℕ) (moves : Bool) (n m away : ℕ) → n ≡ min (length l) cap → m ≡ min (length l - n) cap2 → away ≡ cond moves m 0
    → take (n + m) who ≡ take n l ++ take m (drop n l) → AtOneWord l cap cap2 moves (record { taken = who; released = n + (m - away); moved = away })
one_word l who cap cap2 moves n m away first next some is = by_moves moves some
  where
    next_is : m ≡ min (length l - min (length l) cap) cap2
    next_is = omega arith

    size_one : length (take n l) ≡ n
    size_one = length-take-le n l (omega arith)

    size_two : length (take m (drop n l)) ≡ m
    size_two = length-take-le m (drop n l) (omega (arith, length-drop n l))

    by_moves : (b : Bool) → away ≡ cond b m 0 → AtOneWord l cap cap2 b (record { taken = who; released = n + (m - away); moved = away })
    by_moves true e =
        let r : n + (m - away) ≡ n = omega arith in
        record {
          released = ap (λ j. take j who) r ∙ first_part who (take n l) (take m (drop n l)) n m size_one size_two is ∙ ap (λ j. take j l) first ∙ sym (take_capped l cap);
          moved = (λ i. take (e i) (drop (r i) who)) ∙ next_part who (take n l) (take m (drop n l)) n m size_one size_two is
              ∙ (λ i. take (next_is i) (drop (first i) l)) ∙ sym (next_capped l cap cap2);
        }
    by_moves false e =
        let r : n + (m - away) ≡ n + m = omega arith in
        let both : n + m ≡ min (length l) (cap + cap2) = omega arith in
        record {
          released = ap (λ j. take j who) r ∙ is ∙ sym (take-add n m l) ∙ ap (λ j. take j l) both ∙ sym (take_capped l (cap + cap2));
          moved = ap (λ j. take j (drop (n + (m - away)) who)) e;
        }

pub two_words : (l l2 who : List ℕ) (cap cap2 n m away : ℕ) → n ≡ min (length l) cap → m ≡ min (length l2) cap2 → away ≡ 0
    → take (n + m) who ≡ take n l ++ take m l2 → AtTwoWords l cap l2 cap2 (record { taken = who; released = n + (m - away); moved = away })
two_words l l2 who cap cap2 n m away first next none is =
    let r : n + (m - away) ≡ n + m = omega arith in
    record {
      released = ap (λ j. take j who) r ∙ is
          ∙ (λ i. (ap (λ k. take k l) first ∙ sym (take_capped l cap)) i ++ (ap (λ k. take k l2) next ∙ sym (take_capped l2 cap2)) i);
      moved = none;
    }
