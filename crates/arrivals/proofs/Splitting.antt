-- A list that a loop parts in two: the entries that pass a test and the others, each stored so far.
use mathlib.Core.Path.{◌≡◌, refl, sym, ap, ◌∙◌}
use mathlib.Core.Bool.{Bool, true, false, not, cond}
use mathlib.Core.List.{List, [], ◌∷◌, ◌++◌, append-nil}
use Prim.Native.Nat.{ℕ, ◌+◌, ◌≤◌, ◌<◌}
use native.Mathlib.Omega.{arith}
use lib.ListN.{length, set, replicate}
use Rattle.lists.specs.Lists.{filter, pad_to}
use Rattle.lists.proofs.Filter.{filter_append, length_filter}
use Rattle.lists.proofs.Loops.{length_snoc, pad_to_snoc}
use Rattle.arrivals.specs.Sizes.{threads, no_entry}
use Rattle.arrivals.specs.Arrivals.{split_of}

-- one part: the entries of l that pass
pub record Part (f : ℕ → Bool) (l : List ℕ) (part : List ℕ) (n : ℕ) : Type 0 where
  pub stored : part ≡ pad_to threads no_entry (filter f l)
  pub counted : n ≡ length (filter f l)

pub part_start : (f : ℕ → Bool) → Part f [] (replicate threads no_entry) 0
part_start f = record { stored = refl; counted = refl }

pub part_few : (f : ℕ → Bool) (l part : List ℕ) (n : ℕ) → Part f l part n → n ≤ length l
part_few f l part n g = omega (arith, g.counted, length_filter f l)

-- one entry more, which is stored where it passes
module _ (f : ℕ → Bool) (l part : List ℕ) (n : ℕ) (g : Part f l part n) (x : ℕ) where
  abbrev ps : List ℕ
  ps = filter f l

  pub part_more : length l < threads → f x ≡ true → Part f (l ++ (x ∷ [])) (set part n x) (n + 1)
  part_more room passes =
      let more : filter f (l ++ (x ∷ [])) ≡ ps ++ (x ∷ []) = filter_append f l (x ∷ []) ∙ ap (λ b. ps ++ cond b (x ∷ []) []) passes in
      record {
        stored = (λ j. set (g.stored j) (g.counted j) x) ∙ pad_to_snoc threads no_entry ps x (omega (arith, length_filter f l)) ∙ ap (pad_to threads no_entry) (sym more);
        counted = omega (arith, g.counted, length_snoc ps x, ap length more);
      }

  pub part_same : f x ≡ false → Part f (l ++ (x ∷ [])) part n
  part_same fails =
      let same : ps ≡ filter f (l ++ (x ∷ [])) = sym (filter_append f l (x ∷ []) ∙ ap (λ b. ps ++ cond b (x ∷ []) []) fails ∙ append-nil ps) in
      record { stored = g.stored ∙ ap (pad_to threads no_entry) same; counted = g.counted ∙ ap length same }

-- both parts
pub record Splitting (f : ℕ → Bool) (l left taken : List ℕ) (w n : ℕ) : Type 0 where
  pub kept : Part (λ t. not (f t)) l left w
  pub out : Part f l taken n

pub splitting_start : (f : ℕ → Bool) → Splitting f [] (replicate threads no_entry) (replicate threads no_entry) 0 0
splitting_start f = record { kept = part_start (λ t. not (f t)); out = part_start f }

module _ (f : ℕ → Bool) (l left taken : List ℕ) (w n : ℕ) (g : Splitting f l left taken w n) (room : length l < threads) (x : ℕ) where
  pub splitting_taken : f x ≡ true → Splitting f (l ++ (x ∷ [])) left (set taken n x) w (n + 1)
  splitting_taken passes = record {
    kept = part_same (λ t. not (f t)) l left w g.kept x (ap not passes);
    out = part_more f l taken n g.out x room passes;
  }

  pub splitting_left : f x ≡ false → Splitting f (l ++ (x ∷ [])) (set left w x) taken (w + 1) n
  splitting_left fails = record {
    kept = part_more (λ t. not (f t)) l left w g.kept x room (ap not fails);
    out = part_same f l taken n g.out x fails;
  }

pub splitting_all : (f : ℕ → Bool) (l left taken : List ℕ) (w n : ℕ) → Splitting f l left taken w n
    → record { left = left; count = w; taken = taken; n = n } ≡ split_of f l
unfolding split_of
splitting_all f l left taken w n g = λ j. record { left = g.kept.stored j; count = g.kept.counted j; taken = g.out.stored j; n = g.out.counted j }
