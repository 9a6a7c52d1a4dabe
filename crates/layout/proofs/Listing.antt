-- The arrival list, as the bytes have it.
use mathlib.Core.Path.{◌≡◌, sym, ap, ◌∙◌}
use mathlib.Core.List.{List}
use Prim.Native.Nat.{ℕ, ◌≤◌}
use lib.ListN.{take, drop}
use lib.Seq.{take-take}
use Rattle.tables.specs.Sizes.{threads}
use Rattle.layout.specs.Layout.{list_at}

module _ (b : List ℕ) (n : ℕ) (few : n ≤ threads) where
  pub listed_front : (m : ℕ) → m ≡ n → take m (drop list_at b) ≡ take n (take threads (drop list_at b))
  listed_front m e = ap (λ j. take j (drop list_at b)) e ∙ sym (take-take n threads (drop list_at b) few)
