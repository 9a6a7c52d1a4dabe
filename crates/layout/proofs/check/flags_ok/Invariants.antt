use mathlib.Core.Path.{◌≡◌}
use mathlib.Core.Bool.{Bool, ◌&&◌}
use mathlib.Core.List.{List}
use Prim.Native.Nat.{ℕ}
use Rattle.lists.specs.Lists.{count_below}
use Rattle.lists.proofs.Count.{Tested}
use Rattle.tables.specs.Sizes.{threads}
use Rattle.layout.specs.Check.{flags_fit, agrees, waits}
use Rattle.layout.proofs.check.flags_ok.Given as goal

abbrev pub fits : List ℕ → List ℕ → ℕ → Bool
fits b place i = flags_fit b i && agrees place b i

pub record Going (b place : List ℕ) (ok : Bool) (n i : ℕ) : Type 0 where
  pub tested : Tested threads (fits b place) ok i
  pub counted : n ≡ count_below i (waits b)

abbrev pub invariant-loop-i : goal.invariant-loop-i
invariant-loop-i l = Going l.b l.place l.ok l.n l.i
