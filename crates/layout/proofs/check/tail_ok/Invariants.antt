use mathlib.Core.List.{List}
use Prim.Native.Nat.{ℕ}
use lib.ListN.{take, drop}
use Rattle.tables.specs.Sizes.{threads}
use Rattle.layout.specs.Layout.{list_at}
use Rattle.arrivals.proofs.Walking.{Ending}
use Rattle.layout.proofs.check.tail_ok.Given as goal

abbrev pub list : List ℕ → List ℕ
list b = take threads (drop list_at b)

abbrev pub invariant-loop-e : goal.invariant-loop-e
invariant-loop-e l = Ending (list l.b) l.count l.ok l.k l.e-index
