use mathlib.Core.Path.{◌≡◌}
use mathlib.Core.Bool.{cond}
use Prim.Native.Nat.{ℕ, ◌+◌, ◌-◌, ◌<◌}
use lib.ListN.{get_or}
use lib.Dec.{ltb}
use Rattle.views.specs.Views.{by_rank}
use Rattle.plans.proofs.chosen.Given as goal

abbrev pub invariant-loop-k : goal.invariant-loop-k
invariant-loop-k l = (t : ℕ) → t < l.k → get_or l.t-items t 0 ≡ by_rank l.process l.rank (cond (ltb t l.n) t (l.from + (t - l.n)))
