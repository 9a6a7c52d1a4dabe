use mathlib.Core.Path.{◌≡◌}
use Prim.Native.Nat.{ℕ, ◌<◌}
use lib.ListN.{get_or}
use Rattle.vradomil.proofs.Laying.{laid}
use Rattle.vradomil.proofs.event.vradomil_fresh.Given as goal

abbrev pub invariant-loop-i : goal.invariant-loop-i
invariant-loop-i l = (t : ℕ) → t < l.i → get_or l.tables t 0 ≡ laid t
