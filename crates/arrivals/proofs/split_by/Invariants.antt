use Rattle.std.proofs.Common.{take}
use Rattle.arrivals.specs.Arrivals.{flagged}
use Rattle.arrivals.proofs.Splitting.{Splitting}
use Rattle.arrivals.proofs.split_by.Given as goal

abbrev pub invariant-loop-e : goal.invariant-loop-e
invariant-loop-e l = Splitting (flagged l.flags) (take l.e-index l.list) l.split.left l.split.taken l.split.count l.split.n
