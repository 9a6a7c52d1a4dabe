use Rattle.lists.proofs.Count.{Tested}
use Rattle.tables.specs.Sizes.{threads}
use Rattle.layout.specs.Check.{time_fits}
use Rattle.layout.proofs.check.times_ok.Given as goal

abbrev pub invariant-loop-i : goal.invariant-loop-i
invariant-loop-i l = Tested threads (time_fits l.time l.b) l.ok l.i
