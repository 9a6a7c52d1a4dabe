use Rattle.lists.proofs.Count.{Tested}
use Rattle.tables.specs.Sizes.{threads}
use Rattle.layout.specs.Check.{place_fits}
use Rattle.layout.proofs.Gathering.{gathered}
use Rattle.layout.proofs.check.places_ok.Given as goal

abbrev pub invariant-loop-i : goal.invariant-loop-i
invariant-loop-i l = Tested threads (place_fits l.b) (gathered l.ok l.stray l.all) l.i
