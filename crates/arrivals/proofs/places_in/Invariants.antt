use lib.ListN.{take}
use Rattle.arrivals.proofs.Walking.{Noted}
use Rattle.arrivals.proofs.places_in.Given as goal

abbrev pub invariant-loop-i : goal.invariant-loop-i
invariant-loop-i l = Noted (take l.i l.list) l.low l.place
