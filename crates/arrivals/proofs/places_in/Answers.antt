use Rattle.std.proofs.Common.{sym, arith, take, get_or}
use lib.Seq.{length-take-le}
use Rattle.lists.proofs.Loops.{take_next}
use Rattle.arrivals.proofs.Walking.{noted_start, noted_next}
use Rattle.arrivals.proofs.places_in.Goals as goal

pub loop-i-init : goal.loop-i-init
loop-i-init c = noted_start

pub loop-i-preserved : goal.loop-i-preserved
loop-i-preserved c =
    let l = c.args.list.now in
    let k = c.loop-i in
    rw (take_next l k.i 0 (omega arith))
    (noted_next (take k.i l) k.low k.place (get_or l k.i 0) c.index_of.result k.i k.invariant c.index_of.ensures (sym (length-take-le k.i l (omega arith))))
