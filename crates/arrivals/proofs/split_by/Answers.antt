use Rattle.std.proofs.Common.{◌≡◌, ◌∙◌, ◌<◌, ap, sym, arith, length, take, get_or}
use lib.Seq.{length-take-le, take_all}
use Rattle.lists.proofs.Loops.{take_next}
use Rattle.arrivals.specs.Sizes.{threads}
use Rattle.arrivals.specs.Arrivals.{flagged, split_of}
use Rattle.arrivals.proofs.Splitting.{splitting_taken, splitting_left, splitting_all, part_few}
use Rattle.arrivals.proofs.split_by.Goals as goal
use Rattle.arrivals.proofs.split_by.Goals.{After-index_of, then-flags-index_of, else-flags-index_of}

-- an entry is left to look at, so that both arrays have room
module _ (c : After-index_of) where
  size : length (take c.loop-e.e-index c.args.list.now) ≡ c.loop-e.e-index
  size = length-take-le c.loop-e.e-index c.args.list.now (omega arith)

  room : length (take c.loop-e.e-index c.args.list.now) < threads
  room = omega (arith, size, c.requires.few)

  taken_few : c.loop-e.split.n < threads
  taken_few = omega (arith, room, part_few _ _ _ _ c.loop-e.invariant.out)

  left_few : c.loop-e.split.count < threads
  left_few = omega (arith, room, part_few _ _ _ _ c.loop-e.invariant.kept)

pub bounds-split-split : goal.bounds-split-split
bounds-split-split c = taken_few (goal.at.bounds-split-split c).After-index_of

pub overflow_add-split : goal.overflow_add-split
overflow_add-split c = omega (arith, taken_few (goal.at.overflow_add-split c).After-index_of)

pub bounds-split-split-else-flags-index_of : goal.bounds-split-split-else-flags-index_of
bounds-split-split-else-flags-index_of c = left_few (goal.at.bounds-split-split-else-flags-index_of c).After-index_of

pub overflow_add-split-else-flags-index_of : goal.overflow_add-split-else-flags-index_of
overflow_add-split-else-flags-index_of c = omega (arith, left_few (goal.at.overflow_add-split-else-flags-index_of c).After-index_of)

pub loop-e-preserved : goal.loop-e-preserved
loop-e-preserved c =
    let list = c.args.list.now in
    let s = c.loop-e.split in
    let h = (goal.at.loop-e-preserved c).After-index_of in
    let x = get_or list c.loop-e.e-index 0 in
    let low = c.requires.below c.loop-e.e-index c.loop-e-test.true in
    let here : c.index_of.result ≡ x = c.index_of.ensures ∙ omega arith in
    let f = flagged c.args.flags in
    rw (take_next list c.loop-e.e-index 0 (omega arith)) (elim c.if-flags-index_of.branch [
      | then-flags-index_of w ↦ rw w.split-is (splitting_taken f (take c.loop-e.e-index list) s.left s.taken s.count s.n c.loop-e.invariant (room h) x (ap f (sym here) ∙ w.if-flags-index_of.true))
      | else-flags-index_of w ↦ rw w.split-is (splitting_left f (take c.loop-e.e-index list) s.left s.taken s.count s.n c.loop-e.invariant (room h) x (ap f (sym here) ∙ w.if-flags-index_of.false))
    ])

pub returns : goal.returns
returns c =
    let s = c.loop-e.split in
    let f = flagged c.args.flags in
    splitting_all f (take c.loop-e.e-index c.args.list.now) s.left s.taken s.count s.n c.loop-e.invariant ∙ ap (split_of f) (take_all c.loop-e.e-index c.args.list.now (omega arith))
