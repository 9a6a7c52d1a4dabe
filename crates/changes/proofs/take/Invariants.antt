use mathlib.Core.List.{◌++◌}
use Prim.Native.Nat.{◌+◌}
use lib.ListN.{length}
use Rattle.layout.specs.Layout.{state_at}
use Rattle.changes.proofs.OneByOne.{OneByOne}
use Rattle.changes.proofs.take.Given as goal

abbrev pub invariant-loop-t : goal.invariant-loop-t
invariant-loop-t l = OneByOne (state_at l.initial.b) (l.ended ++ l.moved) (length l.ended) (length l.ended + length l.moved) l.uaddr l.b l.at l.t-index

abbrev pub invariant-loop-t-2 : goal.invariant-loop-t-2
invariant-loop-t-2 l =
    OneByOne (state_at l.fn.b) (l.ended ++ l.moved) (length l.ended) (length l.ended + length l.moved) l.uaddr l.b l.at (length l.ended + l.t-index)
