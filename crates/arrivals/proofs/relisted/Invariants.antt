use Rattle.std.proofs.Common.{◌+◌, ◌++◌, length}
use Rattle.arrivals.proofs.TakingOut.{TakingOut}
use Rattle.arrivals.proofs.relisted.Given as goal

abbrev pub invariant-loop-t : goal.invariant-loop-t
invariant-loop-t l = record {
  can_next : (goal.iterator-loop-t).can_next l.t-iterator;
  finite : (goal.iterator-loop-t).is_finite l.t-iterator;
  taken : TakingOut l.initial.list l.count (l.ended ++ l.moved) (length l.ended + length l.moved) l.list l.place (length l.yielded);
}
