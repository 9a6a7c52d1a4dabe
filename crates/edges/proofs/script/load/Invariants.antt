use Rattle.std.proofs.Common.{◌-◌, ◌≤◌}
use Rattle.edges.proofs.script.load.Given as goal

abbrev pub invariant-loop-at : goal.invariant-loop-at
invariant-loop-at g l = (l.at ≤ l.n) × (l.n ≤ 31)

abbrev pub decreases-loop-at : goal.decreases-loop-at
decreases-loop-at g l = l.n - l.at
