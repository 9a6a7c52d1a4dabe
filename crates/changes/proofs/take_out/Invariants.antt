use Rattle.tables.specs.Sizes.{threads}
use Rattle.layout.specs.Layout.{list_at}
use Rattle.changes.proofs.Shifting.{Shifting}
use Rattle.changes.proofs.take_out.Given as goal

abbrev pub invariant-loop-i : goal.invariant-loop-i
invariant-loop-i l = Shifting l.initial.b list_at threads l.place l.b l.i
