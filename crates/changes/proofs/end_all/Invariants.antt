use Rattle.tables.specs.declared.Change.TheVariants.{End}
use Rattle.changes.proofs.Changing.{Changed}
use Rattle.changes.proofs.end_all.Given as goal

abbrev pub invariant-loop-t : goal.invariant-loop-t
invariant-loop-t l = Changed (End l.last) l.ts l.initial.b l.b l.t-index
