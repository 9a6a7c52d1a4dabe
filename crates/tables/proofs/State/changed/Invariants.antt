use Rattle.std.proofs.Common.{◌≡◌, take}
use Rattle.tables.specs.Tables.{change, with_threads}
use Rattle.tables.specs.Steps.{changed_by}
use Rattle.tables.proofs.State.changed.Given as goal

abbrev pub invariant-loop-t : goal.invariant-loop-t
invariant-loop-t l = l.self ≡ with_threads (change (changed_by l.how) (take l.t-index l.ts) l.initial.self.threads) l.initial.self
