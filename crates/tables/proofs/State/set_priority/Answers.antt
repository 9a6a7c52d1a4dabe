use Rattle.std.proofs.Common.{rules}
use Rattle.tables.proofs.Stored.{sets_priority}
use Rattle.tables.proofs.State.set_priority.Goals as goal

pub returns : goal.returns
returns c = sets_priority c.args.priority c.args.t c.args.self c.with_priority.result (search rules) c.requires c.with_priority.ensures
