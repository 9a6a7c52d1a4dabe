use Rattle.std.proofs.Common.{◌<◌, arith}
use Rattle.std.specs.Prelude.{is_some, unwrap_or}
use Rattle.tables.specs.Sizes.{threads}
use Rattle.tables.proofs.Sound.{tables_sound, room}
use Rattle.tables.proofs.Stored.{falls_asleep}
use Rattle.tables.proofs.State.fall_asleep.Goals as goal
use Rattle.tables.proofs.State.fall_asleep.Goals.{Start}

-- the entry that is written is the first that is free
free : (c : Start) → c.args.self.count < threads
free c = room c.args.self (tables_sound c.args.self c.requires.0) c.args.t c.requires.1.0 c.requires.1.1

pub bounds-self-self : goal.bounds-self-self
bounds-self-self c = free (goal.at.bounds-self-self c).Start

pub overflow_add-self : goal.overflow_add-self
overflow_add-self c = omega (arith, free (goal.at.overflow_add-self c).Start)

pub returns : goal.returns
returns c =
    falls_asleep c.args.self (tables_sound c.args.self c.requires.0) c.args.t c.args.sleep.uaddr c.args.sleep.bitset (is_some c.args.sleep.deadline) (unwrap_or c.args.sleep.deadline 0)
    c.asleep_at.result c.requires.1.0 c.requires.1.1 c.asleep_at.ensures
