use Rattle.std.proofs.Common.{rules, tests, false}
use Rattle.lists.proofs.Mapped.{mapped}
use Rattle.tables.specs.Sizes.{threads}
use Rattle.tables.specs.Tables.{fresh_thread, expired}
use Rattle.tables.proofs.State.expired.Goals as goal

pub returns : goal.returns
returns c t low =
    mapped _ _ (expired c.args.now) (λ x y q k. search (rules, tests)) c.args.self.threads c.map.result threads c.map.ensures.items t low fresh_thread false
