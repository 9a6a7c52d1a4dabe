use Prim.Native.Nat.{◌-◌}
use lib.Dec.{ltb}
use borrow.Author.Rules.{rules}
use Rattle.lists.specs.Lists.{bit}
use Rattle.lists.proofs.Mapped.{mapped}
use Rattle.changes.proofs.lowered.Goals as goal

pub returns : goal.returns
returns c = λ i low. mapped _ _ (λ p. p - bit (ltb c.args.out p)) (λ x y q call. search rules) _ _ _ c.map.ensures.items i low 0 0
