use native.Mathlib.Omega.{arith}
use borrow.Author.Tests.{eq-eqb}
use borrow.Author.Rules.{rules}
use lib.ListN.{length}
use Rattle.layout.specs.Layout.{tables_size}
use Rattle.lists.proofs.Loops.{stored_next}
use Rattle.vradomil.proofs.Laying.{laid, laid_down}
use Rattle.vradomil.proofs.event.vradomil_fresh.Goals as goal

pub loop-i-preserved : goal.loop-i-preserved
loop-i-preserved c = stored_next c.loop-i.tables 0 laid c.loop-i.i _ (omega arith) c.loop-i.invariant (search rules)

pub returns : goal.returns
returns c =
    let long = c.if-tables-ne-TABLES_SIZE.false in
    let same = eq-eqb (length c.args.tables.now) tables_size long in
    record { number = rw same; bytes = rw same (laid_down c.loop-i.tables (omega arith) (λ t h. c.loop-i.invariant t (omega arith))) }
