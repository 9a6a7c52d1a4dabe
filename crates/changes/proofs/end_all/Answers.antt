use mathlib.Core.Path.{◌≡◌, ◌∙◌}
use native.Mathlib.Omega.{arith}
use lib.ListN.{get_or}
use Rattle.tables.specs.declared.Change.TheVariants.{End}
use Rattle.changes.proofs.Changing.{changed_start, changed_more}
use Rattle.changes.proofs.end_all.Goals as goal

pub loop-t-init : goal.loop-t-init
loop-t-init c = changed_start (End c.args.last) c.args.ts.now c.args.b.now

pub loop-t-preserved : goal.loop-t-preserved
loop-t-preserved c =
    let k = c.loop-t in
    let e = c.requires.below k.t-index c.loop-t-test.true in
    let here : c.index_of.result ≡ get_or c.args.ts.now k.t-index 0 = c.index_of.ensures ∙ omega arith in
    changed_more (End c.args.last) c.args.ts.now c.args.b.now k.b c.end_sleep.new.b k.t-index c.index_of.result k.invariant
    c.loop-t-test.true here (omega (arith, here, e)) c.end_sleep.ensures
