use Rattle.std.proofs.Common.{◌∙◌, sym, ap, arith, rules}
use Rattle.tables.specs.Tables.{with_threads}
use Rattle.tables.specs.Steps.{changed_by}
use Rattle.tables.proofs.Changes.{change_none, changed_next}
use Rattle.tables.proofs.State.changed.Goals as goal

pub loop-t-init : goal.loop-t-init
loop-t-init c = let s = c.args.self in ap (λ rs. with_threads rs s) (sym (change_none (changed_by c.args.how) s.threads))

pub loop-t-preserved : goal.loop-t-preserved
loop-t-preserved c =
    let ts = c.args.ts.now in
    let i = c.loop-t.t-index in
    let e = c.requires.below i (omega arith) in
    changed_next c.args.how c.args.self c.loop-t.self ts i c.index_of-x.result c.changed.result (omega arith) (search rules) c.loop-t.invariant
    (c.index_of-x.ensures ∙ omega arith) c.changed.ensures
