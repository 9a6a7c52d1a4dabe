use Rattle.tables.specs.declared.LastAnswer.TheVariants.{TimedOut}
use Rattle.layout.specs.Layout.{state_at}
use Rattle.changes.specs.Change.{is_due}
use Rattle.changes.proofs.Sifting.{sifted_numbers, sifted_ends, nobody_ends}
use Rattle.changes.proofs.end_due.Goals as goal

pub returns-then-not-some_due : goal.returns-then-not-some_due
returns-then-not-some_due c =
    let b = c.args.b.now in
    let s = state_at b in
    nobody_ends (is_due c.args.time s) s c.requires.sound TimedOut b c.requires.bytes c.some_due.result c.some_due.ensures c.if-not-some_due.true

pub end_all-requires : goal.end_all-requires
end_all-requires c =
    let s = state_at c.args.b.now in
    let e = c.sift-n in
    sifted_numbers (is_due c.args.time s) s c.requires.sound e.new.b e.new.who e.result e.ensures

pub returns : goal.returns
returns c =
    let s = state_at c.args.b.now in
    let e = c.sift-n in
    sifted_ends (is_due c.args.time s) s c.requires.sound e.new.b e.new.who e.result e.ensures TimedOut c.end_all.new.b c.end_all.ensures
