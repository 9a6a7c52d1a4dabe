use mathlib.Core.Path.{sym, ◌∙◌}
use Rattle.rules.specs.declared.event.Event.TheVariants.{Call as CallEvent}
use Rattle.tables.specs.Tables.{world}
use Rattle.rules.specs.Calls.{first_rows}
use Rattle.rules.specs.Events.{own_rows, refusals}
use Rattle.rules.proofs.Rows.{passed_before}
use Rattle.refusals.proofs.Read.{own_verdict}
use Rattle.refusals.proofs.of_call.Goals as goal

pub returns : goal.returns
unfolding refusals
returns c =
    let w = world c.args.s c.args.words.now in
    let passed = passed_before (first_rows w) (own_rows (CallEvent c.args.c) w) (sym c.in_ok-tested.ensures) in
    rw (c.verdict_on.ensures, c.word_at-word.ensures)
    (own_verdict c.args.c c.args.s c.args.words.now _ _ c.thread_index.ensures c.word_index.ensures ∙ sym passed)
