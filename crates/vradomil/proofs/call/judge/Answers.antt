use mathlib.Core.Path.{sym, ap, ◌∙◌}
use Rattle.tables.specs.declared.Thread.{Thread}
use Rattle.rules.specs.Answers.{first}
use Rattle.rules.specs.Calls.{call_rows}
use Rattle.refusals.proofs.Read.{own_verdict}
use Rattle.layout.specs.Layout.{state_at, words_at}
use Rattle.layout.proofs.Reading.{thread_read, clock_read}
use Rattle.commands.proofs.Places.{thread_below}
use Rattle.vradomil.proofs.call.judge.Goals as goal

pub returns : goal.returns
returns c =
    let b = c.args.tables.now in
    let x = c.thread_index.result in
    let waits = c.waits_at-waits.ensures ∙ ap (λ (y : Thread). y.waiting) (sym (thread_read b x (thread_below _ _ c.thread_index.ensures))) in
    let clock = c.u64_at-clock.ensures.0 ∙ clock_read b in
    c.verdict_on.ensures
    ∙ (λ j. first (call_rows c.args.c (waits j) (clock j) (c.word_at-word.ensures j)))
    ∙ own_verdict c.args.c (state_at b) (words_at c.args.words.now) x c.word_index.result c.thread_index.ensures c.word_index.ensures
