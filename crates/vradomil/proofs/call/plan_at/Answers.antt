use mathlib.Core.Path.{◌≡◌, sym, ap, ◌∙◌}
use mathlib.Core.Bool.{true}
use lib.ListN.{get_or}
use Rattle.rules.specs.declared.event.Uses.{Uses}
use Rattle.tables.specs.Tables.{world}
use Rattle.rules.specs.Commands.{command_of, uses}
use Rattle.rules.specs.Calls.{old_word}
use Rattle.commands.proofs.Places.{word_there}
use Rattle.layout.specs.Layout.{state_at, words_at}
use Rattle.layout.proofs.Reading.{clock_read}
use Rattle.vradomil.proofs.call.plan_at.Goals as goal

pub returns-then-uses_by : goal.returns-then-uses_by
returns-then-uses_by c =
    let b = c.args.b.now in
    c.sleep_plan.ensures (world (state_at b) (words_at c.args.words.now)) c.requires.granted (sym (ap (λ (x : Uses). x.deadline) c.uses_by.ensures) ∙ c.if-uses_by.true)
    (c.u64_at.ensures.0 ∙ clock_read b)

pub returns : goal.returns
returns c =
    let ws = words_at c.args.words.now in
    let w = world (state_at c.args.b.now) ws in
    let word : (uses (command_of c.args.c.op)).second ≡ true → c.word_at-old.result ≡ old_word c.args.c w =
    λ d. c.word_at-old.ensures ∙ ap (λ j. get_or ws j 0) (word_there _ _ c.word_index.ensures c.requires.granted.ready.process (c.requires.granted.second d)) in
    c.take_plan.ensures w c.requires.granted (sym (ap (λ (x : Uses). x.deadline) c.uses_by.ensures) ∙ c.if-uses_by.false) c.view_at-v.ensures word
