use mathlib.Core.Path.{◌≡◌, sym, ap, ◌∙◌}
use mathlib.Core.Bool.{true}
use lib.ListN.{get_or}
use Rattle.rules.specs.declared.event.Uses.{Uses}
use Rattle.tables.specs.Tables.{world}
use Rattle.rules.specs.Commands.{command_of, uses}
use Rattle.rules.specs.Calls.{old_word}
use Rattle.commands.proofs.Places.{word_there}
use Rattle.effects.proofs.plan_of.Goals as goal

pub returns : goal.returns
returns c =
    let words = c.args.words.now in
    let w = world c.args.s words in
    let word : (uses (command_of c.args.c.op)).second ≡ true → get_or words c.word_index.result 0 ≡ old_word c.args.c w =
    λ d. ap (λ j. get_or words j 0) (word_there _ _ c.word_index.ensures c.requires.0.ready.process (c.requires.0.second d)) in
    c.take_plan.ensures w c.requires.0 (sym (ap (λ (x : Uses). x.deadline) c.uses_by-u.ensures) ∙ c.if-u.false) c.view_of-v.ensures word
