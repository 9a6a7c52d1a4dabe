use mathlib.Core.Path.{ap}
use native.Mathlib.Omega.{arith}
use borrow.Author.Tests.{leb-false}
use lib.ListN.{set}
use Rattle.tables.specs.Sizes.{processes, bytes_per_process}
use Rattle.tables.specs.Tables.{world, write_word}
use Rattle.rules.specs.declared.event.Event.TheVariants.{Store}
use Rattle.rules.specs.Events.{refusals, effect}
use Rattle.rules.proofs.Passed.{memory_is}
use Rattle.commands.proofs.Places.{word_below, word_there}
use Rattle.kernel.proofs.Steps.{cleared, follows_refused, follows_passed}
use Rattle.kernel.proofs.event.store.Goals as goal

pub bounds-words-word_index : goal.bounds-words-word_index
unfolding refusals
bounds-words-word_index c =
    let clear = cleared (Store c.args.process c.args.address c.args.value) c.args.s c.args.words.now c.in-Ok.ensures in
    omega (arith, word_below _ _ c.word_index.ensures, memory_is (world c.args.s c.args.words.now) clear.0)

pub returns-in-Err : goal.returns-in-Err
returns-in-Err c =
    follows_refused (Store c.args.process c.args.address c.args.value) c.args.s c.args.words.now c.refused.result _ c.in-Err.ensures c.refused.ensures

pub returns-in-Ok : goal.returns-in-Ok
unfolding effect refusals write_word
returns-in-Ok c =
    let e = Store c.args.process c.args.address c.args.value in
    let clear = cleared e c.args.s c.args.words.now c.in-Ok.ensures in
    let at = word_there _ _ c.word_index.ensures (leb-false processes c.args.process clear.1.1.0) (leb-false bytes_per_process c.args.address clear.1.1.1.1.0) in
    follows_passed e c.args.s c.args.words.now c.counted.result _ c.in-Ok.ensures c.counted.ensures
    (ap (λ i. set c.args.words.now i c.args.value) at)
