use mathlib.Core.Path.{refl, sym, ap, ◌∙◌}
use lib.ListN.{set}
use borrow.Author.Tests.{leb-false}
use Rattle.lists.specs.LittleEndian.{Bytes}
use Rattle.rules.specs.declared.event.Event.TheVariants.{Store}
use Rattle.tables.specs.Sizes.{processes, bytes_per_process, memory_words}
use Rattle.tables.specs.Tables.{write_word}
use Rattle.rules.specs.Events.{store_rows, effect}
use Rattle.rules.proofs.Rows.{pass_clear}
use Rattle.layout.specs.Layout.{words_at, words_bytes}
use Rattle.vradomil.proofs.Memory.{word_written}
use Rattle.vradomil.proofs.Steps.{event_refused, event_passed, changes_words_refused, number_passed, words_passed, reason_passed}
use Rattle.commands.proofs.Places.{word_below, word_there}
use borrow.Author.Rules.{rules}
use Rattle.vradomil.proofs.event.store.Goals as goal

pub returns-in_err-judge_buffers-clause-told : goal.returns-in_err-judge_buffers-clause-told
returns-in_err-judge_buffers-clause-told c =
    let e = Store c.args.process c.args.address c.args.value in
    changes_words_refused e c.args.tables.now c.args.words.now
    (event_refused e c.args.tables.now c.args.words.now refl c.in_err-judge_buffers.ensures) c.from_residual.result c.from_residual.ensures.1 (search rules)

pub returns-in_err-verdict_on_store-clause-told : goal.returns-in_err-verdict_on_store-clause-told
returns-in_err-verdict_on_store-clause-told c =
    let e = Store c.args.process c.args.address c.args.value in
    changes_words_refused e c.args.tables.now c.args.words.now
    (event_passed e c.args.tables.now c.args.words.now refl c.in_ok-judge_buffers.ensures ∙ sym c.in_err-verdict_on_store.ensures)
    c.from_residual-in_err-verdict_on_store.result c.from_residual-in_err-verdict_on_store.ensures.1 (search rules)

pub returns-clause-told : goal.returns-clause-told
unfolding effect write_word
returns-clause-told c =
    let e = Store c.args.process c.args.address c.args.value in
    let b = c.args.tables.now in
    let m = c.args.words.now in
    let l = c.in_ok-judge_buffers.ensures in
    let own = pass_clear (store_rows c.args.process c.args.address) (sym c.in_ok-verdict_on_store.ensures) in
    let at = word_there _ _ c.word_index.ensures (leb-false processes c.args.process own.0) (leb-false bytes_per_process c.args.address own.1.1.0) in
    let low : Bytes m = search rules in
    let h = event_passed e b m refl l ∙ sym c.in_ok-verdict_on_store.ensures in
    let written = c.put_u32.ensures ∙ word_written memory_words m c.word_index.result c.args.value (l.long refl) low (word_below _ _ c.word_index.ensures)
    ∙ ap (λ x. words_bytes (set (words_at m) x c.args.value)) at in
    record {
      changes = record { number = number_passed e b m h refl; bytes = words_passed e b m h written; report = refl; fits = search rules };
      reason = reason_passed e b m h;
    }
