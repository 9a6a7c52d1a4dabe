use mathlib.Core.Path.{◌≡◌, ap, ◌∙◌}
use Rattle.std.specs.Prelude.{Some, None}
use lib.ListN.{set}
use Rattle.tables.specs.Sizes.{memory_words}
use Rattle.tables.specs.Tables.{write_word}
use Rattle.layout.specs.Layout.{words_at, words_bytes}
use Rattle.layout.proofs.Exact.{words_exact}
use Rattle.vradomil.proofs.Memory.{word_written}
use Rattle.commands.proofs.Places.{word_below, word_there}
use Rattle.vradomil.proofs.call.put_word.Goals as goal
use Rattle.vradomil.proofs.call.put_word.Goals.{After-word_index}

pub returns-in-Some : goal.returns-in-Some
unfolding write_word
returns-in-Some c =
    λ s.
    let m = c.args.words.now in
    let writes : c.args.d.word ≡ Some c.in-Some.word = c.in-Some.is in
    let at = word_there _ _ c.word_index.ensures c.requires.0 (c.requires.1 (rw writes)) in
    rw writes (c.put_u32.ensures ∙ word_written memory_words m c.word_index.result c.in-Some.word c.told-words c.fits-words (word_below _ _ c.word_index.ensures)
    ∙ ap (λ j. words_bytes (set (words_at m) j c.in-Some.word)) at)

pub returns-in_default : goal.returns-in_default
returns-in_default c =
    λ s.
    let keeps : c.args.d.word ≡ None = c.in_default.is in
    rw keeps (words_exact memory_words c.args.words.now c.told-words c.fits-words)
