use mathlib.Core.Path.{◌≡◌, ap}
use Rattle.std.specs.Prelude.{Some}
use lib.ListN.{set}
use Rattle.tables.specs.Tables.{write_word}
use Rattle.commands.proofs.Places.{word_there}
use Rattle.effects.proofs.put_word.Goals as goal

pub returns-in-Some : goal.returns-in-Some
unfolding write_word
returns-in-Some c =
    λ s.
    let writes : c.args.d.word ≡ Some c.in-Some.word = c.in-Some.is in
    let at = word_there _ _ c.word_index.ensures c.requires.0 (c.requires.1.1 (rw writes)) in
    rw writes (ap (λ i. set c.args.words.now i c.in-Some.word) at)
