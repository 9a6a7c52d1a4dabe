use mathlib.Core.Path.{sym, ◌∙◌}
use Rattle.tables.specs.Sizes.{memory_words}
use Rattle.vradomil.proofs.Memory.{word_read}
use Rattle.vradomil.proofs.buffers.word_at.Goals as goal

pub returns : goal.returns
returns c = c.u32_at.ensures.0 ∙ sym (word_read memory_words c.args.words.now c.args.i c.told-words c.requires)
