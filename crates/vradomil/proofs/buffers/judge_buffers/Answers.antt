use Rattle.vradomil.proofs.FirstRows.{wrong_long, judged}
use Rattle.vradomil.proofs.buffers.judge_buffers.Goals as goal

pub returns-then-words-ne-WORDS_SIZE : goal.returns-then-words-ne-WORDS_SIZE
returns-then-words-ne-WORDS_SIZE c = rw c.refused.ensures (wrong_long c.args.tables.now c.args.words.now c.if-words-ne-WORDS_SIZE.true)

pub returns : goal.returns
returns c =
    rw (c.ok_or.ensures.value, c.refused-2.ensures) (judged c.args.tables.now c.args.words.now c.if-words-ne-WORDS_SIZE.false c.sound.result c.sound.ensures)
