use Prim.Native.Nat.{◌+◌}
use Rattle.text.specs.Text.{word_digits, minus, count_line, refusal_line}
use Rattle.text.proofs.Puts.{puts_after}
use Rattle.text.proofs.put_refusal.Goals as goal

pub returns : goal.returns
unfolding refusal_line
returns c =
    let g = c.args in
    puts_after (word_digits + 1) g.k minus (count_line g.v) g.out.now c.put_count.result _ c.put_count.ensures
