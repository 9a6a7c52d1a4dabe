use Rattle.text.specs.Text.{word_digits, decimal, newline, count_line}
use Rattle.text.proofs.Puts.{puts_then}
use Rattle.text.proofs.put_count.Goals as goal

pub returns : goal.returns
unfolding count_line
returns c =
    let g = c.args in
    puts_then word_digits g.k (decimal g.v) g.out.now c.put_decimal-j.result newline _ c.put_decimal-j.ensures
