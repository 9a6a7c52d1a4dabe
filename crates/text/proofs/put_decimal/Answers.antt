use mathlib.Core.Path.{◌≡◌, ap, ◌∙◌}
use native.Mathlib.Omega.{arith}
use Prim.Native.Nat.{◌≤◌}
use lib.ListN.{length, take}
use Rattle.io.specs.Digits.{last_digits}
use Rattle.text.specs.Text.{word_digits, decimal}
use Rattle.text.proofs.Decimal.{decimal_is}
use Rattle.text.proofs.Puts.{puts_same, puts_within}
use Rattle.text.proofs.put_decimal.Goals as goal
use Rattle.text.proofs.put_decimal.Goals.{After-decimal-n}

-- what io::decimal left is the number's text, and short
left : (c : After-decimal-n)
    → let v = c.args.v in
    (take c.decimal-n.result c.decimal-n.new.out ≡ decimal v) × (length (decimal v) ≤ word_digits)
left c =
    let v = c.args.v in
    let n = c.decimal-n.result in
    let e = c.decimal-n.ensures in
    let same = c.from.ensures in
    let d = decimal_is v n (omega arith) (rw same at e.len) in
    (e.digits ∙ ap (last_digits 10 n) same ∙ d.0, omega (arith, d.1, d.2))

pub put-requires : goal.put-requires
put-requires c = let d = left (goal.at.put-requires c).After-decimal-n in omega (arith, ap length d.0, d.1)

pub returns : goal.returns
returns c =
    let d = left (goal.at.returns c).After-decimal-n in
    puts_within word_digits (omega (arith, c.put.ensures.next, ap length d.0, d.1)) (puts_same d.0 c.put.ensures)
