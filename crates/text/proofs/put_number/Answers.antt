use mathlib.Core.Path.{◌≡◌, ap, ◌∙◌}
use mathlib.Core.Bool.{cond}
use native.Mathlib.Omega.{arith}
use lib.IntN.{nat_abs}
use lib.Dec.{eqb}
use mir.Facts.{to_z-of_z}
use borrow.Author.Tests.{eq-eqb, ne_eqb}
use Rattle.rules.specs.Answers.{asleep_number}
use Rattle.text.specs.Text.{asleep_line, count_line, refusal_line, host_line, line_room}
use Rattle.text.proofs.Puts.{puts_same, puts_within}
use Rattle.text.proofs.Signs.{below, above}
use Rattle.text.proofs.put_number.Goals as goal
use Rattle.text.proofs.put_number.Goals.{Else-negative}

pub returns-then-negative : goal.returns-then-negative
returns-then-negative c =
    let z = to_z-of_z c.ranges.z in
    puts_same (ap refusal_line (c.unsigned_abs-n.ensures.value ∙ ap nat_abs z) ∙ below c.args.z (rw z at c.if-negative.true)) c.put_refusal.ensures

-- a number that is not below 0
line : (c : Else-negative) → let n = c.unsigned_abs-n.result in cond (eqb n asleep_number) asleep_line (count_line n) ≡ host_line c.args.z
line c =
    let z = to_z-of_z c.ranges.z in
    ap (λ n. cond (eqb n asleep_number) asleep_line (count_line n)) (c.unsigned_abs-n.ensures.value ∙ ap nat_abs z) ∙ above c.args.z (rw z at c.if-negative.false)

pub returns-then-n-eq-ASLEEP : goal.returns-then-n-eq-ASLEEP
returns-then-n-eq-ASLEEP c =
    let n = c.unsigned_abs-n.result in
    puts_same (rw (eq-eqb n asleep_number c.if-n-eq-ASLEEP.true) at (line (goal.at.returns-then-n-eq-ASLEEP c).Else-negative)) (puts_within line_room (omega (arith, c.put.ensures.within)) c.put.ensures)

pub returns-else-n-eq-ASLEEP : goal.returns-else-n-eq-ASLEEP
returns-else-n-eq-ASLEEP c =
    let n = c.unsigned_abs-n.result in
    puts_same (rw (ne_eqb n asleep_number c.if-n-eq-ASLEEP.false) at (line (goal.at.returns-else-n-eq-ASLEEP c).Else-negative)) (puts_within line_room (omega (arith, c.put_count.ensures.within)) c.put_count.ensures)
