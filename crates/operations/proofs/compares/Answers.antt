use Rattle.std.proofs.Common.{◌≡◌, eqb, ltb, not, rules, sym, ap, ◌∙◌}
use Rattle.lists.proofs.Tests.{not_ltb}
use Rattle.tables.specs.Sizes.{word_bits}
use Rattle.rules.specs.Signed.{turned}
use Rattle.rules.specs.WakeOp.{compare_by, compares}
use Rattle.rules.proofs.WakeOp.{compares_by}
use Rattle.operations.proofs.compares.Goals as goal
use Rattle.operations.proofs.compares.Goals.{After-cmp_field}

-- the comparison of the words that were turned
compared : (c : After-cmp_field) → let s = c in
    compare_by eqb ltb c.cmp_field.result c.turned-y.result c.turned-x.result ≡ compares s.args.v s.args.old
compared c =
    let s = c in
    compares_by s.args.v s.args.old c.cmp_field.result c.turned-x.result c.turned-y.result s.ranges.old.fits
    c.cmp_field.ensures
    (c.turned-x.ensures ∙ ap (turned word_bits) c.cmp_arg.ensures)
    c.turned-y.ensures

pub returns-in-0 : goal.returns-in-0
unfolding compare_by
returns-in-0 c = rw c.in-0.is at (compared c.before)

pub returns-in-1 : goal.returns-in-1
unfolding compare_by
returns-in-1 c = rw c.in-1.is at (compared c.before)

pub returns-in-2 : goal.returns-in-2
unfolding compare_by
returns-in-2 c = rw c.in-2.is at (compared c.before)

pub returns-in-3 : goal.returns-in-3
unfolding compare_by
returns-in-3 c = sym (not_ltb c.turned-x.result c.turned-y.result) ∙ rw c.in-3.is at (compared c.before)

pub returns-in-4 : goal.returns-in-4
unfolding compare_by
returns-in-4 c = rw c.in-4.is at (compared c.before)

pub returns-in_default : goal.returns-in_default
unfolding compare_by
returns-in_default c =
    let y = c.turned-y.result in
    let x = c.turned-x.result in
    let last : not (ltb y x) ≡ compare_by eqb ltb c.cmp_field.result y x = search rules in
    sym (not_ltb y x) ∙ (last ∙ compared c.before)
