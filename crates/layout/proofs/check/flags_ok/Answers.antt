use mathlib.Core.Path.{◌≡◌, refl, sym, ◌∙◌}
use mathlib.Core.Bool.{Bool, true, false}
use Prim.Native.Nat.{◌+◌}
use native.Mathlib.Omega.{arith}
use Rattle.std.specs.Int.{from_bool}
use Rattle.lists.specs.Lists.{bit, count_below}
use Rattle.lists.proofs.Tests.{bit_le}
use Rattle.lists.proofs.Count.{count_next, tested_start, tested_next, count_below_le}
use Rattle.tables.specs.Sizes.{threads}
use Rattle.layout.specs.Check.{waits}
use Rattle.layout.proofs.check.flags_ok.Invariants.{fits}
use Rattle.layout.proofs.check.flags_ok.Goals as goal

pub loop-i-init : goal.loop-i-init
unfolding count_below
loop-i-init c = record { tested = tested_start threads _; counted = refl }

as_bit : (t : Bool) → from_bool t ≡ bit t
as_bit true = refl
as_bit false = refl

pub overflow_add-n : goal.overflow_add-n
overflow_add-n c =
    let w = waits c.args.b.now in
    omega (arith, count_below_le c.loop-i.i w, c.from-n.ensures ∙ as_bit (w c.loop-i.i), bit_le (w c.loop-i.i))

pub loop-i-preserved : goal.loop-i-preserved
loop-i-preserved c =
    let k = c.loop-i in
    let w = waits c.args.b.now in
    record {
      tested = tested_next threads (fits c.args.b.now c.args.place) k.ok _ k.i k.invariant.tested (omega arith) refl;
      counted = (λ j. k.invariant.counted j + (c.from-n.ensures ∙ as_bit (w k.i)) j) ∙ sym (count_next k.i w);
    }
