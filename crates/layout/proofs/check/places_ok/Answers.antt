use mathlib.Core.Path.{ap, ◌∙◌}
use mathlib.Core.Bool.{not, beq}
use native.Mathlib.Omega.{arith}
use lib.Dec.{eqb}
use Rattle.lists.proofs.Count.{tested_start}
use Rattle.tables.specs.Sizes.{threads}
use Rattle.layout.specs.Check.{place_ok, place_fits}
use Rattle.layout.specs.Layout.{thread_at}
use Rattle.layout.proofs.Gathering.{gathered, gathered_one, gathered_next}
use Rattle.layout.proofs.check.places_ok.Goals as goal

pub loop-i-init : goal.loop-i-init
loop-i-init c = tested_start threads _

pub loop-i-preserved : goal.loop-i-preserved
loop-i-preserved c =
    let b = c.args.b.now in
    let o = c.loop-i in
    let w = (thread_at b o.i).waiting in
    let a = c.u32_at-uaddr.result in
    let m = c.u32_at-bitset.result in
    let good = beq (not (eqb m 0)) w in
    gathered_next threads (place_fits b) o.ok good o.stray c.either-stray.result o.all a o.i o.invariant (omega arith)
    (ap (λ s. gathered good s a) c.either-stray.ensures ∙ gathered_one w a m ∙ (λ j. place_ok w (c.u32_at-uaddr.ensures.0 j) (c.u32_at-bitset.ensures.0 j)))
