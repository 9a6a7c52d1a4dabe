use mathlib.Core.Path.{◌≡◌, ◌∙◌}
use Prim.Native.Nat.{◌+◌}
use native.Mathlib.Omega.{arith}
use lib.ListN.{length, replicate}
use lib.Seq.{take_at, length-take-le}
use Rattle.tables.specs.Sizes.{threads_per_process}
use Rattle.views.specs.Views.{by_rank}
use Rattle.plans.proofs.Choosing.{chosen_all}
use Rattle.plans.proofs.chosen.Goals as goal

pub returns : goal.returns
returns c =
    let all = c.args.n + c.args.m in
    let long : length c.loop-k.t-items ≡ all = c.loop-k.auto.t-items ∙ length-take-le all (replicate threads_per_process 0) (omega arith) in
    take_at c.loop-k.t-items _ all long
    ∙ chosen_all c.args.n c.args.from c.args.m (by_rank c.args.process c.args.rank) c.loop-k.t-items long (λ t h. c.loop-k.invariant t (omega (arith, long)))
