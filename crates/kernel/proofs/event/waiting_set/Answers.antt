use native.Mathlib.Omega.{arith}
use Rattle.kernel.proofs.Panels.{bit_set}
use Rattle.kernel.proofs.event.waiting_set.Invariants.{waits}
use Rattle.kernel.proofs.event.waiting_set.Goals as goal

pub loop-i-preserved : goal.loop-i-preserved
loop-i-preserved c = bit_set c.loop-i.i (waits c.args.s c.args.process) (omega arith) c.loop-i.invariant c.from.ensures
