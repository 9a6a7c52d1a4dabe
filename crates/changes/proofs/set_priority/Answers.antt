use mathlib.Core.Path.{◌≡◌, ap, ◌∙◌}
use Prim.Native.Nat.{◌+◌, ◌%◌}
use native.Mathlib.Omega.{arith}
use lib.ListN.{set}
use Rattle.layout.specs.Layout.{priority_at}
use Rattle.changes.proofs.Writing.{priority_put}
use Rattle.changes.proofs.set_priority.Goals as goal

pub returns : goal.returns
returns c =
    λ s w is.
    let b = c.args.b.now in
    let n = c.args.priority in
    let byte : n ≡ n % 256 = omega arith in
    ap (set b (priority_at + c.args.t)) byte ∙ priority_put s w c.args.t c.requires n b is
