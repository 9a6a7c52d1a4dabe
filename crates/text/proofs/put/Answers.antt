use Prim.Native.Nat.{◌+◌, ◌-◌}
use native.Mathlib.Omega.{arith}
use lib.ListN.{length}
use Rattle.text.proofs.Puts.{puts_copied}
use Rattle.text.proofs.put.Goals as goal

pub returns : goal.returns
returns c =
    let g = c.args in
    let n = length g.src.now in
    puts_copied g.src.now g.out.now c.copy_from_slice.new.self g.k (g.k + n - g.k) (omega arith) c.requires c.copy_from_slice.ensures.after
