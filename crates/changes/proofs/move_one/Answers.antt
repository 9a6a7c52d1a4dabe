use mathlib.Core.Path.{refl, ◌∙◌}
use native.Mathlib.Omega.{arith}
use Rattle.changes.proofs.Standing.{count_in}
use Rattle.changes.proofs.Leaving.{whole_lined, one_moved}
use Rattle.changes.proofs.move_one.Goals as goal

pub returns : goal.returns
returns c =
    λ s l at is.
    let counted = c.u64_at-count.ensures.0 ∙ count_in s (whole_lined s l) l.few c.args.b.now is in
    one_moved s l c.args.t c.args.place at c.args.b.now c.take_out.new.b is c.take_out.ensures
    c.requires.0 c.u64_at-count.result counted c.args.uaddr c.put_u32.new.b _ _ c.put_u32.ensures (omega arith) refl
