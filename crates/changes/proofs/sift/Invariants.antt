use mathlib.Core.Path.{◌≡◌}
use Prim.Native.Nat.{◌≤◌}
use Rattle.tables.specs.Sizes.{threads}
use Rattle.layout.specs.Layout.{state_at}
use Rattle.changes.specs.Change.{is_due}
use Rattle.changes.proofs.Sifting.{Sifting}
use Rattle.changes.proofs.sift.Given as goal

abbrev pub invariant-loop-i : goal.invariant-loop-i
invariant-loop-i l =
    let s = state_at l.initial.b in
    record { room : l.count ≤ threads; all : l.count ≡ s.count; sifting : Sifting (is_due l.time s) s l.b l.who l.n l.w l.i }
