use mathlib.Core.Path.{ap, ◌∙◌}
use mathlib.Core.List.{[], ◌∷◌, ◌++◌}
use Prim.Native.Nat.{◌+◌, ◌-◌, ◌<◌}
use native.Mathlib.Omega.{arith}
use borrow.Author.Rules.{rules}
use lib.ListN.{length, take, drop}
use lib.Seq.{sets}
use Rattle.tables.specs.Sizes.{threads, no_entry}
use Rattle.layout.specs.Layout.{list_at}
use Rattle.changes.proofs.Shifting.{length_closed, shifting_next, shifting_all}
use Rattle.changes.proofs.Standing.{list_in}
use Rattle.changes.proofs.Writing.{entries_put}
use Rattle.changes.proofs.take_out.Goals as goal
use Rattle.changes.proofs.take_out.Goals.{Start}

fits : (c : Start) → list_at + threads < length c.args.b.now
fits c = search rules

pub loop-i-preserved : goal.loop-i-preserved
loop-i-preserved c =
    shifting_next c.args.b.now list_at threads c.args.place c.requires.0 c.requires.1 (fits (goal.at.loop-i-preserved c).Start)
    c.loop-i.b c.loop-i.i c.either.result c.loop-i.invariant (omega arith) c.either.ensures

pub returns : goal.returns
returns c =
    λ s w is.
    let b = c.args.b.now in
    let p = c.args.place in
    shifting_all b list_at threads p c.requires.0 c.requires.1 (fits (goal.at.returns c).Start) c.loop-i.b c.loop-i.i c.loop-i.invariant (omega arith) _ no_entry (omega arith)
    ∙ ap (λ l. sets b list_at (take (p - 1) l ++ (drop p l ++ (no_entry ∷ [])))) (list_in s w b is)
    ∙ entries_put s w (take (p - 1) s.list ++ (drop p s.list ++ (no_entry ∷ []))) b (length_closed s.list p no_entry c.requires.0 (omega (arith, w.entries)) ∙ w.entries) is
