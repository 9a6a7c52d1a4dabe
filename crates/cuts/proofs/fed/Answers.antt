use Rattle.std.proofs.Common.{arith}
use mathlib.Core.Path.{ap, sym, ◌∙◌}
use Rattle.pieces.specs.declared.Fed.{Fed}
use Rattle.pieces.proofs.Theorems.{feed_goes_on}
use Rattle.cuts.proofs.fed.Goals as goal

-- an event takes a byte of the piece at least
pub loop-event-preserved : goal.loop-event-preserved
loop-event-preserved c =
    let fed = c.feed-found.ensures in
    let on = feed_goes_on c.loop-event.reader c.args.piece.now c.loop-event.place c.in-Ok.event c.loop-event.invariant.0 (sym (ap (λ (x : Fed). x.found) fed) ∙ c.in-Ok.is) in
    (search, omega (arith, on, ap (λ (x : Fed). x.at) fed, c.loop-event.invariant, c.add.ensures), omega (arith, on, ap (λ (x : Fed). x.at) fed))

pub loop-event-smaller : goal.loop-event-smaller
loop-event-smaller c =
    let fed = c.feed-found.ensures in
    let on = feed_goes_on c.loop-event.reader c.args.piece.now c.loop-event.place c.in-Ok.event c.loop-event.invariant.0 (sym (ap (λ (x : Fed). x.found) fed) ∙ c.in-Ok.is) in
    omega (arith, on, ap (λ (x : Fed). x.at) fed)
