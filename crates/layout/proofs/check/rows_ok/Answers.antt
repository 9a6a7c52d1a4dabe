use mathlib.Core.Path.{ap, ◌∙◌}
use mathlib.Core.Bool.{◌&&◌}
use Rattle.lists.specs.Lists.{every_below}
use Rattle.tables.specs.Sizes.{threads}
use Rattle.layout.specs.Layout.{state_at}
use Rattle.layout.specs.Check.{time_fits}
use Rattle.layout.proofs.check.rows_ok.Goals as goal

pub returns : goal.returns
unfolding state_at
returns c =
    let b = c.args.b.now in
    let times = c.times_ok-times.ensures ∙ ap (λ m. every_below threads (time_fits m b)) c.u64_at-clock.ensures.0 in
    (λ i. c.tail_ok-tail.ensures i && c.places_ok-places.ensures i && times i && c.flags_ok-flags.ensures i)
