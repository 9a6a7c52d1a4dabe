use mathlib.Core.Path.{◌∙◌}
use Rattle.plans.proofs.Planned.{planned_sleep}
use Rattle.plans.proofs.sleep_plan.Goals as goal

pub returns : goal.returns
returns c =
    λ w granted wait now.
    planned_sleep c.args.c w granted wait _ _ (c.mask_of.ensures ∙ rw c.uses_by-u.ensures)
    (c.then_some.ensures ∙ rw (c.timeout_given.ensures, c.deadline_of.ensures, c.uses_by-u.ensures, now))
