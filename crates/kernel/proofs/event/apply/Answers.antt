use mathlib.Core.Path.{refl, ap}
use Rattle.rules.specs.declared.event.Event.TheVariants.{Query}
use Rattle.rules.specs.declared.answer.Answer.TheVariants.{Waiting}
use Rattle.rules.specs.Events.{refusals, effect}
use Rattle.kernel.proofs.Steps.{follows_passed}
use Rattle.kernel.proofs.event.apply.Goals as goal

pub returns-in-Query : goal.returns-in-Query
unfolding refusals effect
returns-in-Query c =
    rw c.in-Query.is
    (follows_passed (Query _) c.args.s c.args.words.now _ c.args.words.now refl (ap (λ p. record { answer = Waiting p; state = c.args.s }) c.query.ensures) refl)
