use Rattle.rules.specs.declared.event.Event.TheVariants.{Call as CallEvent}
use Rattle.rules.specs.Events.{effect}
use Rattle.kernel.proofs.Calls.{granted}
use Rattle.kernel.proofs.Steps.{cleared, follows_refused, follows_passed}
use Rattle.kernel.proofs.call.call.Goals as goal

pub perform-requires : goal.perform-requires
perform-requires c = granted c.args.c c.args.s c.args.words.now (cleared (CallEvent c.args.c) c.args.s c.args.words.now c.in-Ok.ensures)

pub returns-in-Err : goal.returns-in-Err
returns-in-Err c = follows_refused (CallEvent c.args.c) c.args.s c.args.words.now c.refused.result _ c.in-Err.ensures c.refused.ensures

pub returns-in-Ok : goal.returns-in-Ok
unfolding effect
returns-in-Ok c = follows_passed (CallEvent c.args.c) c.args.s c.args.words.now _ _ c.in-Ok.ensures c.perform.ensures.0 c.perform.ensures.1
