use mathlib.Core.Path.{◌≡◌, refl, ap, ◌∙◌}
use mathlib.Core.Bool.{false}
use Rattle.rules.specs.declared.event.Event.TheVariants.{SetPriority}
use Rattle.rules.specs.declared.answer.Answer.TheVariants.{Count}
use Rattle.tables.specs.Tables.{set_priority}
use Rattle.rules.specs.Calls.{no_thread}
use Rattle.rules.specs.Events.{refusals, effect}
use Rattle.commands.proofs.Places.{thread_there}
use Rattle.rules.proofs.Passed.{thread_process, thread_index}
use Rattle.kernel.proofs.Steps.{cleared, follows_refused, follows_passed}
use Rattle.kernel.proofs.event.set_priority.Goals as goal

pub returns-in-Err : goal.returns-in-Err
returns-in-Err c =
    follows_refused (SetPriority c.args.process c.args.index c.args.priority) c.args.s c.args.words.now c.refused.result _ c.in-Err.ensures c.refused.ensures

pub returns-in-Ok : goal.returns-in-Ok
unfolding effect
returns-in-Ok c =
    let p = c.args.process in
    let i = c.args.index in
    let e = SetPriority p i c.args.priority in
    let named : no_thread p i ≡ false = unfold refusals in (cleared e c.args.s c.args.words.now c.in-Ok.ensures).1.1.0 in
    let at = thread_there p i c.thread_index-t.ensures (thread_process p i named) (thread_index p i named) in
    follows_passed e c.args.s c.args.words.now c.counted.result _ c.in-Ok.ensures
    (c.counted.ensures ∙ ap (λ s. record { answer = Count 0; state = s }) (c.set_priority.ensures ∙ ap (λ t. set_priority c.args.priority t c.args.s) at))
    refl
