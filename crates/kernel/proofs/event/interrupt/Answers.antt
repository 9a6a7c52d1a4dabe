use mathlib.Core.Path.{◌≡◌, sym, ap, ◌∙◌}
use mathlib.Core.Bool.{false}
use Rattle.rules.specs.declared.event.Event.TheVariants.{Interrupt}
use Rattle.tables.specs.Tables.{world, thread_number}
use Rattle.rules.specs.Calls.{no_thread}
use Rattle.rules.specs.Answers.{answered}
use Rattle.rules.specs.Claims.{Clear}
use Rattle.rules.specs.Events.{refusals, effect, interrupt_effect}
use Rattle.tables.proofs.Sound.{Sound, sound_tables}
use Rattle.rules.proofs.Passed.{sound_of, thread_process, thread_index}
use Rattle.commands.proofs.Places.{thread_below, thread_there}
use Rattle.kernel.proofs.Events.{interrupt_ends, interrupt_words}
use Rattle.kernel.proofs.Steps.{cleared, follows_refused, follows_passed}
use Rattle.kernel.proofs.event.interrupt.Goals as goal
use Rattle.kernel.proofs.event.interrupt.Goals.{In-Ok}

clear : (c : In-Ok) → Clear (refusals (Interrupt c.args.process c.args.index) (world c.args.s c.args.words.now))
clear c = cleared (Interrupt c.args.process c.args.index) c.args.s c.args.words.now c.in-Ok.ensures

sound : (c : In-Ok) → Sound c.args.s
unfolding refusals
sound c = sound_of (world c.args.s c.args.words.now) (clear c).1.0

pub end_flagged-taken-requires : goal.end_flagged-taken-requires
end_flagged-taken-requires c = sound_tables c.args.s (sound (goal.at.end_flagged-taken-requires c).In-Ok)

pub returns-in-Err : goal.returns-in-Err
returns-in-Err c =
    follows_refused (Interrupt c.args.process c.args.index) c.args.s c.args.words.now c.refused.result _ c.in-Err.ensures c.refused.ensures

pub returns-in-Ok : goal.returns-in-Ok
unfolding effect
returns-in-Ok c =
    let m = (goal.at.returns-in-Ok c).In-Ok in
    let p = c.args.process in
    let i = c.args.index in
    let s = c.args.s in
    let ws = c.args.words.now in
    let named : no_thread p i ≡ false = unfold refusals in (clear m).1.1.0 in
    let at = thread_there _ _ c.thread_index-t.ensures (thread_process p i named) (thread_index p i named) in
    follows_passed (Interrupt p i) s ws c.counted.result _ c.in-Ok.ensures
    (c.counted.ensures
    ∙ interrupt_ends c.thread_index-t.result s ws (sound m) (thread_below _ _ c.thread_index-t.ensures) c.end_flagged-taken.result c.end_flagged-taken.ensures
    ∙ ap (λ t. answered (interrupt_effect t (world s ws))) at)
    (sym (interrupt_words (thread_number p i) (world s ws)))
