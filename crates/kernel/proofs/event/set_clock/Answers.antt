use mathlib.Core.Path.{refl, ◌∙◌}
use Rattle.rules.specs.declared.event.Event.TheVariants.{Clock}
use Rattle.tables.specs.Tables.{world}
use Rattle.tables.specs.Steps.{flagged}
use Rattle.rules.specs.Events.{refusals, effect, clock_effect}
use Rattle.tables.proofs.Sound.{Sound, sound_tables}
use Rattle.rules.proofs.Passed.{sound_of}
use Rattle.kernel.proofs.Events.{clock_ends, due_flagged}
use Rattle.kernel.proofs.Steps.{cleared, follows_refused, follows_passed}
use Rattle.kernel.proofs.event.set_clock.Goals as goal
use Rattle.kernel.proofs.event.set_clock.Goals.{In-Ok}

sound : (c : In-Ok) → Sound c.args.s
unfolding refusals
sound c = sound_of (world c.args.s c.args.words.now) (cleared (Clock c.args.time) c.args.s c.args.words.now c.in-Ok.ensures).1.0

pub end_flagged-taken-requires : goal.end_flagged-taken-requires
end_flagged-taken-requires c = sound_tables c.args.s (sound (goal.at.end_flagged-taken-requires c).In-Ok)

pub returns-in-Err : goal.returns-in-Err
returns-in-Err c = follows_refused (Clock c.args.time) c.args.s c.args.words.now c.refused.result _ c.in-Err.ensures c.refused.ensures

pub returns-in-Ok : goal.returns-in-Ok
unfolding effect
returns-in-Ok c =
    let held = sound (goal.at.returns-in-Ok c).In-Ok in
    follows_passed (Clock c.args.time) c.args.s c.args.words.now c.counted.result _ c.in-Ok.ensures
    (c.counted.ensures ∙ clock_ends c.args.time c.args.s c.args.words.now (flagged c.expired.result)
    (due_flagged c.args.time c.args.s held c.expired.result c.expired.ensures) c.end_flagged-taken.result c.end_flagged-taken.ensures)
    (unfold clock_effect in refl)
