use mathlib.Core.Path.{◌∙◌}
use Rattle.tables.proofs.Sound.{tables_sound, all_low, few}
use Rattle.effects.proofs.perform.Goals as goal

pub arrivals-requires : goal.arrivals-requires
arrivals-requires c = few c.args.s (tables_sound c.args.s c.requires.ready.tables)

pub unwrap-place-requires : goal.unwrap-place-requires
unwrap-place-requires c = let s = c.args.s in rw c.arrivals.ensures at c.places_in.ensures.named ∙ all_low s (tables_sound s c.requires.ready.tables)
