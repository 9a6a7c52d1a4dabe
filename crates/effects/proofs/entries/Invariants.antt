use mathlib.Core.Path.{◌≡◌}
use lib.ListN.{length, take}
use Rattle.tables.specs.Sizes.{threads}
use Rattle.effects.proofs.entries.Given as goal

abbrev pub invariant-loop-i : goal.invariant-loop-i
invariant-loop-i l = record { long : length l.list ≡ threads; done : take l.i l.list ≡ take l.i l.fn.ts }
