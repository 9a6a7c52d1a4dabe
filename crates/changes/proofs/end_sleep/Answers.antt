use mathlib.Core.Path.{◌≡◌, refl, ap, ◌∙◌}
use mathlib.Core.Bool.{false}
use Prim.Native.Nat.{◌+◌, ◌%◌}
use lib.ListN.{set}
use denote.Enum.Declared.{tag_of}
use Rattle.tables.specs.declared.LastAnswer.{LastAnswer}
use Rattle.tables.specs.declared.LastAnswer.TheVariants.{NoneYet, Woken, TimedOut, Interrupted}
use Rattle.tables.specs.contracts.LastAnswer.{the_type}
use Rattle.tables.specs.Tables.{with_sleep, with_last}
use Rattle.layout.specs.Layout.{last_byte, last_at}
use Rattle.changes.specs.Change.{at_thread}
use Rattle.changes.proofs.Writing.{last_put}
use Rattle.changes.proofs.Changing.{whole_at, at_twice}
use Rattle.changes.proofs.end_sleep.Goals as goal

-- the number of a variant, as the code stores it, is the byte of the layout
stored : (a : LastAnswer) → tag_of the_type a ≡ last_byte a % 256
stored NoneYet = refl
stored Woken = refl
stored TimedOut = refl
stored Interrupted = refl

pub returns : goal.returns
returns c =
    λ s w is.
    let i = c.args.i in
    let asleep = with_sleep false 0 0 false 0 in
    ap (set c.put_sleep.new.b (last_at + i)) (stored c.args.last)
    ∙ last_put (at_thread i asleep s) (whole_at i asleep s w) i c.requires c.args.last c.put_sleep.new.b (c.put_sleep.ensures s w is)
    ∙ at_twice i asleep (with_last c.args.last) s w c.requires
