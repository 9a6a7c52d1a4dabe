-- What a plan does to the words.
use Rattle.std.specs.Prelude.{◌≡◌, List, ℕ}
use Rattle.tables.specs.declared.State.{State}
use Rattle.rules.specs.declared.event.Call.{Call}
use Rattle.tables.specs.Tables.{world}
use Rattle.plans.specs.declared.Take.{Take}
use Rattle.plans.specs.Plans.{written}

abbrev pub PutWord : Call → Take → List ℕ → List ℕ → Type 0
PutWord c d before after = (s : State) → after ≡ (written c d (world s before)).words
