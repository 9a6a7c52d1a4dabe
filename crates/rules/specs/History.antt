-- Histories: lists of events, each of which "gets the tables and words that the one before it left".
use Rattle.std.specs.Prelude.{Bool, true, false, cond, List, [], ◌∷◌, ℕ, eqb}
use Rattle.lists.specs.Lists.{filter}
use Rattle.rules.specs.declared.event.Event.{Event}
use Rattle.rules.specs.declared.event.Event.TheVariants.{Call, Store, Clock, Interrupt, Query, SetPriority}
use Rattle.rules.specs.declared.answer.Answer.{Answer}
use Rattle.tables.specs.Editions.{Edition, present}
use Rattle.tables.specs.Tables.{WorldIn, World, fresh_in}
use Rattle.rules.specs.Events.{step}

-- "the fresh state"; "Words at the start may be anything."
abbrev pub start_in : (ed : Edition) → List ℕ → WorldIn ed
start_in ed words = record { state = fresh_in ed; words = words }

abbrev pub start : List ℕ → World
start words = start_in present words

-- what a history leaves
abbrev pub final : {ed : Edition} → List Event → WorldIn ed → WorldIn ed
final [] w = w
final (e ∷ es) w = final es (step e w).world

-- what every event of it is answered, in order
abbrev pub answers : {ed : Edition} → List Event → WorldIn ed → List Answer
answers [] w = []
answers (e ∷ es) w = (step e w).answer ∷ answers es (step e w).world

-- Whose event it is: the process that it names, if any.
pub data Named : Type 0 where
  process : ℕ → Named
  nobody : Named

-- "A call, store, interrupt or panel query belongs to the process that it names. A clock event belongs to none"; of a priority that is set:
-- "It .. belongs to the named process."
abbrev pub named : Event → Named
named (Call c) = process c.process
named (Store p a v) = process p
named (Clock now) = nobody
named (Interrupt p i) = process p
named (Query p) = process p
named (SetPriority p i n) = process p

-- a clock event is the one that names nobody
abbrev pub names_nobody : Named → Bool
names_nobody (process q) = false
names_nobody nobody = true

abbrev pub is_clock : Event → Bool
is_clock e = names_nobody (named e)

abbrev pub is_process : ℕ → Named → Bool
is_process p (process q) = eqb q p
is_process p nobody = false

-- "and is kept for all"
abbrev pub is_kept : ℕ → Named → Bool
is_kept p (process q) = eqb q p
is_kept p nobody = true

-- the event belongs to process p
abbrev pub belongs : ℕ → Event → Bool
belongs p e = is_process p (named e)

-- "Strike .. the events that name another process."
abbrev pub kept_for : ℕ → List Event → List Event
kept_for p h = filter (λ e. is_kept p (named e)) h

-- of a list with an entry for each event, those of the process's events
abbrev pub entries_of : {A : Type 0} → ℕ → List Event → List A → List A
entries_of p [] l = []
entries_of p (e ∷ es) [] = []
entries_of p (e ∷ es) (x ∷ l) = cond (belongs p e) (x ∷ entries_of p es l) (entries_of p es l)

-- the answers that the process's events got, in order
abbrev pub answers_to : {ed : Edition} → ℕ → List Event → WorldIn ed → List Answer
answers_to p h w = entries_of p h (answers h w)
