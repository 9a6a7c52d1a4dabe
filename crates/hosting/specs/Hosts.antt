-- A host's histories: each event is handed the bytes that the one before it left, and all that is known of what it answers and leaves is the
-- contract of its entry point.
use Rattle.std.specs.Prelude.{◌≡◌, Bool, true, false, cond, List, [], ◌∷◌, ℕ, ℤ, length, take}
use Rattle.rules.specs.declared.event.Event.{Event}
use Rattle.rules.specs.declared.event.Event.TheVariants.{Call as CallEvent, Store, Clock, Interrupt, Query, SetPriority}
use Rattle.rules.specs.declared.answer.Answer.{Answer}
use Rattle.rules.specs.Events.{is_query, step}
use Rattle.vradomil.specs.Host.{seen, tables_left, words_left, host_number, report_bytes, report_size, laid_over, EventFits}

-- which buffers the entry point of an event may write
abbrev pub touches_tables : Event → Bool
touches_tables (CallEvent c) = true
touches_tables (Store p a v) = false
touches_tables (Clock now) = true
touches_tables (Interrupt p i) = true
touches_tables (Query p) = false
touches_tables (SetPriority p i n) = true

abbrev pub touches_words : Event → Bool
touches_words (CallEvent c) = true
touches_words (Store p a v) = true
touches_words (Clock now) = false
touches_words (Interrupt p i) = false
touches_words (Query p) = false
touches_words (SetPriority p i n) = false

-- What one call of the library answers and leaves, as `pass` and `pass_report` (src/lib.rt) ensure it of the code. A buffer that it is lent to
-- read, or not lent, stays. `lent` are the bytes for a report, of which there are none where the host asks for the number alone; a panel query
-- has no report.
pub record Hosted (e : Event) (b m lent : List ℕ) (r : ℤ) (b1 m1 told : List ℕ) : Type 0 where
  pub number : r ≡ host_number (step e (seen b m)).answer
  pub tables : b1 ≡ cond (touches_tables e) (tables_left (step e (seen b m)) b) b
  pub words : m1 ≡ cond (touches_words e) (words_left (step e (seen b m)) m) m
  pub report : told ≡ cond (is_query e) lent (laid_over (report_bytes (step e (seen b m)).answer) lent)
  pub fits : EventFits e

-- What a host hears of an event: the number, and what of the report it lent room for.
pub record Heard : Type 0 where
  pub number : ℤ
  pub report : List ℕ

abbrev pub heard : Event → ℤ → List ℕ → Heard
heard e r told = record { number = r; report = cond (is_query e) [] (take report_size told) }

-- From these bytes the history is heard so, event by event, and leaves these bytes. The host lends `room e` bytes for the report of an event
-- e, whatever they hold: 0 where it asks for the number alone.
pub data HostRuns (room : Event → ℕ) : List Event → List ℕ → List ℕ → List Heard → List ℕ → List ℕ → Type 0 where
  over : {b m : List ℕ} → HostRuns room [] b m [] b m
  next : {e : Event} {es : List Event} {b m lent told b1 m1 b2 m2 : List ℕ} {r : ℤ} {hs : List Heard}
      → length lent ≡ room e → Hosted e b m lent r b1 m1 told → HostRuns room es b1 m1 hs b2 m2 → HostRuns room (e ∷ es) b m (heard e r told ∷ hs) b2 m2

-- what is to be heard of an event that is answered so, and of a history
abbrev pub hears : (Event → ℕ) → Event → Answer → Heard
hears room e a = record { number = host_number a; report = cond (is_query e) [] (take (room e) (report_bytes a)) }

abbrev pub hears_all : (Event → ℕ) → List Event → List Answer → List Heard
hears_all room [] l = []
hears_all room (e ∷ es) [] = []
hears_all room (e ∷ es) (a ∷ l) = hears room e a ∷ hears_all room es l

-- every argument of every event fits its type in C
abbrev pub HistoryFits : List Event → Type 0
HistoryFits [] = Unit {0}
HistoryFits (e ∷ es) = EventFits e × HistoryFits es
