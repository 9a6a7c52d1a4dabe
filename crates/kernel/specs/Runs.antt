-- Runs of the code: each event is handed the tables and words that the one before it left, and all that is known of what it answers and
-- leaves is the contract of `event::apply`.
use Rattle.std.specs.Prelude.{List, [], ◌∷◌, ℕ}
use Rattle.tables.specs.declared.State.{State}
use Rattle.rules.specs.declared.event.Event.{Event}
use Rattle.rules.specs.declared.answer.Answer.{Answer}
use Rattle.rules.specs.declared.answer.Answered.{Answered}
use Rattle.kernel.specs.Follows.{Follows}

-- From the tables s and the words ws the history is answered so, event by event, and leaves these tables and words.
pub data Runs : List Event → State → List ℕ → List Answer → State → List ℕ → Type 0 where
  over : {s : State} {ws : List ℕ} → Runs [] s ws [] s ws
  next : {e : Event} {es : List Event} {s t : State} {ws after us : List ℕ} {r : Answered} {answers : List Answer}
      → Follows e s ws r after → Runs es r.state after answers t us → Runs (e ∷ es) s ws (r.answer ∷ answers) t us
