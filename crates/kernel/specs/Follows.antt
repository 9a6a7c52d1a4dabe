-- What the kernel's functions answer, beside what the rules say of the event.
use Rattle.std.specs.Prelude.{◌≡◌, List, ℕ}
use Rattle.tables.specs.declared.State.{State}
use Rattle.rules.specs.declared.event.Event.{Event}
use Rattle.rules.specs.declared.answer.Answered.{Answered}
use Rattle.rules.specs.Answers.{answered, answer_numbers}
use Rattle.rules.specs.Numbers.{numbers_of}
use Rattle.rules.specs.Events.{step}
use Rattle.tables.specs.Tables.{world}

-- The answer, the whole state and every word afterwards are those of the rules.
pub record Follows (e : Event) (s : State) (before : List ℕ) (r : Answered) (after : List ℕ) : Type 0 where
  pub result : r ≡ answered (step e (world s before))
  -- by number, the answer is the one that the paper's tables give
  pub numbers : answer_numbers r.answer ≡ numbers_of e (world s before)
  pub words : after ≡ (step e (world s before)).world.words
