-- An event's answer and tables are the rules', by its verdict: refused, or let through.
use mathlib.Core.Path.{◌≡◌, sym, ap, ◌∙◌}
use mathlib.Core.List.{List}
use Prim.Native.Nat.{ℕ}
use Rattle.tables.specs.declared.State.{State}
use Rattle.rules.specs.declared.event.Event.{Event}
use Rattle.rules.specs.declared.answer.Refusal.{Refusal}
use Rattle.std.specs.Prelude.{Err, Ok}
use Rattle.rules.specs.declared.answer.Answer.TheVariants.{Refused}
use Rattle.rules.specs.declared.answer.Answered.{Answered}
use Rattle.rules.specs.Answers.{Outcome, first, answered, answer_numbers}
use Rattle.rules.specs.Events.{refusals, effect, step}
use Rattle.tables.specs.Tables.{world}
use Rattle.kernel.specs.Follows.{Follows}
use Rattle.rules.specs.Claims.{Clear}
use Rattle.rules.proofs.Theorems.{answers_by_number}
use Rattle.rules.proofs.Rows.{pass_clear, step_refused, step_passed}

pub follows : (e : Event) (s : State) (ws : List ℕ) (r : Answered) (after : List ℕ) → r ≡ answered (step e (world s ws))
    → after ≡ (step e (world s ws)).world.words → Follows e s ws r after
follows e s ws r after is words = record { result = is; numbers = ap (λ (a : Answered). answer_numbers a.answer) is ∙ answers_by_number e (world s ws); words = words }

module _ (e : Event) (s : State) (ws : List ℕ) where
  -- no row applies to an event that is let through
  pub cleared : Ok tt ≡ first (refusals e (world s ws)) → Clear (refusals e (world s ws))
  cleared tested = pass_clear (refusals e (world s ws)) (sym tested)

  pub follows_refused : (r : Answered) (x : Refusal) → Err x ≡ first (refusals e (world s ws)) → r ≡ record { answer = Refused x; state = s } → Follows e s ws r ws
  follows_refused r x tested is =
      let done = step_refused e (world s ws) x (sym tested) in
      follows e s ws r ws (is ∙ ap answered (sym done)) (ap (λ (o : Outcome). o.world.words) (sym done))

  pub follows_passed : (r : Answered) (after : List ℕ) → Ok tt ≡ first (refusals e (world s ws)) → r ≡ answered (effect e (world s ws))
      → after ≡ (effect e (world s ws)).world.words → Follows e s ws r after
  follows_passed r after tested is words =
      let done = step_passed e (world s ws) (sym tested) in
      follows e s ws r after (is ∙ ap answered (sym done)) (words ∙ ap (λ (o : Outcome). o.world.words) (sym done))
