-- What a plan leaves: the tables, and apart from them the words.
use mathlib.Core.Path.{◌≡◌, refl, sym, ap, ◌∙◌}
use mathlib.Core.List.{◌++◌}
use Prim.Native.Nat.{ℕ, ◌+◌, ◌≤◌}
use native.Mathlib.Omega.{arith}
use lib.ListN.{length, take, length-append}
use lib.Seq.{length-take-le, take-add, take_all}
use Rattle.std.specs.Prelude.{Option, Some, None, is_some, unwrap_or}
use Rattle.tables.specs.declared.State.{State}
use Rattle.tables.specs.declared.Sleep.{Sleep}
use Rattle.tables.specs.declared.LastAnswer.TheVariants.{Woken}
use Rattle.rules.specs.declared.event.Call.{Call}
use Rattle.rules.specs.declared.answer.Answer.TheVariants.{Asleep, Count}
use Rattle.tables.specs.Tables.{World, world, asleep_at, fall_asleep, end_sleeps, move_sleeps, write_word, with_state}
use Rattle.rules.specs.Answers.{outcome}
use Rattle.rules.specs.Calls.{caller}
use Rattle.plans.specs.declared.Take.{Take}
use Rattle.plans.specs.declared.Plan.TheVariants.{Sleep as SleepPlan, Take as TakePlan}
use Rattle.plans.specs.Plans.{released_of, moved_of, written_by, written, carried}

-- a caller that falls asleep
pub carried_asleep : (c : Call) (d : Sleep) (w : World)
    → carried c (SleepPlan d) w ≡ outcome Asleep (with_state (fall_asleep (asleep_at d.uaddr d.bitset (is_some d.deadline) (unwrap_or d.deadline 0)) (caller c) w.state) w)
unfolding carried
carried_asleep c d w = refl

module _ (c : Call) (d : Take) where
  -- the tables once the sleepers are taken
  abbrev pub taken_from : State → State
  taken_from s = move_sleeps c.uaddr2 (moved_of d) (end_sleeps Woken (released_of d) s)

  written_state : (v : Option ℕ) (w : World) → (written_by c v w).state ≡ w.state
  unfolding write_word
  written_state (Some v) w = refl
  written_state None w = refl

  module _ (w : World) where
    pub carried_answer : (carried c (TakePlan d) w).answer ≡ Count d.count
    unfolding carried
    carried_answer = refl

    pub carried_state : (carried c (TakePlan d) w).world.state ≡ taken_from w.state
    unfolding carried
    carried_state = written_state d.word (world (taken_from w.state) w.words)

    pub carried_words : (carried c (TakePlan d) w).world.words ≡ (written c d (world (taken_from w.state) w.words)).words
    unfolding carried
    carried_words = refl

-- those that run and those that move, as two lists, are those that are taken
module _ (d : Take) (fits : d.released + d.moved ≤ length d.taken) where
  both : released_of d ++ moved_of d ≡ take (d.released + d.moved) d.taken
  both = sym (take-add d.released d.moved d.taken)

  pub taken_many : length (released_of d) + length (moved_of d) ≡ d.released + d.moved
  taken_many = sym (length-append (released_of d) (moved_of d)) ∙ ap length both ∙ length-take-le (d.released + d.moved) d.taken fits

  pub taken_all : take (length (released_of d) + length (moved_of d)) (released_of d ++ moved_of d) ≡ take (d.released + d.moved) d.taken
  taken_all =
      take_all (length (released_of d) + length (moved_of d)) (released_of d ++ moved_of d) (omega (arith, length-append (released_of d) (moved_of d))) ∙ both
