-- Which of the four kinds of call it is, by what its command uses.
use mathlib.Core.Path.{◌≡◌, refl, ◌∙◌}
use mathlib.Core.Bool.{true, false, cond}
use Rattle.lists.proofs.Tests.{clash}
use Rattle.rules.specs.declared.event.Command.{Command}
use Rattle.rules.specs.declared.event.Command.TheVariants.{Wait, Wake, Requeue, CmpRequeue, WakeOp, WaitBitset, WakeBitset, Unknown}
use Rattle.rules.specs.declared.event.Call.{Call}
use Rattle.tables.specs.Tables.{World}
use Rattle.rules.specs.Commands.{is_unknown, uses}
use Rattle.rules.specs.Calls.{wait, wake, requeue, wake_op, call_effect}

-- a command that moves sleepers names a second word
pub moves_second : (k : Command) → (uses k).moves ≡ true → (uses k).second ≡ true
moves_second Wait h = clash false h refl
moves_second WaitBitset h = clash false h refl
moves_second Wake h = clash false h refl
moves_second WakeBitset h = clash false h refl
moves_second Requeue h = refl
moves_second CmpRequeue h = refl
moves_second WakeOp h = refl
moves_second Unknown h = clash false h refl

module _ (k : Command) (c : Call) (w : World) (known : is_unknown k ≡ false) where
  by_uses : (j : Command) → is_unknown j ≡ false
      → call_effect j c w ≡ cond (uses j).deadline (wait j c w) (cond (uses j).moves (requeue j c w) (cond (uses j).second (wake_op j c w) (wake j c w)))
  unfolding call_effect
  by_uses Wait h = refl
  by_uses WaitBitset h = refl
  by_uses Wake h = refl
  by_uses WakeBitset h = refl
  by_uses Requeue h = refl
  by_uses CmpRequeue h = refl
  by_uses WakeOp h = refl
  by_uses Unknown h = clash true refl h

  pub is_wait_lem : (uses k).deadline ≡ true → call_effect k c w ≡ wait k c w
  is_wait_lem d = by_uses k known ∙ rw d

  pub is_requeue : (uses k).deadline ≡ false → (uses k).moves ≡ true → call_effect k c w ≡ requeue k c w
  is_requeue d m = by_uses k known ∙ rw (d, m)

  pub is_wake_op_lem : (uses k).deadline ≡ false → (uses k).moves ≡ false → (uses k).second ≡ true → call_effect k c w ≡ wake_op k c w
  is_wake_op_lem d m t = by_uses k known ∙ rw (d, m, t)

  pub is_wake : (uses k).deadline ≡ false → (uses k).moves ≡ false → (uses k).second ≡ false → call_effect k c w ≡ wake k c w
  is_wake d m t = by_uses k known ∙ rw (d, m, t)
