-- A count is at most the number of threads: no thread is counted twice.
use mathlib.Core.Path.{◌≡◌, refl, sym}
use mathlib.Core.Bool.{Bool, true, false, not, ◌&&◌}
use Prim.Native.Nat.{ℕ, zero, suc, ◌+◌, ◌≤◌}
use native.Mathlib.Omega.{arith}
use lib.Dec.{eqb}
use borrow.Author.Tests.{eqb-false, ne_eqb, not-true}
use Rattle.lists.specs.Lists.{bit, count_below}
use Rattle.lists.proofs.Tests.{cases, clash, and_left, and_right}
use Rattle.rules.specs.declared.event.Command.{Command}
use Rattle.rules.specs.declared.event.Command.TheVariants.{Wait, Wake, Requeue, CmpRequeue, WakeOp, WaitBitset, WakeBitset, Unknown}
use Rattle.rules.specs.declared.event.Event.{Event}
use Rattle.rules.specs.declared.answer.Answer.TheVariants.{Count}
use Rattle.tables.specs.declared.State.{State}
use Rattle.tables.specs.Sizes.{threads}
use Rattle.tables.specs.Tables.{World, thread_of}
use Rattle.rules.specs.Commands.{uses}
use Rattle.rules.specs.Events.{step}
use Rattle.rules.specs.Claims.{woke, shifted, counts_moves}
use Rattle.rules.proofs.Taken.{counted}

-- two tests that no number passes both of
apart_le : (n : ℕ) (f g : ℕ → Bool) → ((t : ℕ) → f t ≡ true → g t ≡ false) → count_below n f + count_below n g ≤ n
unfolding count_below
apart_le zero f g apart = omega arith
apart_le (suc n) f g apart =
    let one : bit (f n) + bit (g n) ≤ 1 = cases (f n)
    (λ e. rw (e, apart n e) (omega arith))
    (λ e. rw e (cases (g n) (λ d. rw d (omega arith)) (λ d. rw d (omega arith)))) in
    omega (arith, apart_le n f g apart)

woke_not_shifted : (s u : State) (t : ℕ) → woke s u t ≡ true → shifted s u t ≡ false
woke_not_shifted s u t h = cases (thread_of u t).waiting
    (λ e. let off = and_right (thread_of s t).waiting (not (thread_of u t).waiting) h in clash true refl (sym (rw e at off)))
    (λ e. rw (e, and_left (thread_of s t).waiting (not (thread_of u t).waiting) h))

-- what is counted
module _ (s u : State) (t : ℕ) where
  pub woke_is : woke s u t ≡ true → ((thread_of s t).waiting ≡ true) × ((thread_of u t).waiting ≡ false)
  woke_is h = (
    and_left (thread_of s t).waiting (not (thread_of u t).waiting) h,
    not-true _ (and_right (thread_of s t).waiting (not (thread_of u t).waiting) h),
  )

  pub is_woke : ((thread_of s t).waiting ≡ true) × ((thread_of u t).waiting ≡ false) → woke s u t ≡ true
  is_woke h = rw (h.0, h.1)

  abbrev still : Bool
  still = (thread_of s t).waiting && (thread_of u t).waiting

  abbrev same : Bool
  same = eqb (thread_of s t).uaddr (thread_of u t).uaddr

  pub shifted_is : shifted s u t ≡ true
      → ((thread_of s t).waiting ≡ true) × ((thread_of u t).waiting ≡ true) × ((thread_of s t).uaddr ≡ (thread_of u t).uaddr → ⊥)
  shifted_is h =
      let on = and_left still (not same) h in (
        and_left (thread_of s t).waiting (thread_of u t).waiting on,
        and_right (thread_of s t).waiting (thread_of u t).waiting on,
        eqb-false _ _ (not-true same (and_right still (not same) h)),
      )

  pub is_shifted : ((thread_of s t).waiting ≡ true) × ((thread_of u t).waiting ≡ true) × ((thread_of s t).uaddr ≡ (thread_of u t).uaddr → ⊥)
      → shifted s u t ≡ true
  is_shifted h = rw (h.0, h.1, ne_eqb (thread_of s t).uaddr (thread_of u t).uaddr h.2)

pub moves_count : (k : Command) → ((uses k).moves && (uses k).compare) ≡ true → k ≡ CmpRequeue
moves_count Wait h = clash false h refl
moves_count WaitBitset h = clash false h refl
moves_count Wake h = clash false h refl
moves_count WakeBitset h = clash false h refl
moves_count Requeue h = clash false h refl
moves_count CmpRequeue h = refl
moves_count WakeOp h = clash false h refl
moves_count Unknown h = clash false h refl

pub count_most : (e : Event) (w : World) (n : ℕ) → (step e w).answer ≡ Count n → n ≤ threads
count_most e w n h =
    let v = (step e w).world in
    let is = counted e w n h in
    let both = apart_le threads (woke w.state v.state) (shifted w.state v.state) (woke_not_shifted w.state v.state) in
    cases (counts_moves e) (λ m. omega (arith, rw m at is)) (λ m. omega (arith, rw m at is))
