-- The clock's and an interrupt's sleepers, and the waiting set.
use mathlib.Core.Path.{◌≡◌, sym, ap, ◌∙◌}
use mathlib.Core.Bool.{Bool, true, false, not, cond, ◌&&◌, ◌||◌, or-true}
use mathlib.Core.List.{List}
use Prim.Native.Nat.{ℕ, zero, suc, ◌*◌, ◌^◌, ◌≤◌, ◌<◌}
use native.Mathlib.Nat.{pow-suc, one-mul, zero-mul}
use native.Mathlib.Omega.{arith}
use lib.ListN.{length, set, replicate}
use lib.Dec.{eqb, ltb, leb}
use borrow.Author.Tests.{ltb-true, ltb-false, lt-leb, le-leb}
use Rattle.lists.specs.Lists.{filter, bit}
use Rattle.lists.proofs.Loops.{stored_at}
use Rattle.lists.proofs.Tests.{cases, clash, and_intro, and_left, and_right, eqb_refl}
use Rattle.lists.proofs.Filter.{get_d_replicated}
use Rattle.lists.proofs.Occurs.{filter_same}
use Rattle.tables.specs.declared.State.{State}
use Rattle.tables.specs.declared.Taken.{Taken}
use Rattle.tables.specs.declared.LastAnswer.TheVariants.{TimedOut, Interrupted}
use Rattle.rules.specs.declared.answer.Answer.TheVariants.{Count}
use Rattle.tables.specs.Sizes.{processes, threads}
use Rattle.tables.specs.Tables.{world, World, thread_of, tables_ok, arrivals, expired, expired_sleepers, with_clock, end_in, end_sleeps}
use Rattle.tables.specs.Steps.{Flags, flagged, end_flagged}
use Rattle.rules.specs.Answers.{answered}
use Rattle.rules.specs.Events.{bits_below, waiting_set, clock_effect, interrupt_effect}
use Rattle.tables.proofs.Sound.{Sound}
use Rattle.tables.proofs.Stored.{end_nobody, flagged_listed}

-- the clock: everybody whose deadline has come
pub clock_ends : (now : ℕ) (s : State) (ws : List ℕ) → (f : ℕ → Bool) → filter f (arrivals s) ≡ expired_sleepers now s
    → (taken : Taken) → taken ≡ end_flagged TimedOut f s
    → record { answer = Count taken.n; state = with_clock now taken.state }
    ≡ answered (clock_effect now (world s ws))
unfolding clock_effect end_flagged end_in
clock_ends now s ws f due taken is =
    ap (λ (v : Taken). record { answer = Count v.n; state = with_clock now v.state })
    (is ∙ ap (λ l. record { state = end_sleeps TimedOut l s; n = length l }) due)

-- flags that say whose deadline has come
pub due_flagged : (now : ℕ) (s : State) → Sound s → (flags : List Bool) → Flags flags (λ t. expired now (thread_of s t))
    → filter (flagged flags) (arrivals s) ≡ expired_sleepers now s
unfolding expired_sleepers
due_flagged now s g flags h = flagged_listed s g flags (λ t. expired now (thread_of s t)) h

-- an interrupt: the thread, if it is listed
one_flag : (t : ℕ) → t < threads → Flags (set (replicate threads false) t true) (λ u. eqb u t)
one_flag t low u h = stored_at (replicate threads false) false (λ u. eqb u t) t true low (sym (eqb_refl t)) u (λ e. get_d_replicated threads u false ∙ sym e)

pub interrupt_ends : (t : ℕ) (s : State) (ws : List ℕ) → Sound s → t < threads → (taken : Taken)
    → taken ≡ end_flagged Interrupted (flagged (set (replicate threads false) t true)) s
    → record { answer = Count taken.n; state = taken.state } ≡ answered (interrupt_effect t (world s ws))
unfolding interrupt_effect end_flagged
interrupt_ends t s ws g low taken is =
    ap (λ (v : Taken). record { answer = Count v.n; state = v.state }) (is ∙ ap (λ l. record { state = end_sleeps Interrupted l s; n = length l }) found)
    ∙ cases (thread_of s t).waiting
    (λ e. rw e)
    (λ e. rw e (ap (λ v. record { answer = Count 0; state = v }) (end_nobody Interrupted s g)))
  where
    found : filter (flagged (set (replicate threads false) t true)) (arrivals s) ≡ replicate (bit (thread_of s t).waiting) t
    found = flagged_listed s g (set (replicate threads false) t true) (λ u. eqb u t) (one_flag t low) ∙ filter_same t (arrivals s) ∙ ap (λ n. replicate n t) (g.exact t)

pub interrupt_words : (t : ℕ) (w : World) → (interrupt_effect t w).world.words ≡ w.words
unfolding interrupt_effect
interrupt_words t w = cases (thread_of w.state t).waiting (λ e. rw e) (λ e. rw e)

pub bits_small : (n : ℕ) (f : ℕ → Bool) → bits_below n f < 2 ^ n
unfolding bits_below
bits_small zero f = omega arith
bits_small (suc n) f =
    let one : bit (f n) * 2 ^ n ≤ 2 ^ n = cases (f n) (λ e. rw (e, one-mul (2 ^ n)) (omega arith)) (λ e. rw (e, zero-mul (2 ^ n)) (omega arith)) in
    rw (pow-suc 2 n) (omega (arith, bits_small n f, one))

-- a panel query: the process exists and the tables keep the rules, or nobody waits
pub shown : (s : State) (p : ℕ) → (tables_ok s && ltb p processes) ≡ true → waiting_set p s ≡ cond (leb processes p || not (tables_ok s)) 0 (waiting_set p s)
shown s p h =
    rw (and_left (tables_ok s) (ltb p processes) h, lt-leb processes p (ltb-true p processes (and_right (tables_ok s) (ltb p processes) h)))

pub hidden : (s : State) (p : ℕ) → (tables_ok s && ltb p processes) ≡ false → 0 ≡ cond (leb processes p || not (tables_ok s)) 0 (waiting_set p s)
hidden s p h = cases (ltb p processes)
    (λ e. cases (tables_ok s) (λ d. clash (tables_ok s && ltb p processes) (and_intro d e) h) (λ d. rw (d, or-true (leb processes p))))
    (λ e. rw (le-leb processes p (ltb-false p processes e)))
