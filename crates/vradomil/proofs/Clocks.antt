-- What a clock event and an interrupt leave on the tables' bytes.
use mathlib.Core.Path.{◌≡◌, refl, sym, ap, ◌∙◌}
use mathlib.Core.Bool.{true, false}
use mathlib.Core.List.{List, [], ◌∷◌}
use Prim.Native.Nat.{ℕ, ◌≤◌, ◌<◌}
use lib.IntN.{pos}
use lib.ListN.{get_or}
use lib.Seq.{sets}
use native.Mathlib.Omega.{arith}
use Rattle.lists.specs.Lists.{elem}
use Rattle.lists.specs.LittleEndian.{bytes}
use Rattle.lists.proofs.Tests.{cases}
use Rattle.lists.proofs.Filter.{length_filter}
use Rattle.arrivals.proofs.Places.{place_absent, place_first}
use Rattle.tables.specs.declared.State.{State}
use Rattle.tables.specs.declared.LastAnswer.TheVariants.{TimedOut, Interrupted}
use Rattle.tables.specs.Sizes.{threads}
use Rattle.tables.specs.Tables.{world, thread_of, arrivals, expired_sleepers, end_in, end_sleeps}
use Rattle.tables.specs.Steps.{Places, end_flagged}
use Rattle.tables.proofs.Sound.{Sound, tables_sound, sound_tables, listed_waiting, arrivals_fit}
use Rattle.tables.proofs.Kept.{ending}
use Rattle.rules.specs.declared.answer.Answer.TheVariants.{Count}
use Rattle.rules.specs.Answers.{outcome}
use Rattle.rules.specs.Events.{clock_effect, interrupt_effect}
use Rattle.layout.specs.Layout.{time_bytes, clock_at, state_at, tables_bytes}
use Rattle.layout.specs.Check.{Held}
use Rattle.changes.specs.Change.{is_due, StandsAt}
use Rattle.changes.proofs.Standing.{whole}
use Rattle.changes.proofs.Writing.{clock_put}
use Rattle.vradomil.specs.Host.{Leaves}
use Rattle.vradomil.proofs.Steps.{leaves_by}

module _ (b : List ℕ) (h : Held b) where
  abbrev tables : State
  tables = state_at b

  sound : Sound tables
  sound = tables_sound tables h.sound

  -- A clock event: those who are due end, and the clock is put.
  module _ (time : ℕ) where
    pub due_few : (end_flagged TimedOut (is_due time tables) tables).n ≤ threads
    unfolding end_flagged
    due_few = omega (arith, length_filter (is_due time tables) (arrivals tables), arrivals_fit tables sound)

    pub clock_due : (ws : List ℕ) (n : ℕ) (mid after : List ℕ)
        → (n ≡ (end_flagged TimedOut (is_due time tables) tables).n) × (mid ≡ tables_bytes (end_flagged TimedOut (is_due time tables) tables).state)
        → after ≡ sets mid clock_at (bytes time_bytes time) → Leaves (clock_effect time (world tables ws)) n after
    unfolding clock_effect expired_sleepers end_flagged end_in
    clock_due ws n mid after done put =
        let left = end_sleeps TimedOut (expired_sleepers time tables) tables in
        record {
          number = ap pos done.0;
          small = omega (arith, done.0, due_few);
          bytes = put ∙ clock_put left (whole left (sound_tables left (ending TimedOut (expired_sleepers time tables) tables sound))) time mid done.1;
        }

  -- An interrupt of a thread, by its place in the list.
  module _ (place : List ℕ) (at : Places place (arrivals tables)) (t : ℕ) (low : t < threads) where
    runs : get_or place t 0 ≡ 0 → (thread_of tables t).waiting ≡ false
    runs none = cases (thread_of tables t).waiting
        (λ e. absurd (omega (arith, none, at t low, place_first t (arrivals tables) (listed_waiting tables sound t ∙ e))))
        (λ e. e)

    listed : (get_or place t 0 ≡ 0 → ⊥) → elem t (arrivals tables) ≡ true
    listed some = cases (elem t (arrivals tables)) (λ e. e) (λ e. absurd (some (at t low ∙ place_absent t (arrivals tables) e)))

    -- one that stands nowhere runs
    pub interrupt_none : (ws : List ℕ) → get_or place t 0 ≡ 0 → Leaves (interrupt_effect t (world tables ws)) 0 b
    unfolding interrupt_effect
    interrupt_none ws none =
        leaves_by (outcome (Count 0) (world tables ws)) (interrupt_effect t (world tables ws)) 0 b (rw (runs none)) (record { number = refl; small = omega arith; bytes = h.bytes })

    -- a sleeper ends
    module _ (some : get_or place t 0 ≡ 0 → ⊥) where
      pub one_stands : StandsAt (get_or place t 0) t (arrivals tables)
      one_stands = record { listed = listed some; there = at t low }

      pub interrupt_one : (ws after : List ℕ) → after ≡ tables_bytes (end_sleeps Interrupted (t ∷ []) tables) → Leaves (interrupt_effect t (world tables ws)) 1 after
      unfolding interrupt_effect
      interrupt_one ws after is =
          let left = end_sleeps Interrupted (t ∷ []) tables in
          let waits : (thread_of tables t).waiting ≡ true = sym (listed_waiting tables sound t) ∙ listed some in
          leaves_by (outcome (Count 1) (world left ws)) (interrupt_effect t (world tables ws)) 1 after (rw waits) (record { number = refl; small = omega arith; bytes = is })
