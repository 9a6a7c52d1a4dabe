-- A thread that falls asleep at one word leaves the sleepers at every other as they were.
use mathlib.Core.Path.{◌≡◌, refl, sym, ap, ◌∙◌}
use mathlib.Core.Bool.{true, false}
use mathlib.Core.List.{[], ◌∷◌, ◌++◌, append-nil}
use Prim.Native.Nat.{ℕ}
use native.Mathlib.Omega.{arith}
use lib.Dec.{eqb}
use borrow.Author.Tests.{eqb-true, ne_eqb}
use Rattle.lists.specs.Lists.{filter, elem}
use Rattle.lists.proofs.Tests.{cases, clash}
use Rattle.lists.proofs.Filter.{filter_append}
use Rattle.lists.proofs.Occurs.{elem_one, elem_filter, elem_filtered_out, filter_agree}
use Rattle.tables.specs.declared.State.{State}
use Rattle.tables.specs.declared.Thread.{Thread}
use Rattle.rules.specs.declared.event.Command.{Command}
use Rattle.rules.specs.declared.event.Call.{Call}
use Rattle.rules.specs.declared.event.Event.TheVariants.{Call as CallEvent}
use Rattle.tables.specs.Editions.{present}
use Rattle.tables.specs.Tables.{World, process_of, fresh_thread, thread_of, arrivals, sleeps_at, queue_in, queue, sleep_in, fall_asleep}
use Rattle.rules.specs.Calls.{caller}
use Rattle.rules.specs.Events.{step}
use Rattle.rules.specs.Claims.{Sleeps, sleeps_by, SameSleepers, NamedAlike}
use Rattle.tables.proofs.Changes.{change_other, arrivals_with}
use Rattle.tables.proofs.Sound.{Sound, tables_sound, listed_waiting}
use Rattle.rules.proofs.Sleeps.{sleeps_asleep, asleep_leaves}
use Rattle.rules.proofs.Slept.{sleeper}

module _ (p a : ℕ) (f : Thread → Thread) (t : ℕ) (s : State) (g : Sound s) (runs : (thread_of s t).waiting ≡ false) where
  abbrev u : State
  u = fall_asleep f t s

  pub others_kept : (x : ℕ) → elem x (arrivals s) ≡ true → thread_of u x ≡ thread_of s x
  unfolding sleep_in
  others_kept x e = cases (elem x (t ∷ []))
      (λ d. clash (thread_of s t).waiting (ap (λ y. (thread_of s y).waiting) (sym (elem_one x t d)) ∙ sym (listed_waiting s g x) ∙ e) runs)
      (λ d. change_other f (t ∷ []) s.threads x fresh_thread d)

  queued_listed : (x : ℕ) → elem x (queue p a s) ≡ true → elem x (arrivals s) ≡ true
  unfolding queue_in
  queued_listed x e = cases (sleeps_at p a s x)
      (λ d. sym (elem_filter (sleeps_at p a s) x (arrivals s) d) ∙ e)
      (λ d. clash (elem x (queue p a s)) e (elem_filtered_out (sleeps_at p a s) x (arrivals s) d))

  joined : arrivals u ≡ arrivals s ++ (t ∷ [])
  unfolding sleep_in
  joined = arrivals_with present (arrivals s ++ (t ∷ [])) s

  same_queue : sleeps_at p a u t ≡ false → queue p a s ≡ queue p a u
  unfolding queue_in
  same_queue away =
      sym (ap (filter (sleeps_at p a u)) joined
      ∙ filter_append (sleeps_at p a u) (arrivals s) (t ∷ [])
      ∙ ap (filter (sleeps_at p a u) (arrivals s) ++◌) (rw away)
      ∙ append-nil (filter (sleeps_at p a u) (arrivals s))
      ∙ filter_agree (sleeps_at p a u) (sleeps_at p a s) (arrivals s) (λ x e. rw (others_kept x e)))

  pub asleep_elsewhere : sleeps_at p a u t ≡ false → SameSleepers p a s u
  asleep_elsewhere away = record { order = same_queue away; records = λ x e. sym (others_kept x (queued_listed x e)) }

module _ (k : Command) (c d : Call) (w : World) (s : Sleeps d w) where
  other_word : (a : ℕ) → (d.process ≡ c.process → d.uaddr ≡ a → ⊥)
      → sleeps_at c.process a (fall_asleep (sleeps_by d w) (caller d) w.state) (caller d) ≡ false
  other_word a apart =
      let r = thread_of (fall_asleep (sleeps_by d w) (caller d) w.state) (caller d) in
      let is : r ≡ sleeps_by d w (thread_of w.state (caller d)) = ap (λ v. thread_of v.state (caller d)) (sym (asleep_leaves d w (sleeps_asleep d w s))) ∙ sleeper d w s in
      cases (eqb (process_of (caller d)) c.process)
      (λ e.
      let own = eqb-true (process_of (caller d)) c.process e in
      let small = s.index in
      rw (e, is) (ne_eqb d.uaddr a (apart (omega arith))))
      (λ e. rw e)

  pub named_elsewhere : (d.process ≡ c.process → (d.uaddr ≡ c.uaddr → ⊥) × (d.uaddr ≡ c.uaddr2 → ⊥)) → NamedAlike k c w (step (CallEvent d) w).world
  named_elsewhere apart = rw (asleep_leaves d w (sleeps_asleep d w s)) (record {
    first = asleep_elsewhere c.process c.uaddr (sleeps_by d w) (caller d) w.state g s.runs (other_word c.uaddr (λ e. (apart e).0));
    second = λ two. asleep_elsewhere c.process c.uaddr2 (sleeps_by d w) (caller d) w.state g s.runs (other_word c.uaddr2 (λ e. (apart e).1));
    word = λ op. refl;
  })
    where
      g : Sound w.state
      g = tables_sound w.state s.tables
