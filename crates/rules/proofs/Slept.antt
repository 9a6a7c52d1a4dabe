-- Asleep at a word since an event: who entered there sleeps there, and has slept there after every event since.
use mathlib.Core.Path.{◌≡◌, sym, ap, ◌∙◌}
use mathlib.Core.Bool.{true, ◌&&◌}
use mathlib.Core.List.{List, [], ◌∷◌}
use mathlib.Core.Logic.{◌⊎◌, inl, inr}
use Prim.Native.Nat.{ℕ, zero, suc}
use native.Mathlib.Omega.{arith}
use lib.ListN.{length, take}
use lib.Seq.{take-length}
use lib.Dec.{eqb}
use borrow.Author.Tests.{eq-eqb}
use Rattle.lists.specs.Lists.{elem}
use Rattle.lists.proofs.Tests.{and_intro, and_left, and_right, eqb_refl}
use Rattle.lists.proofs.Occurs.{elem_all}
use Rattle.tables.specs.declared.Thread.{Thread}
use Rattle.rules.specs.declared.event.Call.{Call}
use Rattle.rules.specs.declared.event.Event.{Event}
use Rattle.rules.specs.declared.event.Event.TheVariants.{Call as CallEvent}
use Rattle.rules.specs.declared.answer.Answer.TheVariants.{Asleep, Count}
use Rattle.tables.specs.Editions.{present}
use Rattle.tables.specs.Tables.{World, process_of, word_at, fresh_thread, thread_of, sleeps_at, sleep_in}
use Rattle.rules.specs.Commands.{command_of}
use Rattle.rules.specs.Calls.{caller, matches, moved}
use Rattle.rules.specs.Events.{step}
use Rattle.rules.specs.History.{final}
use Rattle.rules.specs.Claims.{Sleeps, sleeps_by, asleep_there, Enters, by_wait, by_requeue, slept_through, Since}
use Rattle.tables.proofs.Changes.{change_named}
use Rattle.tables.proofs.Sound.{tables_sound}
use Rattle.rules.proofs.Passed.{caller_below}
use Rattle.rules.proofs.Chosen.{moved_pass, at_first}
use Rattle.rules.proofs.Sleeps.{sleeps_asleep, asleep_leaves}
use Rattle.rules.proofs.Taken.{takes_first}
use Rattle.rules.proofs.Histories.{final_append}

-- the record of who called a wait that sleeps
pub sleeper : (c : Call) (w : World) → Sleeps c w → thread_of (step (CallEvent c) w).world.state (caller c) ≡ sleeps_by c w (thread_of w.state (caller c))
unfolding sleep_in
sleeper c w s =
    let low = caller_below c s.process s.index in
    let size = (tables_sound w.state s.tables).records in
    ap (λ v. thread_of v.state (caller c)) (asleep_leaves c w (sleeps_asleep c w s))
    ∙ change_named (sleeps_by c w) (caller c ∷ []) w.state.threads (caller c) fresh_thread (rw (eqb_refl (caller c))) (omega arith)

module _ (t a : ℕ) where
  -- who is moved sleeps at the first word
  mover : (c : Call) (w : World) → elem t (moved (command_of c.op) c w.state) ≡ true → asleep_there t c.uaddr w ≡ true
  mover c w on =
      let k = command_of c.op in
      let r = thread_of w.state t in
      let at = elem_all (at_first present k c w.state) (moved k c w.state) (moved_pass present k c w.state) t on in
      and_right (eqb (process_of t) c.process) (r.waiting && eqb r.uaddr c.uaddr)
      (and_right (matches k c r) (sleeps_at c.process c.uaddr w.state t) at)

  pub entered_asleep : (e : Event) (w : World) → Enters t a e w → asleep_there t a (step e w).world ≡ true
  entered_asleep e w (by_wait c is it at s) =
      rw (is, it) (ap (λ (r : Thread). r.waiting && eqb r.uaddr a) (sleeper c w s) ∙ eq-eqb c.uaddr a at)
  entered_asleep e w (by_requeue c n is count m own at on) =
      let went = (takes_first c w n (ap (λ x. (step x w).answer) (sym is) ∙ count)).took.went t (rw m on) in
      let r = thread_of w.state t in
      let on = and_left r.waiting (eqb r.uaddr c.uaddr) (mover c w on) in
      rw is (ap (λ (r : Thread). r.waiting && eqb r.uaddr a) went ∙ and_intro on (eq-eqb c.uaddr2 a at))

  -- a wait of its own that saw its number there, or a requeue of its process that was answered a count
  pub entered_by : (e : Event) (w : World) → Enters t a e w
      → ((c : Call) × (e ≡ CallEvent c) × (t ≡ caller c) × (c.uaddr ≡ a) × ((step e w).answer ≡ Asleep) × (word_at w c.process a ≡ c.val))
      ⊎ ((c : Call) × (n : ℕ) × (e ≡ CallEvent c) × ((step e w).answer ≡ Count n) × (c.process ≡ process_of t) × (c.uaddr2 ≡ a) × (asleep_there t c.uaddr w ≡ true))
  entered_by e w (by_wait c is it at s) =
      inl (c, is, it, at, ap (λ x. (step x w).answer) is ∙ sleeps_asleep c w s, ap (word_at w c.process) (sym at) ∙ s.equal)
  entered_by e w (by_requeue c n is count m own at on) = inr (c, n, is, count, own, at, mover c w on)

  pub slept_at : (h : List Event) (w : World) → slept_through t a h w ≡ true → (n : ℕ) → asleep_there t a (final (take n h) w) ≡ true
  slept_at [] w s zero = s
  slept_at (e ∷ es) w s zero = and_left (asleep_there t a w) (slept_through t a es (step e w).world) s
  slept_at [] w s (suc n) = s
  slept_at (e ∷ es) w s (suc n) = slept_at es (step e w).world (and_right (asleep_there t a w) (slept_through t a es (step e w).world) s) n

  pub at_slept : (h : List Event) (w : World) → ((n : ℕ) → asleep_there t a (final (take n h) w) ≡ true) → slept_through t a h w ≡ true
  at_slept [] w s = s 0
  at_slept (e ∷ es) w s = and_intro (s 0) (at_slept es (step e w).world (λ n. s (suc n)))

  pub since_asleep : (h : List Event) (w : World) → Since t a h w → asleep_there t a (final h w) ≡ true
  since_asleep h w s =
      let v = (step s.entry (final s.earlier w)).world in
      ap (λ x. asleep_there t a (final x w)) s.split
      ∙ ap (asleep_there t a) (final_append s.earlier (s.entry ∷ s.later) w)
      ∙ sym (ap (λ x. asleep_there t a (final x v)) (take-length s.later))
      ∙ slept_at s.later v s.slept (length s.later)
