-- Demand 3: what a process is answered and left with depends on its own events and the clock's alone.
use mathlib.Core.Path.{◌≡◌, refl, sym, ap, ◌∙◌, subst}
use mathlib.Core.Bool.{true, false, cond}
use mathlib.Core.List.{List, [], ◌∷◌}
use Prim.Native.Nat.{ℕ, ◌*◌, ◌-◌, ◌/◌, ◌<◌}
use native.Mathlib.Omega.{arith}
use lib.ListN.{length, get_or}
use borrow.Author.Tests.{eqb-true, eqb-false, lt-leb}
use Rattle.lists.proofs.Tests.{cases, clash}
use Rattle.lists.proofs.Update.{update_alike}
use Rattle.rules.specs.declared.event.Event.{Event}
use Rattle.rules.specs.declared.event.Event.TheVariants.{Call as CallEvent, Store, Clock, Interrupt, Query, SetPriority}
use Rattle.tables.specs.Sizes.{words_per_process, word_bytes, bytes_per_process}
use Rattle.tables.specs.Tables.{World, thread_number, word_number, word_at, thread_of, arrivals}
use Rattle.rules.specs.Answers.{Outcome}
use Rattle.rules.specs.Events.{step}
use Rattle.rules.specs.History.{start, final, Named, process, nobody, named, is_kept, is_process, belongs, kept_for, answers_to}
use Rattle.rules.specs.Claims.{Alike}
use Rattle.rules.proofs.Preserved.{Valid, step_valid}
use Rattle.rules.proofs.View.{view_state_lem, own_word, only_own, view_state, view, own_thread_lem, view_own, view_arrivals, view_word}
use Rattle.rules.proofs.Own.{view_out, step_call, step_store, step_interrupt, step_query, step_priority, step_clock}
use Rattle.rules.proofs.Other.{step_other}

module _ (p : ℕ) where
  -- the process's own event, and one that is kept, on the view; and one that is struck
  pub own_step : (e : Event) (w : World) → Valid w → belongs p e ≡ true → view_out p (step e w) ≡ step e (view p w)
  own_step (CallEvent c) w g n =
      subst (λ q. view_out q (step (CallEvent c) w) ≡ step (CallEvent c) (view q w)) (eqb-true c.process p n) (step_call w g c)
  own_step (Store q a v) w g n = rw (eqb-true q p n) (step_store w g p a v)
  own_step (Clock now) w g n = clash true refl (sym n)
  own_step (Interrupt q i) w g n = rw (eqb-true q p n) (step_interrupt w g p i)
  own_step (Query q) w g n = rw (eqb-true q p n) (step_query w g p)
  own_step (SetPriority q i m) w g n = rw (eqb-true q p n) (step_priority w g p i m)

  pub kept_step : (e : Event) (w : World) → Valid w → is_kept p (named e) ≡ true → view p (step e w).world ≡ (step e (view p w)).world
  kept_step (CallEvent c) w g n = ap (λ (o : Outcome). o.world) (own_step (CallEvent c) w g n)
  kept_step (Store q a v) w g n = ap (λ (o : Outcome). o.world) (own_step (Store q a v) w g n)
  kept_step (Clock now) w g n = step_clock w g p now
  kept_step (Interrupt q i) w g n = ap (λ (o : Outcome). o.world) (own_step (Interrupt q i) w g n)
  kept_step (Query q) w g n = ap (λ (o : Outcome). o.world) (own_step (Query q) w g n)
  kept_step (SetPriority q i m) w g n = ap (λ (o : Outcome). o.world) (own_step (SetPriority q i m) w g n)

  pub struck_step : (e : Event) (w : World) → is_kept p (named e) ≡ false → view p (step e w).world ≡ view p w
  struck_step e w n = go (named e) refl n
    where
      go : (o : Named) → named e ≡ o → is_kept p o ≡ false → view p (step e w).world ≡ view p w
      go (process q) is n = step_other p q (λ d. eqb-false q p n (sym d)) e is w
      go nobody is n = clash true refl n

  own_kept : (o : Named) → is_process p o ≡ true → is_kept p o ≡ true
  own_kept (process q) n = n
  own_kept nobody n = refl

  -- a history, and what is left of it, on the view
  pub final_view : (h : List Event) (w : World) → Valid w → view p (final h w) ≡ final (kept_for p h) (view p w)
  final_view [] w g = refl
  final_view (e ∷ es) w g =
      let ih = final_view es (step e w).world (step_valid e w g) in
      cases (is_kept p (named e)) (λ k. cc (kept_step e w g k)) (λ k. cc (struck_step e w k))

  pub answers_view : (h : List Event) (w : World) → Valid w → answers_to p h w ≡ answers_to p (kept_for p h) (view p w)
  answers_view [] w g = refl
  answers_view (e ∷ es) w g =
      let ih = answers_view es (step e w).world (step_valid e w g) in
      cases (belongs p e)
      (λ n. rw (n, own_kept (named e) n, ← own_step e w g n, n) (ap ((step e w).answer ∷◌) ih))
      (λ n. cases (is_kept p (named e)) (λ k. cc (kept_step e w g k)) (λ k. cc (struck_step e w k)))

  -- equal views show the same
  pub alike : (u v : World) → view p u ≡ view p v → Alike p u v
  alike u v e =
      record {
        words = λ a h. let near = lt-leb bytes_per_process a h in sym (view_word p u a near) ∙ ap (λ w. word_at w p a) e ∙ view_word p v a near;
        records = λ i h.
            let own = own_thread_lem p i h in
            sym (view_own p u.state (thread_number p i) own) ∙ ap (λ s. thread_of s (thread_number p i)) states ∙ view_own p v.state (thread_number p i) own;
        order = sym (view_arrivals p u.state) ∙ ap arrivals states ∙ view_arrivals p v.state;
      }
    where
      states : view_state p u.state ≡ view_state p v.state
      states = sym (view_state_lem p u) ∙ ap (λ (w : World). w.state) e ∙ view_state_lem p v

  pub words_alike : (us vs : List ℕ) → length us ≡ length vs
      → ((a : ℕ) → a < bytes_per_process → get_or us (word_number p a) 0 ≡ get_or vs (word_number p a) 0) → only_own (own_word p) 0 us ≡ only_own (own_word p) 0 vs
  words_alike us vs n h = update_alike (λ i x. cond (own_word p i) x 0) 0 us vs n same
    where
      same : (i : ℕ) → cond (own_word p i) (get_or us i 0) 0 ≡ cond (own_word p i) (get_or vs i 0) 0
      same i = cases (own_word p i)
          (λ e.
          let k = eqb-true (i / words_per_process) p e in
          let at : word_number p (word_bytes * (i - words_per_process * p)) ≡ i = omega arith in
          rw e (rw at at (h (word_bytes * (i - words_per_process * p)) (omega arith))))
          (λ e. rw e)

  pub start_alike : (us vs : List ℕ) → length us ≡ length vs
      → ((a : ℕ) → a < bytes_per_process → word_at (start us) p a ≡ word_at (start vs) p a) → view p (start us) ≡ view p (start vs)
  unfolding view
  start_alike us vs n h = cc (words_alike us vs n h)
