-- Worlds in which a process finds the same: its words, records and sleepers, in their order, are the same lists; and its next event is answered
-- the same in both, and leaves worlds in which it finds the same again.
use mathlib.Core.Path.{◌≡◌, sym, ap, ◌∙◌}
use mathlib.Core.Bool.{true, false, cond}
use mathlib.Core.List.{List}
use mathlib.Core.Logic.{◌↔◌}
use Prim.Native.Nat.{ℕ, ◌+◌, ◌*◌, ◌-◌, ◌/◌, ◌<◌, min}
use native.Mathlib.Omega.{arith}
use lib.ListN.{length, take, drop, get_or, length-take, length-drop}
use lib.Seq.{ext_get_or, get_or-take, get_or-drop}
use borrow.Author.Tests.{eqb-true}
use Rattle.lists.specs.Lists.{filter}
use Rattle.lists.proofs.Tests.{cases}
use Rattle.lists.proofs.Update.{update_alike}
use Rattle.rules.specs.declared.event.Event.{Event}
use Rattle.tables.specs.Sizes.{threads_per_process, words_per_process, word_bytes}
use Rattle.tables.specs.Tables.{World, thread_number, fresh_thread, thread_of, arrivals}
use Rattle.rules.specs.Answers.{Outcome}
use Rattle.rules.specs.Events.{step}
use Rattle.rules.specs.History.{named, is_kept, belongs}
use Rattle.rules.specs.Claims.{Alike}
use Rattle.rules.proofs.Preserved.{Valid}
use Rattle.rules.proofs.View.{own_thread, view_state, view, view_state_lem, view_clock}
use Rattle.rules.proofs.Isolation.{own_step, kept_step, struck_step, alike, words_alike}

-- the n elements from place k on
abbrev pub part : {A : Type 0} → ℕ → ℕ → List A → List A
part n k l = take n (drop k l)

module _ {A : Type 0} (d : A) (n k : ℕ) (l m : List A) (same : length l ≡ length m) where
  get_d_part : (x : List A) (i : ℕ) → i < n → get_or (part n k x) i d ≡ get_or x (k + i) d
  get_d_part x i h = get_or-take n (drop k x) i d h ∙ get_or-drop k x i d

  pub part_same : ((i : ℕ) → i < n → get_or l (k + i) d ≡ get_or m (k + i) d) → part n k l ≡ part n k m
  part_same h = ext_get_or d (part n k l) (part n k m) long
      (λ i b. let c : i < n = omega (arith, length-take n (drop k l)) in get_d_part l i c ∙ h i c ∙ sym (get_d_part m i c))
    where
      long : length (part n k l) ≡ length (part n k m)
      long = simp (length-take, length-drop) (ap (λ x. min n (x - k)) same)

  pub same_part : part n k l ≡ part n k m → (i : ℕ) → i < n → get_or l (k + i) d ≡ get_or m (k + i) d
  same_part e i h = sym (get_d_part l i h) ∙ ap (λ x. get_or x i d) e ∙ get_d_part m i h

module _ (p : ℕ) (u v : World) where
  pub alike_exactly : length u.words ≡ length v.words → length u.state.threads ≡ length v.state.threads
      → Alike p u v
      ↔ ((part words_per_process (words_per_process * p) u.words ≡ part words_per_process (words_per_process * p) v.words)
      × (part threads_per_process (threads_per_process * p) u.state.threads ≡ part threads_per_process (threads_per_process * p) v.state.threads)
      × (filter (own_thread p) (arrivals u.state) ≡ filter (own_thread p) (arrivals v.state)))
  alike_exactly lw lt = (
    (λ a. (
      part_same 0 words_per_process (words_per_process * p) u.words v.words lw
          (λ i h. let at : word_bytes * i / word_bytes ≡ i = omega arith in rw at at (a.words (word_bytes * i) (omega arith))),
      part_same fresh_thread threads_per_process (threads_per_process * p) u.state.threads v.state.threads lt a.records,
      a.order,
    )),
    (λ e. record {
      words = λ a h. same_part 0 words_per_process (words_per_process * p) u.words v.words lw e.0 (a / word_bytes) (omega arith);
      records = same_part fresh_thread threads_per_process (threads_per_process * p) u.state.threads v.state.threads lt e.1;
      order = e.2;
    }),
  )

module _ (p : ℕ) (u v : World) (g : Valid u) (h : Valid v) (time : u.state.clock ≡ v.state.clock) (same : Alike p u v) where
  -- it sees the same
  alike_view : view p u ≡ view p v
  unfolding view view_state
  alike_view =
      let long : length u.state.threads ≡ length v.state.threads = g.sound.records ∙ sym h.sound.records in
      cc (
        time,
        same.order,
        words_alike p u.words v.words (g.memory ∙ sym h.memory) same.words,
        update_alike (λ i x. cond (own_thread p i) x fresh_thread) fresh_thread u.state.threads v.state.threads long records,
      )
    where
      records : (t : ℕ) → cond (own_thread p t) (thread_of u.state t) fresh_thread ≡ cond (own_thread p t) (thread_of v.state t) fresh_thread
      records t = cases (own_thread p t)
          (λ e.
          let k = eqb-true (t / threads_per_process) p e in
          let at : thread_number p (t - threads_per_process * p) ≡ t = omega arith in
          rw e (rw at at (same.records (t - threads_per_process * p) (omega arith))))
          (λ e. rw e)

  clocks : (x y : World) → view p x ≡ view p y → x.state.clock ≡ y.state.clock
  clocks x y e =
      sym (view_clock p x.state) ∙ ap (λ s. s.clock) (sym (view_state_lem p x) ∙ ap (λ (w : World). w.state) e ∙ view_state_lem p y) ∙ view_clock p y.state

  pub alike_kept : (e : Event) → is_kept p (named e) ≡ true
      → ((step e u).world.state.clock ≡ (step e v).world.state.clock) × Alike p (step e u).world (step e v).world
  alike_kept e k =
      let views = kept_step p e u g k ∙ ap (λ w. (step e w).world) alike_view ∙ sym (kept_step p e v h k) in
      (clocks (step e u).world (step e v).world views, alike p (step e u).world (step e v).world views)

  pub alike_own : (e : Event) → belongs p e ≡ true → (step e u).answer ≡ (step e v).answer
  alike_own e b = ap (λ (o : Outcome). o.answer) (own_step p e u g b ∙ ap (step e) alike_view ∙ sym (own_step p e v h b))

pub alike_other : (p : ℕ) (e : Event) (w : World) → is_kept p (named e) ≡ false → Alike p (step e w).world w
alike_other p e w k = alike p (step e w).world w (struck_step p e w k)
