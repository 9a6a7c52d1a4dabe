-- What a process sees: the world with all that is other processes' taken out. Each change on the view is the view of the change.
use mathlib.Core.Path.{◌≡◌, refl, ap, ◌∙◌}
use mathlib.Core.Bool.{Bool, true, false, cond}
use mathlib.Core.List.{List, [], ◌∷◌, ◌++◌, append-nil}
use Prim.Native.Nat.{ℕ, ◌/◌, ◌<◌}
use native.Mathlib.Omega.{arith}
use lib.ListN.{get_or, set}
use lib.Dec.{eqb}
use borrow.Author.Tests.{eq-eqb, ne_eqb, leb-false}
use Rattle.lists.specs.Lists.{filter, update, elem, without}
use Rattle.lists.proofs.Tests.{cases}
use Rattle.lists.proofs.Filter.{filter_append, filter_true}
use Rattle.lists.proofs.Update.{length_update, get_d_update_fixed, update_comm, update_set, update_set_forgotten}
use Rattle.lists.proofs.Occurs.{occurs_filter, occurs_filtered_out, elem_filter, elem_filtered_out, without_filter}
use Rattle.tables.specs.declared.State.{State}
use Rattle.tables.specs.declared.Thread.{Thread}
use Rattle.tables.specs.declared.LastAnswer.{LastAnswer}
use Rattle.tables.specs.Sizes.{threads_per_process, words_per_process, bytes_per_process}
use Rattle.tables.specs.Editions.{present}
use Rattle.tables.specs.Tables.{outside, World, thread_number, process_of, word_number, word_at, fresh_thread, thread_of, arrivals, change, ended, moved_to, with_arrivals, with_threads, with_clock, with_priority, end_in, end_sleeps, move_in, move_sleeps, sleep_in, fall_asleep, set_priority, write_word, with_state}
use Rattle.tables.proofs.Changes.{arrivals_with, change_none}
use Rattle.tables.proofs.Sound.{Sound, fresh_ok, sound_with}
use Rattle.rules.proofs.Preserved.{Valid}

-- thread t, and word number i, are process p's
abbrev pub own_thread : ℕ → ℕ → Bool
own_thread p t = eqb (process_of t) p

abbrev pub own_word : ℕ → ℕ → Bool
own_word p i = eqb (i / words_per_process) p

-- what is own, and d in every other place
abbrev pub only_own : {A : Type 0} → (ℕ → Bool) → A → List A → List A
only_own own d l = update (λ i x. cond (own i) x d) l

unfoldable pub view_state : ℕ → State → State
view_state p s =
    with_arrivals present (filter (own_thread p) (arrivals s)) (with_threads (only_own (own_thread p) fresh_thread s.threads) s)

unfoldable pub view : ℕ → World → World
view p w = record { state = view_state p w.state; words = only_own (own_word p) 0 w.words }

pub view_state_lem : (p : ℕ) (w : World) → (view p w).state ≡ view_state p w.state
unfolding view
view_state_lem p w = refl

pub view_with_state : (p : ℕ) (s : State) (w : World) → view p (with_state s w) ≡ with_state (view_state p s) (view p w)
unfolding view
view_with_state p s w = refl

module _ {A : Type 0} (own : ℕ → Bool) (d : A) where
  get_d_own : (l : List A) (i : ℕ) (z : A) → own i ≡ true → get_or (only_own own d l) i z ≡ get_or l i z
  get_d_own l i z e = get_d_update_fixed (λ i x. cond (own i) x d) l i z (rw e) ∙ rw e

  get_d_other : (l : List A) (i : ℕ) → own i ≡ false → get_or (only_own own d l) i d ≡ d
  get_d_other l i e = get_d_update_fixed (λ i x. cond (own i) x d) l i d (rw e) ∙ rw e

  set_own : (l : List A) (i : ℕ) (v : A) → own i ≡ true → only_own own d (set l i v) ≡ set (only_own own d l) i v
  set_own l i v e = update_set (λ i x. cond (own i) x d) l i v (rw e)

  set_other : (l : List A) (i : ℕ) (v : A) → own i ≡ false → only_own own d (set l i v) ≡ only_own own d l
  set_other l i v e = update_set_forgotten (λ i x. cond (own i) x d) l i v (λ x. rw e)

-- whose a thread and a word are
pub own_thread_lem : (p i : ℕ) → i < threads_per_process → own_thread p (thread_number p i) ≡ true
own_thread_lem p i h = eq-eqb (process_of (thread_number p i)) p (omega arith)

own_word_lem : (p a : ℕ) → outside a ≡ false → own_word p (word_number p a) ≡ true
own_word_lem p a h = eq-eqb (word_number p a / words_per_process) p (let k = leb-false bytes_per_process a h in omega arith)

pub other_thread : (p q i : ℕ) → (p ≡ q → ⊥) → i < threads_per_process → own_thread p (thread_number q i) ≡ false
other_thread p q i apart h = ne_eqb (process_of (thread_number q i)) p (λ e. apart (omega arith))

other_word : (p q a : ℕ) → (p ≡ q → ⊥) → outside a ≡ false → own_word p (word_number q a) ≡ false
other_word p q a apart h =
    ne_eqb (word_number q a / words_per_process) p (λ e. let k = leb-false bytes_per_process a h in apart (omega arith))

module _ (p : ℕ) where
  -- what the view shows
  pub view_arrivals : (s : State) → arrivals (view_state p s) ≡ filter (own_thread p) (arrivals s)
  unfolding view_state
  view_arrivals s = arrivals_with present (filter (own_thread p) (arrivals s)) s

  pub view_own : (s : State) (t : ℕ) → own_thread p t ≡ true → thread_of (view_state p s) t ≡ thread_of s t
  unfolding view_state
  view_own s t e = get_d_own (own_thread p) fresh_thread s.threads t fresh_thread e

  pub view_clock : (s : State) → (view_state p s).clock ≡ s.clock
  unfolding view_state
  view_clock s = refl

  pub view_word : (w : World) (a : ℕ) → outside a ≡ false → word_at (view p w) p a ≡ word_at w p a
  unfolding view
  view_word w a h = get_d_own (own_word p) 0 w.words (word_number p a) 0 (own_word_lem p a h)

  -- the changes
  change_view : (f : Thread → Thread) (ts : List ℕ) (rs : List Thread)
      → only_own (own_thread p) fresh_thread (change f ts rs)
      ≡ change f (filter (own_thread p) ts) (only_own (own_thread p) fresh_thread rs)
  unfolding change
  change_view f ts rs = update_comm _ _ _ _ pointwise rs
    where
      pointwise : (t : ℕ) (r : Thread)
          → cond (own_thread p t) (cond (elem t ts) (f r) r) fresh_thread
          ≡ cond (elem t (filter (own_thread p) ts)) (f (cond (own_thread p t) r fresh_thread)) (cond (own_thread p t) r fresh_thread)
      pointwise t r = cases (own_thread p t)
          (λ e. rw (e, elem_filter (own_thread p) t ts e))
          (λ e. rw (e, elem_filtered_out (own_thread p) t ts e))

  pub view_end : (a : LastAnswer) (ts : List ℕ) (s : State)
      → view_state p (end_sleeps a ts s) ≡ end_sleeps a (filter (own_thread p) ts) (view_state p s)
  unfolding view_state end_in
  view_end a ts s =
      cc (
        change_view (ended a) ts s.threads,
        without_filter (own_thread p) ts (arrivals s),
        arrivals_with present (without ts (arrivals s)) s,
        arrivals_with present (filter (own_thread p) (arrivals s)) s,
      )

  pub view_move : (a : ℕ) (ts : List ℕ) (s : State)
      → view_state p (move_sleeps a ts s) ≡ move_sleeps a (filter (own_thread p) ts) (view_state p s)
  unfolding view_state move_in
  view_move a ts s =
      cc (
        change_view (moved_to a) ts s.threads,
        without_filter (own_thread p) ts (arrivals s),
        filter_append (own_thread p) (without ts (arrivals s)) ts,
        arrivals_with present (without ts (arrivals s) ++ ts) s,
        arrivals_with present (filter (own_thread p) (arrivals s)) s,
      )

  view_sleep : (f : Thread → Thread) (t : ℕ) (s : State)
      → view_state p (fall_asleep f t s)
      ≡ with_arrivals present (filter (own_thread p) (arrivals s) ++ filter (own_thread p) (t ∷ []))
      (with_threads (change f (filter (own_thread p) (t ∷ [])) (only_own (own_thread p) fresh_thread s.threads)) s)
  unfolding view_state sleep_in
  view_sleep f t s =
      cc (change_view f (t ∷ []) s.threads, filter_append (own_thread p) (arrivals s) (t ∷ []), arrivals_with present (arrivals s ++ (t ∷ [])) s)

  pub view_sleep_own : (f : Thread → Thread) (t : ℕ) (s : State) → own_thread p t ≡ true
      → view_state p (fall_asleep f t s) ≡ fall_asleep f t (view_state p s)
  unfolding view_state sleep_in
  view_sleep_own f t s e =
      let one : filter (own_thread p) (t ∷ []) ≡ t ∷ [] = rw e in
      (unfold view_state sleep_in in view_sleep f t s) ∙ rw (one, arrivals_with present (filter (own_thread p) (arrivals s)) s)

  pub view_sleep_other : (f : Thread → Thread) (t : ℕ) (s : State) → own_thread p t ≡ false
      → view_state p (fall_asleep f t s) ≡ view_state p s
  unfolding view_state
  view_sleep_other f t s e =
      view_sleep f t s
      ∙ cc (append-nil (filter (own_thread p) (arrivals s)), change_none f (only_own (own_thread p) fresh_thread s.threads))

  view_priority : (n t : ℕ) (s : State)
      → view_state p (set_priority n t s) ≡ with_threads (change (with_priority n) (filter (own_thread p) (t ∷ [])) (view_state p s).threads) (view_state p s)
  unfolding view_state set_priority
  view_priority n t s = cc (change_view (with_priority n) (t ∷ []) s.threads)

  pub view_priority_own : (n t : ℕ) (s : State) → own_thread p t ≡ true → view_state p (set_priority n t s) ≡ set_priority n t (view_state p s)
  unfolding set_priority
  view_priority_own n t s e = (unfold set_priority in view_priority n t s) ∙ rw e

  pub view_priority_other : (n t : ℕ) (s : State) → own_thread p t ≡ false → view_state p (set_priority n t s) ≡ view_state p s
  view_priority_other n t s e = view_priority n t s ∙ rw e (ap (λ rs. with_threads rs (view_state p s)) (change_none (with_priority n) (view_state p s).threads))

  pub view_with_clock : (now : ℕ) (s : State) → view_state p (with_clock now s) ≡ with_clock now (view_state p s)
  unfolding view_state
  view_with_clock now s = refl

  pub view_write_own : (a v : ℕ) (w : World) → outside a ≡ false → view p (write_word p a v w) ≡ write_word p a v (view p w)
  unfolding view write_word
  view_write_own a v w h = cc (set_own (own_word p) 0 w.words (word_number p a) v (own_word_lem p a h))

  pub view_write_other : (q a v : ℕ) (w : World) → (p ≡ q → ⊥) → outside a ≡ false → view p (write_word q a v w) ≡ view p w
  unfolding view write_word
  view_write_other q a v w apart h = cc (set_other (own_word p) 0 w.words (word_number q a) v (other_word p q a apart h))

  -- no sleep ended or moved
  pub end_none : (a : LastAnswer) (s : State) → end_sleeps a [] (view_state p s) ≡ view_state p s
  unfolding view_state end_in
  end_none a s =
      cc (
        change_none (ended a) (only_own (own_thread p) fresh_thread s.threads),
        filter_true (filter (own_thread p) (arrivals s)),
        arrivals_with present (filter (own_thread p) (arrivals s)) s,
      )

  pub move_none : (a : ℕ) (s : State) → move_sleeps a [] (view_state p s) ≡ view_state p s
  unfolding view_state move_in
  move_none a s =
      cc (
        change_none (moved_to a) (only_own (own_thread p) fresh_thread s.threads),
        filter_true (filter (own_thread p) (arrivals s)),
        append-nil (filter (own_thread p) (arrivals s)),
        arrivals_with present (filter (own_thread p) (arrivals s)) s,
      )

  -- the view is valid too
  view_sound : (s : State) → Sound s → Sound (view_state p s)
  unfolding view_state
  view_sound s g =
      sound_with present (filter (own_thread p) (arrivals s)) (with_threads (only_own (own_thread p) fresh_thread s.threads) s) (length_update _ s.threads ∙ g.records)
      (λ t. cases (own_thread p t)
      (λ e. rw (get_d_own (own_thread p) fresh_thread s.threads t fresh_thread e) (g.kept t))
      (λ e. rw (get_d_other (own_thread p) fresh_thread s.threads t e) (fresh_ok s.clock)))
      (λ t. cases (own_thread p t)
      (λ e. rw (get_d_own (own_thread p) fresh_thread s.threads t fresh_thread e) (occurs_filter (own_thread p) t (arrivals s) e ∙ g.exact t))
      (λ e. rw (get_d_other (own_thread p) fresh_thread s.threads t e) (occurs_filtered_out (own_thread p) t (arrivals s) e)))

  pub view_valid : (w : World) → Valid w → Valid (view p w)
  unfolding view
  view_valid w g = record { memory = length_update _ w.words ∙ g.memory; sound = view_sound w.state g.sound }
