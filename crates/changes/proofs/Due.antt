-- Whose deadline has come is read from the number that is stored: on tables that keep the rules a sleeper has none exactly where it is 0.
use mathlib.Core.Path.{◌≡◌, refl, sym, ap, ◌∙◌}
use mathlib.Core.Bool.{Bool, true, false, not, ◌&&◌}
use mathlib.Core.List.{List}
use Prim.Native.Nat.{ℕ, ◌+◌, ◌-◌, ◌*◌, ◌%◌, ◌<◌}
use native.Mathlib.Omega.{arith}
use lib.ListN.{length, take, drop, get_or}
use lib.Seq.{take-take, get_or-take, drop-drop}
use lib.Dec.{eqb, ltb}
use borrow.Author.Tests.{eqb-true, ltb-true}
use Rattle.lists.specs.Lists.{all, elem}
use Rattle.lists.specs.LittleEndian.{le, number_at}
use Rattle.lists.proofs.Tests.{cases, clash, and_right}
use Rattle.lists.proofs.Filter.{all_at, at_all}
use Rattle.lists.proofs.Occurs.{elem_get_d}
use Rattle.std.specs.Bool.{MatchBool}
use Rattle.std.specs.List.{AllWithin, HoldsAt}
use Rattle.tables.specs.declared.State.{State}
use Rattle.tables.specs.declared.Thread.{Thread}
use Rattle.tables.specs.Sizes.{threads, bytes_per_process}
use Rattle.tables.specs.Tables.{thread_of, arrivals, aligned}
use Rattle.tables.proofs.Sound.{Sound, tables_sound, few, sleep_kept, listed_waiting, listed_below}
use Rattle.layout.specs.Layout.{time_bytes, count_at, list_at, waiting_at, deadline_at, thread_at, state_at}
use Rattle.layout.specs.Check.{Held}
use Rattle.layout.proofs.Reading.{count_read, list_read, thread_read}
use Rattle.changes.specs.Change.{has_come, is_due}

module _ (s : State) (g : Sound s) where
  come_due : (time t : ℕ) → elem t (arrivals s) ≡ true → has_come time (thread_of s t).deadline ≡ is_due time s t
  come_due time t here =
      let r = thread_of s t in
      let w : r.waiting ≡ true = sym (listed_waiting s g t) ∙ here in
      let placed = aligned r.uaddr && ltb r.uaddr bytes_per_process && not (eqb r.bitset 0) in
      cases r.timed
      (λ d. let ok : (placed && ltb s.clock r.deadline) ≡ true = cc (sleep_kept s g t) in
      let above = ltb-true s.clock r.deadline (and_right placed (ltb s.clock r.deadline) ok) in
      let some : eqb r.deadline 0 ≡ false = cases (eqb r.deadline 0) (λ e. absurd (let none = eqb-true r.deadline 0 e in omega arith)) (λ e. e) in
      rw (w, d, some))
      (λ d. let ok : (placed && eqb r.deadline 0) ≡ true = cc (sleep_kept s g t) in
      rw (w, d, and_right placed (eqb r.deadline 0) ok))

  listed_at : (i : ℕ) → i < s.count → elem (get_or s.list i 0) (arrivals s) ≡ true
  listed_at i on = rw (sym (get_or-take s.count s.list i 0 on)) (elem_get_d (arrivals s) i 0 (omega (arith, g.counted)))

-- bytes that are as they were behind the list
deadline_behind : (b b₀ : List ℕ) → drop waiting_at b ≡ drop waiting_at b₀ → (t : ℕ) → (thread_at b t).deadline ≡ (thread_at b₀ t).deadline
deadline_behind b b₀ same t =
    let k = deadline_at + time_bytes * t in
    let there : waiting_at + (k - waiting_at) ≡ k = omega arith in
    let behind : (l : List ℕ) → drop k l ≡ drop (k - waiting_at) (drop waiting_at l) = λ l. sym (drop-drop (k - waiting_at) waiting_at l ∙ ap (λ n. drop n l) there) in
    ap (λ l. le (take time_bytes l)) (behind b ∙ ap (drop (k - waiting_at)) same ∙ sym (behind b₀))

pub due_read : (b₀ : List ℕ) → Held b₀ → (b : List ℕ) → drop waiting_at b ≡ drop waiting_at b₀ → (time i e : ℕ) → i < (state_at b₀).count → e ≡ get_or (state_at b₀).list i 0
    → has_come time (thread_at b (e % threads)).deadline ≡ is_due time (state_at b₀) e
due_read b₀ h b same time i e on is =
    let s = state_at b₀ in
    let g = tables_sound s h.sound in
    let here : elem e (arrivals s) ≡ true = ap (λ x. elem x (arrivals s)) is ∙ listed_at s g i on in
    let low = listed_below s g e here in
    let number : e % threads ≡ e = omega arith in
    ap (λ t. has_come time (thread_at b t).deadline) number ∙ ap (has_come time) (deadline_behind b b₀ same e)
    ∙ ap (λ (r : Thread). has_come time r.deadline) (sym (thread_read b₀ e low)) ∙ come_due s g time e here

-- the part of the bytes that lists the sleepers
pub arrivals_read : (b : List ℕ) → Held b → (n : ℕ) → n ≡ number_at time_bytes count_at b → take n (drop list_at b) ≡ arrivals (state_at b)
arrivals_read b h n read =
    let count : n ≡ (state_at b).count = read ∙ count_read b in
    sym (take-take n threads (drop list_at b) (omega (arith, count, few (state_at b) (tables_sound (state_at b) h.sound))))
    ∙ (λ j. take (count j) (list_read b j))

-- Whether a listed thread was found whose deadline has come.
module _ (b : List ℕ) (h : Held b) (time : ℕ) where
  abbrev s : State
  s = state_at b

  abbrev come : ℕ → Bool
  come e = has_come time (thread_at b (e % threads)).deadline

  abbrev awake : ℕ → Bool
  awake t = not (is_due time s t)

  each : (k : ℕ) → k < length (arrivals s) → come (get_or (arrivals s) k 0) ≡ is_due time s (get_or (arrivals s) k 0)
  each k low =
      let on : k < s.count = omega (arith, (tables_sound s h.sound).counted) in
      due_read b h b refl time k (get_or (arrivals s) k 0) on (get_or-take s.count s.list k 0 on)

  pub due_found : (found : Bool)
      → MatchBool found ((k : ℕ) × (k < length (arrivals s)) × HoldsAt (λ e. come e ≡ true) (arrivals s) k) (AllWithin (λ e. come e ≡ false) (arrivals s) 0 (length (arrivals s)))
      → found ≡ not (all awake (arrivals s))
  due_found true (k, low, hit) = cases (all awake (arrivals s))
      (λ e. clash (awake (get_or (arrivals s) k 0)) (at_all awake 0 (arrivals s) e k low) (ap not (sym (each k low) ∙ hit 0)))
      (λ e. rw e)
  due_found false none = rw (all_at awake 0 (arrivals s) (λ k low. ap not (sym (each k low) ∙ none k 0 (omega arith) low)))
