-- A change that is made to one thread after another, on the bytes.
use mathlib.Core.Path.{◌≡◌, refl, sym, ap, ◌∙◌}
use mathlib.Core.List.{List}
use Prim.Native.Nat.{ℕ, ◌+◌, ◌<◌}
use native.Mathlib.Omega.{arith}
use lib.ListN.{length, take, get_or, set, length-set}
use lib.Seq.{get_or-set_same, set-set}
use Rattle.tables.specs.declared.State.{State}
use Rattle.tables.specs.declared.Thread.{Thread}
use Rattle.tables.specs.declared.Change.{Change}
use Rattle.tables.specs.Sizes.{threads}
use Rattle.tables.specs.Tables.{fresh_thread, thread_of, change, with_threads}
use Rattle.tables.specs.Steps.{changed_by}
use Rattle.tables.proofs.Changes.{length_change, change_none, changed_next}
use Rattle.layout.specs.Layout.{tables_bytes}
use Rattle.changes.specs.Change.{Whole, at_thread, on_list, Writes}

pub whole_threads : (s : State) (rs : List Thread) → length rs ≡ threads → Whole s → Whole (with_threads rs s)
whole_threads s rs size w = record { records = size; entries = w.entries }

pub whole_list : (s : State) (l : List ℕ) → length l ≡ threads → Whole s → Whole (on_list (λ x. l) s)
whole_list s l size w = record { records = w.records; entries = size }

pub whole_change : (f : Thread → Thread) (ts : List ℕ) (s : State) → Whole s → Whole (with_threads (change f ts s.threads) s)
whole_change f ts s w = whole_threads s (change f ts s.threads) (length_change f ts s.threads ∙ w.records) w

pub whole_at : (i : ℕ) (f : Thread → Thread) (s : State) → Whole s → Whole (at_thread i f s)
whole_at i f s w = whole_threads s (set s.threads i (f (thread_of s i))) (length-set s.threads i (f (thread_of s i)) ∙ w.records) w

-- a record that is changed twice
pub at_twice : (i : ℕ) (f g : Thread → Thread) (s : State) → Whole s → i < threads
    → tables_bytes (at_thread i g (at_thread i f s)) ≡ tables_bytes (at_thread i (λ r. g (f r)) s)
at_twice i f g s w low =
    let new = f (thread_of s i) in
    let now_is : thread_of (at_thread i f s) i ≡ new = get_or-set_same s.threads i new fresh_thread (omega (arith, w.records)) in
    ap (λ rs. tables_bytes (with_threads rs s)) (ap (λ r. set (set s.threads i new) i (g r)) now_is ∙ set-set s.threads i new (g new))

-- A loop over the threads ts has changed the first i.
module _ (how : Change) (ts : List ℕ) where
  abbrev pub Changed : List ℕ → List ℕ → ℕ → Type 0
  Changed b₀ b i = Writes (λ s. with_threads (change (changed_by how) (take i ts) s.threads) s) b₀ b

  pub changed_start : (b : List ℕ) → Changed b b 0
  changed_start b = λ s w is. is ∙ ap (λ rs. tables_bytes (with_threads rs s)) (sym (change_none (changed_by how) s.threads))

  pub changed_more : (b₀ b after : List ℕ) (i x : ℕ) → Changed b₀ b i → i < length ts → x ≡ get_or ts i 0 → x < threads
      → Writes (λ s. with_threads (set s.threads x (changed_by how (thread_of s x))) s) b after → Changed b₀ after (i + 1)
  changed_more b₀ b after i x done more is low new =
      λ s w same.
      let rs = change (changed_by how) (take i ts) s.threads in
      new (with_threads rs s) (whole_change (changed_by how) (take i ts) s w) (done s w same)
      ∙ ap tables_bytes (changed_next how s (with_threads rs s) ts i x (changed_by how (thread_of (with_threads rs s) x)) more (omega (arith, w.records)) refl is refl)
