-- What the changes of the tables leave: each record and the arrival list.
use mathlib.Core.Path.{◌≡◌, refl, sym, ap, ◌∙◌}
use mathlib.Core.Bool.{true, false, cond, or-true, or-false}
use mathlib.Core.List.{List, [], ◌∷◌, ◌++◌}
use Prim.Native.Nat.{ℕ, ◌+◌, ◌<◌, ◌-◌}
use native.Mathlib.Omega.{arith}
use lib.ListN.{length, take, get_or, set, replicate, length-set, get_or-eq_default}
use lib.Seq.{take-append_seam, get_or-set_same, get_or-set_other, ext_get_or}
use lib.Dec.{eqb, ltb}
use borrow.Author.Tests.{eqb-true, eqb-false, ltb-true, ltb-false}
use Rattle.lists.specs.Lists.{update, elem, without}
use Rattle.lists.proofs.Tests.{cases, eqb_refl}
use Rattle.lists.proofs.Occurs.{elem_append, without_append}
use Rattle.lists.proofs.Loops.{take_next}
use Rattle.lists.proofs.Update.{length_update, get_d_update, get_d_update_fixed, update_comm, update_id}
use Rattle.tables.specs.declared.State.{State}
use Rattle.tables.specs.declared.Thread.{Thread}
use Rattle.tables.specs.declared.LastAnswer.{LastAnswer}
use Rattle.tables.specs.declared.Change.{Change}
use Rattle.tables.specs.declared.Change.TheVariants.{End, MoveTo}
use Rattle.tables.specs.Sizes.{no_entry}
use Rattle.tables.specs.Editions.{Edition, threads_in}
use Rattle.tables.specs.Tables.{fresh_thread, arrivals, change, ended, with_arrivals, with_threads, end_in, move_in}
use Rattle.tables.specs.Steps.{changed_by}

-- records
pub length_change : (f : Thread → Thread) (ts : List ℕ) (rs : List Thread) → length (change f ts rs) ≡ length rs
unfolding change
length_change f ts rs = length_update _ rs

pub change_other : (f : Thread → Thread) (ts : List ℕ) (rs : List Thread) (t : ℕ) (d : Thread) → elem t ts ≡ false
    → get_or (change f ts rs) t d ≡ get_or rs t d
unfolding change
change_other f ts rs t d e = get_d_update_fixed (λ t r. cond (elem t ts) (f r) r) rs t d (rw e) ∙ rw e

pub change_at : (f : Thread → Thread) (ts : List ℕ) (rs : List Thread) (t : ℕ) (d : Thread) → t < length rs
    → get_or (change f ts rs) t d ≡ cond (elem t ts) (f (get_or rs t d)) (get_or rs t d)
unfolding change
change_at f ts rs t d h = get_d_update (λ t r. cond (elem t ts) (f r) r) rs t d h

pub change_named : (f : Thread → Thread) (ts : List ℕ) (rs : List Thread) (t : ℕ) (d : Thread) → elem t ts ≡ true
    → t < length rs → get_or (change f ts rs) t d ≡ f (get_or rs t d)
change_named f ts rs t d e h = change_at f ts rs t d h ∙ rw e

-- what a change keeps of a record, it keeps of every record
pub change_kept : {A : Type 0} (field : Thread → A) (f : Thread → Thread) → ((r : Thread) → field (f r) ≡ field r)
    → (ts : List ℕ) (rs : List Thread) (t : ℕ) (d : Thread) → field (get_or (change f ts rs) t d) ≡ field (get_or rs t d)
change_kept field f keeps ts rs t d = cases (ltb t (length rs))
    (λ e. rw (change_at f ts rs t d (ltb-true t (length rs) e)) (cases (elem t ts) (λ h. rw h (keeps (get_or rs t d))) (λ h. rw h)))
    (λ e.
    let out = ltb-false t (length rs) e in
    rw (get_or-eq_default (change f ts rs) d {n = t} (omega (arith, length_change f ts rs)), get_or-eq_default rs d {n = t} out))

pub change_none : (f : Thread → Thread) (rs : List Thread) → change f [] rs ≡ rs
unfolding change
change_none f rs = update_id _ (λ t r. refl) rs

-- one more thread changed, by a change that leaves what it has changed
module _ (f : Thread → Thread) (again : (r : Thread) → f (f r) ≡ f r) (ts : List ℕ) (rs : List Thread) (t : ℕ) (d : Thread) (h : t < length rs) where
  abbrev new : Thread
  new = f (get_or (change f ts rs) t d)

  new_is : new ≡ f (get_or rs t d)
  new_is = cases (elem t ts)
      (λ e. rw (change_named f ts rs t d e h) (again (get_or rs t d)))
      (λ e. rw (change_other f ts rs t d e))

  at_next : (i : ℕ) → i < length rs → get_or (change f (ts ++ (t ∷ [])) rs) i d ≡ get_or (set (change f ts rs) t new) i d
  at_next i l = cases (eqb i t)
      (λ e.
      let it = eqb-true i t e in
      let listed : elem t (ts ++ (t ∷ [])) ≡ true = elem_append t ts (t ∷ []) ∙ rw (eqb_refl t) (or-true (elem t ts)) in
      rw it
      (change_named f (ts ++ (t ∷ [])) rs t d listed h
      ∙ sym (get_or-set_same (change f ts rs) t new d (omega (arith, length_change f ts rs)) ∙ new_is)))
      (λ e.
      let same : elem i (ts ++ (t ∷ [])) ≡ elem i ts = elem_append i ts (t ∷ []) ∙ rw e (or-false (elem i ts)) in
      change_at f (ts ++ (t ∷ [])) rs i d l
      ∙ rw same (sym (change_at f ts rs i d l))
      ∙ sym (get_or-set_other (change f ts rs) t i new d (eqb-false i t e)))

  pub change_next : change f (ts ++ (t ∷ [])) rs ≡ set (change f ts rs) t new
  change_next =
      ext_get_or d (change f (ts ++ (t ∷ [])) rs) (set (change f ts rs) t new)
      (length_change f (ts ++ (t ∷ [])) rs ∙ sym (length-set (change f ts rs) t new ∙ length_change f ts rs))
      (λ i l. at_next i (omega (arith, length_change f (ts ++ (t ∷ [])) rs)))

-- one thread changed
pub change_one : (f : Thread → Thread) → ((r : Thread) → f (f r) ≡ f r) → (rs : List Thread) (t : ℕ) (d : Thread) → t < length rs
    → change f (t ∷ []) rs ≡ set rs t (f (get_or rs t d))
change_one f again rs t d h = change_next f again [] rs t d h ∙ rw (change_none f rs)

-- the arrival list
pub arrivals_with : (ed : Edition) (l : List ℕ) (s : State) → arrivals (with_arrivals ed l s) ≡ l
arrivals_with ed l s = take-append_seam l (replicate (threads_in ed - length l) no_entry)

pub arrivals_end : (ed : Edition) (a : LastAnswer) (ts : List ℕ) (s : State) → arrivals (end_in ed a ts s) ≡ without ts (arrivals s)
unfolding end_in
arrivals_end ed a ts s = arrivals_with ed (without ts (arrivals s)) s

pub arrivals_move : (ed : Edition) (a : ℕ) (ts : List ℕ) (s : State) → arrivals (move_in ed a ts s) ≡ without ts (arrivals s) ++ ts
unfolding move_in
arrivals_move ed a ts s = arrivals_with ed (without ts (arrivals s) ++ ts) s

-- sleeps that end, and then others
change_append : (a : LastAnswer) (us ts : List ℕ) (rs : List Thread) → change (ended a) ts (change (ended a) us rs) ≡ change (ended a) (us ++ ts) rs
unfolding change
change_append a us ts rs =
    update_comm _ _ (λ t r. r) (λ t r. cond (elem t (us ++ ts)) (ended a r) r) pointwise rs
    ∙ ap (update (λ t r. cond (elem t (us ++ ts)) (ended a r) r)) (update_id (λ t r. r) (λ t r. refl) rs)
  where
    pointwise : (t : ℕ) (r : Thread)
        → cond (elem t ts) (ended a (cond (elem t us) (ended a r) r)) (cond (elem t us) (ended a r) r) ≡ cond (elem t (us ++ ts)) (ended a r) r
    pointwise t r = rw (elem_append t us ts) (cases (elem t us)
        (λ e. rw e (cases (elem t ts) (λ d. rw d) (λ d. rw d)))
        (λ e. rw e))

pub end_append : (ed : Edition) (a : LastAnswer) (us ts : List ℕ) (s : State) → end_in ed a ts (end_in ed a us s) ≡ end_in ed a (us ++ ts) s
unfolding end_in
end_append ed a us ts s =
    cc (change_append a us ts s.threads, arrivals_with ed (without us (arrivals s)) (with_threads (change (ended a) us s.threads) s), without_append us ts (arrivals s))

-- a change that is made to one thread after another: one thread more
again : (how : Change) (r : Thread) → changed_by how (changed_by how r) ≡ changed_by how r
again (End a) r = refl
again (MoveTo a) r = refl

pub changed_next : (how : Change) (s₀ s : State) (ts : List ℕ) (i x : ℕ) (u : Thread) → i < length ts → x < length s₀.threads
    → s ≡ with_threads (change (changed_by how) (take i ts) s₀.threads) s₀ → x ≡ get_or ts i 0
    → u ≡ changed_by how (get_or s.threads x fresh_thread)
    → with_threads (set s.threads x u) s ≡ with_threads (change (changed_by how) (take (i + 1) ts) s₀.threads) s₀
changed_next how s₀ s ts i x u h l done is new =
    cc (take_next ts i 0 h, change_next (changed_by how) (again how) (take i ts) s₀.threads x fresh_thread l)
