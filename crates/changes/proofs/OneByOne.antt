-- Threads are taken out of the list one after the other, by their places: the first n run, and the others move to its end.
use mathlib.Core.Path.{◌≡◌, refl, sym, ap, subst, ◌∙◌}
use mathlib.Core.Bool.{Bool, true, false, not, ◌||◌}
use mathlib.Core.List.{List, [], ◌∷◌, ◌++◌, append_assoc}
use Prim.Native.Nat.{ℕ, ◌+◌, ◌-◌, ◌%◌, ◌≤◌, ◌<◌}
use native.Mathlib.Omega.{arith}
use borrow.Author.Tests.{eqb-true, not-true}
use lib.ListN.{length, take, drop, get_or, length-drop}
use lib.Seq.{length-take-le, take_all, take-append_seam, drop-append_seam, take-take, take-add, get_or-take, get_or-drop}
use lib.Dec.{eqb}
use Rattle.lists.specs.Lists.{all, elem, without, distinct, pad_to}
use Rattle.lists.specs.LittleEndian.{number_at}
use Rattle.lists.proofs.Tests.{cases, clash, and_right, or_right}
use Rattle.lists.proofs.Filter.{filter_append, filter_all, at_all}
use Rattle.lists.proofs.Occurs.{occurs, all_elem, elem_append, elem_get_d, without_append, occurs_distinct, distinct_occurs, occurs_take_le}
use Rattle.lists.proofs.Loops.{take_next, distinct_snoc}
use Rattle.tables.specs.declared.State.{State}
use Rattle.tables.specs.declared.LastAnswer.TheVariants.{Woken}
use Rattle.tables.specs.Sizes.{threads_per_process, threads, no_entry}
use Rattle.tables.specs.Editions.{present}
use Rattle.tables.specs.Tables.{fresh_thread, thread_number, process_of, arrivals, change, moved_to, end_sleeps, move_in, move_sleeps}
use Rattle.tables.specs.Steps.{place_of}
use Rattle.tables.proofs.Changes.{length_change, change_next, change_one, arrivals_end, arrivals_move, end_append}
use Rattle.tables.proofs.Sound.{Sound, tables_sound, listed_below}
use Rattle.tables.proofs.Kept.{ending}
use Rattle.tables.proofs.Stored.{end_nobody, move_nobody}
use Rattle.layout.specs.Layout.{time_bytes, count_at, state_at, tables_bytes}
use Rattle.layout.specs.Check.{Held}
use Rattle.changes.specs.Change.{StandsAt, Lowered, Lined, MovesOne, Leave}
use Rattle.changes.proofs.Standing.{count_in}
use Rattle.changes.proofs.Leaving.{lined_sound, whole_lined, stands_less, stands_before, stands_first, stands_within, lined_moved}
use Rattle.changes.proofs.Faithful.{ended_held, ended_back}

-- a list of different numbers: each stands in it for the first time
fresh : (l : List ℕ) (n k : ℕ) → distinct (take n l) ≡ true → n ≤ length l → k < n → elem (get_or l k 0) (take k l) ≡ false
fresh l n k apart fits less =
    let once : distinct (take (k + 1) l) ≡ true =
    occurs_distinct (take (k + 1) l)
    (λ t. omega (arith, distinct_occurs t (take n l) apart, ap (occurs t) (take-take (k + 1) n l (omega arith)), occurs_take_le (k + 1) t (take n l))) in
    not-true (elem (get_or l k 0) (take k l))
    (and_right (distinct (take k l)) (not (elem (get_or l k 0) (take k l)))
    (sym (distinct_snoc (take k l) (get_or l k 0)) ∙ ap distinct (sym (take_next l k 0 (omega arith))) ∙ once))

-- one thread more moves
move_next : (a : ℕ) (us : List ℕ) (x : ℕ) (s : State) → elem x us ≡ false → x < length s.threads
    → move_sleeps a (x ∷ []) (move_sleeps a us s) ≡ move_sleeps a (us ++ (x ∷ [])) s
unfolding move_in
move_next a us x s out low =
    let l = arrivals s in
    let records : change (moved_to a) (x ∷ []) (change (moved_to a) us s.threads) ≡ change (moved_to a) (us ++ (x ∷ [])) s.threads =
    change_one (moved_to a) (λ r. refl) (change (moved_to a) us s.threads) x fresh_thread (omega (arith, length_change (moved_to a) us s.threads))
    ∙ sym (change_next (moved_to a) (λ r. refl) us s.threads x fresh_thread low) in
    let kept : without (x ∷ []) us ≡ us = filter_all (λ t. not (elem t (x ∷ []))) us (all_elem (λ t. not (elem t (x ∷ []))) us others) in
    let list : without (x ∷ []) (arrivals (move_sleeps a us s)) ++ (x ∷ []) ≡ without (us ++ (x ∷ [])) l ++ (us ++ (x ∷ [])) =
    ap (λ z. without (x ∷ []) z ++ (x ∷ [])) (arrivals_move present a us s)
    ∙ ap (◌++ (x ∷ [])) (filter_append (λ t. not (elem t (x ∷ []))) (without us l) us ∙ (λ j. without_append us (x ∷ []) l j ++ kept j))
    ∙ append_assoc (without (us ++ (x ∷ [])) l) us (x ∷ []) in
    λ j. record { clock = s.clock; threads = records j; list = pad_to threads no_entry (list j); count = length (list j) }
  where
    others : (t : ℕ) → elem t us ≡ true → not (elem t (x ∷ [])) ≡ true
    others t e = cases (eqb t x)
        (λ q. clash (elem x us) (ap (λ u. elem u us) (sym (eqb-true t x q)) ∙ e) out)
        (λ q. rw q)

-- the tables once the first i are taken
abbrev pub taken : State → List ℕ → ℕ → ℕ → ℕ → State
taken s ts n a i = move_sleeps a (take (i - n) (drop n ts)) (end_sleeps Woken (take i (take n ts)) s)

pub record OneByOne (s : State) (ts : List ℕ) (n many a : ℕ) (b at : List ℕ) (i : ℕ) : Type 0 where
  pub bytes : b ≡ tables_bytes (taken s ts n a i)
  pub lined : Lined (taken s ts n a i)
  pub coming : (k : ℕ) → i ≤ k → k < many → StandsAt (get_or at (get_or ts k 0 % threads_per_process) 0) (get_or ts k 0) (arrivals (taken s ts n a i))

module _ (b₀ : List ℕ) (h : Held b₀) (place ts : List ℕ) (n many a : ℕ) (g : Leave place ts many (state_at b₀)) (long : many ≤ length ts) where
  abbrev s : State
  s = state_at b₀

  sound : Sound s
  sound = tables_sound s h.sound

  -- what all those that are taken pass
  passes : (f : ℕ → Bool) → all f (take many ts) ≡ true → (k : ℕ) → k < many → f (get_or ts k 0) ≡ true
  passes f h k less =
      ap f (sym (get_or-take many ts k 0 less))
      ∙ at_all f 0 (take many ts) h k (omega (arith, length-take-le many ts long))

  listed : (k : ℕ) → k < many → elem (get_or ts k 0) (arrivals s) ≡ true
  listed k less = passes (λ t. elem t (arrivals s)) g.each k less

  taken_low : (k : ℕ) → k < many → get_or ts k 0 < threads
  taken_low k less = listed_below s sound (get_or ts k 0) (listed k less)

  stands : (k : ℕ) → k < many → StandsAt (get_or place (get_or ts k 0 % threads_per_process) 0) (get_or ts k 0) (arrivals s)
  stands k less =
      let t = get_or ts k 0 in
      let whose = eqb-true (process_of t) g.process (passes (λ u. eqb (process_of u) g.process) g.own k less) in
      let number : thread_number g.process (t % threads_per_process) ≡ t = omega arith in
      record {
        listed = listed k less;
        there = g.column (t % threads_per_process) (omega arith) ∙ ap (λ u. place_of u (arrivals s)) number;
      }

  first_time : (k : ℕ) → k < many → elem (get_or ts k 0) (take k ts) ≡ false
  first_time k less = fresh ts many k g.apart long less

  -- a later one is another
  other : (i k : ℕ) → i < k → k < many → eqb (get_or ts k 0) (get_or ts i 0) ≡ false
  other i k later less = cases (eqb (get_or ts k 0) (get_or ts i 0))
      (λ e. clash (elem (get_or ts k 0) (take k ts))
      (ap (λ u. elem u (take k ts)) (eqb-true (get_or ts k 0) (get_or ts i 0) e ∙ sym (get_or-take k ts i 0 later))
      ∙ elem_get_d (take k ts) i 0 (omega (arith, length-take-le k ts (omega arith))))
      (first_time k less))
      (λ e. e)

  -- as long as none moves
  until : (i : ℕ) → i ≤ n → taken s ts n a i ≡ end_sleeps Woken (take i ts) s
  until i ends =
      let none : i - n ≡ 0 = omega arith in
      (λ j. move_sleeps a (take (none j) (drop n ts)) (end_sleeps Woken (take-take i n ts ends j) s))
      ∙ move_nobody a (end_sleeps Woken (take i ts) s) (ending Woken (take i ts) s sound)

  -- from there on
  onwards : (i : ℕ) → n ≤ i → i < many → taken s ts n a (i + 1) ≡ move_sleeps a (get_or ts i 0 ∷ []) (taken s ts n a i)
  onwards i moves less =
      let u = end_sleeps Woken (take n ts) s in
      let us = take (i - n) (drop n ts) in
      let x = get_or ts i 0 in
      let size : length (take n ts) ≡ n = length-take-le n ts (omega arith) in
      let now_all : take i (take n ts) ≡ take n ts = take_all i (take n ts) (omega arith) in
      let then_all : take (i + 1) (take n ts) ≡ take n ts = take_all (i + 1) (take n ts) (omega arith) in
      let more : i + 1 - n ≡ i - n + 1 = omega arith in
      let at : n + (i - n) ≡ i = omega arith in
      let last : get_or (drop n ts) (i - n) 0 ≡ x = get_or-drop n ts (i - n) 0 ∙ ap (λ k. get_or ts k 0) at in
      let all : take (i + 1 - n) (drop n ts) ≡ us ++ (x ∷ []) =
      ap (λ k. take k (drop n ts)) more ∙ take_next (drop n ts) (i - n) 0 (omega (arith, length-drop n ts)) ∙ ap (λ t. us ++ (t ∷ [])) last in
      let both : take i ts ≡ take n ts ++ us = ap (λ k. take k ts) (sym at) ∙ take-add n (i - n) ts in
      let out : (elem x (take n ts) || elem x us) ≡ false = sym (elem_append x (take n ts) us) ∙ ap (elem x) (sym both) ∙ first_time i less in
      (λ j. move_sleeps a (all j) (end_sleeps Woken (then_all j) s))
      ∙ sym (move_next a us x u (or_right (elem x (take n ts)) (elem x us) out) (omega (arith, taken_low i less, (ending Woken (take n ts) s sound).records)))
      ∙ (λ j. move_sleeps a (x ∷ []) (move_sleeps a us (end_sleeps Woken (sym now_all j) s)))

  pub one_start : OneByOne s ts n many a b₀ place 0
  one_start =
      let none : taken s ts n a 0 ≡ s = until 0 (omega arith) ∙ end_nobody Woken s sound in
      record {
        bytes = h.bytes ∙ ap tables_bytes (sym none);
        lined = subst Lined (sym none) (lined_sound s sound);
        coming = λ k later less. subst (λ u. StandsAt (get_or place (get_or ts k 0 % threads_per_process) 0) (get_or ts k 0) (arrivals u)) (sym none) (stands k less);
      }

  module _ (b at : List ℕ) (i x : ℕ) (o : OneByOne s ts n many a b at i) (on : i < many) (named : x ≡ get_or ts i 0) where
    abbrev v : State
    v = taken s ts n a i

    abbrev out : ℕ
    out = get_or at (x % threads_per_process) 0

    here : StandsAt out x (arrivals v)
    here = rw named (o.coming i (omega arith) on)

    pub one_most : get_or at (x % threads_per_process) 0 ≤ threads
    one_most = omega (arith, stands_within v o.lined x out here, o.lined.few)

    -- those that are still to come, in a list in which they stand as in the one without the thread
    still : (l at' : List ℕ) → ((q t : ℕ) → StandsAt q t (without (x ∷ []) (arrivals v)) → eqb t x ≡ false → StandsAt q t l) → Lowered at out at'
        → (k : ℕ) → i + 1 ≤ k → k < many → StandsAt (get_or at' (get_or ts k 0 % threads_per_process) 0) (get_or ts k 0) l
    still l at' kept low k later less =
        let t = get_or ts k 0 in
        let apart : eqb t x ≡ false = rw named (other i k (omega arith) less) in
        kept _ t
        (stands_less out x (arrivals v) o.lined.apart here (get_or at (t % threads_per_process) 0) t (o.coming k (omega arith) less) apart _ (low (t % threads_per_process) (omega arith)))
        apart

    -- it runs
    module _ (ends : i < n) where
      bytes_ended : b ≡ tables_bytes (end_sleeps Woken (take i ts) s)
      bytes_ended = o.bytes ∙ ap tables_bytes (until i (omega arith))

      pub one_held : Held b
      one_held = ended_held b₀ h Woken (take i ts) b bytes_ended

      back : state_at b ≡ end_sleeps Woken (take i ts) s
      back = ended_back b₀ h Woken (take i ts) b bytes_ended

      pub one_stands : StandsAt (get_or at (x % threads_per_process) 0) x (arrivals (state_at b))
      one_stands = subst (λ u. StandsAt out x (arrivals u)) (until i (omega arith) ∙ sym back) here

      pub one_ends : (b' at' : List ℕ) → b' ≡ tables_bytes (end_sleeps Woken (x ∷ []) (state_at b)) → Lowered at (get_or at (x % threads_per_process) 0) at'
          → OneByOne s ts n many a b' at' (i + 1)
      one_ends b' at' new low =
          let u = end_sleeps Woken (take (i + 1) ts) s in
          let next : end_sleeps Woken (x ∷ []) (end_sleeps Woken (take i ts) s) ≡ u =
          end_append present Woken (take i ts) (x ∷ []) s
          ∙ ap (λ us. end_sleeps Woken us s) (ap (λ t. take i ts ++ (t ∷ [])) named ∙ sym (take_next ts i 0 (omega arith))) in
          let is : u ≡ taken s ts n a (i + 1) = sym (until (i + 1) (omega arith)) in
          let list : without (x ∷ []) (arrivals v) ≡ arrivals u =
          ap (λ (w : State). without (x ∷ []) (arrivals w)) (until i (omega arith)) ∙ sym (arrivals_end present Woken (x ∷ []) (end_sleeps Woken (take i ts) s)) ∙ ap arrivals next in
          record {
            bytes = new ∙ ap (λ w. tables_bytes (end_sleeps Woken (x ∷ []) w)) back ∙ ap tables_bytes (next ∙ is);
            lined = subst Lined is (lined_sound u (ending Woken (take (i + 1) ts) s sound));
            coming = still (arrivals (taken s ts n a (i + 1))) at' (λ q t d e. subst (StandsAt q t) (list ∙ ap arrivals is) d) low;
          }

    -- it moves
    pub one_may_move : (x < threads) × ((1 ≤ get_or at (x % threads_per_process) 0)
        × ((get_or at (x % threads_per_process) 0 ≤ number_at time_bytes count_at b) × (number_at time_bytes count_at b ≤ threads)))
    one_may_move =
        let count = count_in v (whole_lined v o.lined) o.lined.few b o.bytes in (
          rw named (taken_low i on),
          (stands_first v o.lined x out here, (omega (arith, count, stands_within v o.lined x out here), omega (arith, count, o.lined.few))),
        )

    module _ (moves : n ≤ i) where
      pub one_moves : (b' at' : List ℕ) → MovesOne a x (get_or at (x % threads_per_process) 0) b b' → Lowered at (get_or at (x % threads_per_process) 0) at'
          → OneByOne s ts n many a b' at' (i + 1)
      one_moves b' at' new low =
          let is : move_sleeps a (x ∷ []) v ≡ taken s ts n a (i + 1) = ap (λ t. move_sleeps a (t ∷ []) v) named ∙ sym (onwards i moves on) in
          let list : without (x ∷ []) (arrivals v) ++ (x ∷ []) ≡ arrivals (taken s ts n a (i + 1)) = sym (arrivals_move present a (x ∷ []) v) ∙ ap arrivals is in
          record {
            bytes = new v o.lined here o.bytes ∙ ap tables_bytes is;
            lined = subst Lined is (lined_moved v o.lined x out here a);
            coming = still (arrivals (taken s ts n a (i + 1))) at' (λ q t d e. subst (StandsAt q t) list (stands_before x (without (x ∷ []) (arrivals v)) q t d e)) low;
          }

-- once all are taken
pub one_all : (s : State) (es ms : List ℕ) (a : ℕ) (b at : List ℕ) → OneByOne s (es ++ ms) (length es) (length es + length ms) a b at (length es + length ms)
    → b ≡ tables_bytes (move_sleeps a ms (end_sleeps Woken es s))
one_all s es ms a b at o =
    let n = length es in
    let rest : n + length ms - n ≡ length ms = omega arith in
    let ended : take (n + length ms) (take n (es ++ ms)) ≡ es =
    ap (take (n + length ms)) (take-append_seam es ms) ∙ take_all (n + length ms) es (omega arith) in
    let moved : take (n + length ms - n) (drop n (es ++ ms)) ≡ ms =
    (λ j. take (rest j) (drop-append_seam es ms j)) ∙ take_all (length ms) ms (omega arith) in
    o.bytes ∙ (λ j. tables_bytes (move_sleeps a (moved j) (end_sleeps Woken (ended j) s)))
