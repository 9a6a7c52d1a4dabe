-- The arrival list as it is stored: it names threads, and what is split off it and joined to it is what the changes leave.
use mathlib.Core.Path.{◌≡◌, refl, sym, ap, ◌∙◌}
use mathlib.Core.Bool.{Bool, true, false, not}
use mathlib.Core.List.{List, [], ◌∷◌, ◌++◌, append-nil}
use Prim.Native.Nat.{ℕ, ◌+◌, ◌-◌, ◌≤◌, ◌<◌}
use native.Mathlib.Omega.{arith}
use lib.ListN.{length, take, get_or, set, length-append}
use lib.Seq.{take_all}
use lib.Dec.{ltb}
use borrow.Author.Tests.{ltb-true, lt-ltb}
use Rattle.lists.specs.Lists.{filter, all, elem, without, pad_to}
use Rattle.lists.proofs.Tests.{cases}
use Rattle.lists.proofs.Filter.{all_filtered, length_filter, filter_true}
use Rattle.lists.proofs.Occurs.{in_first, in_second, elem_all, all_elem, elem_get_d, elem_filter, elem_filtered_out, occurs_distinct, filter_agree, without_append}
use Rattle.lists.proofs.Loops.{length_snoc, pad_to_snoc}
use Rattle.lists.proofs.Padded.{take_padded}
use Rattle.tables.specs.declared.State.{State}
use Rattle.tables.specs.declared.Thread.{Thread}
use Rattle.tables.specs.declared.LastAnswer.{LastAnswer}
use Rattle.tables.specs.declared.Change.TheVariants.{End, MoveTo}
use Rattle.arrivals.specs.declared.Split.{Split}
use Rattle.arrivals.specs.Arrivals.{Listed}
use Rattle.arrivals.proofs.Places.{length_without}
use Rattle.tables.specs.Sizes.{threads, no_entry}
use Rattle.tables.specs.Editions.{present}
use Rattle.tables.specs.Tables.{fresh_thread, thread_of, arrivals, change, with_threads, ended, moved_to, with_priority, end_in, end_sleeps, move_in, move_sleeps, sleep_in, fall_asleep, set_priority, asleep_at}
use Rattle.tables.specs.Steps.{changed_by, Numbers, Flags, flagged, split_of, end_flagged, Taking}
use Rattle.tables.proofs.Changes.{arrivals_end, change_none, change_one}
use Rattle.tables.proofs.Sound.{Sound, listed_below, all_low, once, arrivals_fit, few, room}

-- a list of thread numbers
low_numbers : (ts : List ℕ) → length ts ≤ threads → all (λ t. ltb t threads) ts ≡ true → Numbers ts (length ts)
low_numbers ts fits low =
    record { few = fits; below = λ k h. ltb-true (get_or ts k 0) threads (elem_all (λ t. ltb t threads) ts low (get_or ts k 0) (elem_get_d ts k 0 h)) }

module _ (s : State) (g : Sound s) where
  -- flags that say which listed threads pass
  pub flagged_listed : (flags : List Bool) (f : ℕ → Bool) → Flags flags f → filter (flagged flags) (arrivals s) ≡ filter f (arrivals s)
  flagged_listed flags f h = filter_agree (flagged flags) f (arrivals s) (λ t e. h t (listed_below s g t e))

  pub list_numbers : Numbers (arrivals s) (length (arrivals s))
  list_numbers = low_numbers (arrivals s) (arrivals_fit s g) (all_low s g)

  -- those who pass, and the others
  module _ (f : ℕ → Bool) (x : Split) (is : x ≡ split_of f (arrivals s)) where
    abbrev found : List ℕ
    found = filter f (arrivals s)

    pub split_are : take x.n x.taken ≡ found
    unfolding split_of
    split_are = rw is (take_padded threads no_entry found)

    found_fit : length found ≤ threads
    found_fit = omega (arith, length_filter f (arrivals s), arrivals_fit s g)

    pub split_few : x.n ≤ threads
    unfolding split_of
    split_few = rw is found_fit

    pub split_numbers : Numbers (take x.n x.taken) (length (take x.n x.taken))
    split_numbers = rw split_are (low_numbers found found_fit (all_filtered (λ t. ltb t threads) f (arrivals s) (all_low s g)))

    -- the sleeps that end
    pub ends : (a : LastAnswer) (u : State) → u ≡ with_threads (change (changed_by (End a)) (take x.n x.taken) s.threads) s
        → record { state = record { clock = u.clock; threads = u.threads; list = x.left; count = x.count }; n = x.n } ≡ end_flagged a f s
    unfolding end_flagged end_in split_of
    ends a u new =
        let left : filter (λ t. not (f t)) (arrivals s) ≡ without found (arrivals s) =
        filter_agree (λ t. not (f t)) (λ t. not (elem t found)) (arrivals s) (λ t e. ap not (passes t e)) in
        cc (split_are, left)
      where
        passes : (t : ℕ) → elem t (arrivals s) ≡ true → f t ≡ elem t (filter f (arrivals s))
        passes t e = cases (f t)
            (λ d. rw d (sym (elem_filter f t (arrivals s) d ∙ e)))
            (λ d. rw d (sym (elem_filtered_out f t (arrivals s) d)))

  -- threads that are taken out of the list, of whom some join its end
  module _ (place es ms : List ℕ) (h : Taking place (es ++ ms) (length es + length ms) s) where
    abbrev ts : List ℕ
    ts = es ++ ms

    abbrev n : ℕ
    n = length es + length ms

    whole : take n ts ≡ ts
    whole = take_all n ts (omega (arith, length-append es ms))

    pub taking_listed : Listed s.list s.count place (es ++ ms) (length es + length ms)
    taking_listed =
        record {
          listing =
              record {
                stored = g.stored;
                few = few s g;
                low = all_low s g;
                apart = occurs_distinct (arrivals s) (once s g);
                places = h.places;
              };
          few = h.few;
          each = h.each;
          apart = h.apart;
        }

    each : all (λ t. elem t (arrivals s)) ts ≡ true
    each = rw whole at h.each

    low : (us : List ℕ) → ((t : ℕ) → elem t us ≡ true → elem t ts ≡ true) → all (λ t. ltb t threads) us ≡ true
    low us among = all_elem (λ t. ltb t threads) us (λ t e. lt-ltb t threads (listed_below s g t (elem_all (λ u. elem u (arrivals s)) ts each t (among t e))))

    pub ended_numbers : Numbers es (length es)
    ended_numbers = low_numbers es (omega (arith, h.few)) (low es (λ t e. in_first t es ms e))

    pub moved_numbers : Numbers ms (length ms)
    moved_numbers = low_numbers ms (omega (arith, h.few)) (low ms (λ t e. in_second t es ms e))

    -- what is left of the list
    pub taking_counted : length (without (es ++ ms) (arrivals s)) + (length es + length ms) ≡ s.count
    taking_counted = omega (
      arith,
      length_without ts (arrivals s) (rw whole at h.apart) each (occurs_distinct (arrivals s) (once s g)),
      length-append es ms,
      g.counted,
    )

    pub takes : (a : LastAnswer) (to : ℕ) (u : State) → u ≡ with_threads (change (changed_by (End a)) es s.threads) s
        → (v : State) → v ≡ with_threads (change (changed_by (MoveTo to)) ms u.threads) u
        → (l : List ℕ) → l ≡ pad_to threads no_entry (without (es ++ ms) (arrivals s) ++ ms)
        → record { clock = v.clock; threads = v.threads; list = l; count = v.count - length es } ≡ move_sleeps to ms (end_sleeps a es s)
    unfolding end_in move_in
    takes a to u first v next l all =
        let stay = without ms (arrivals (end_sleeps a es s)) in
        let gone : stay ≡ without ts (arrivals s) = ap (without ms) (arrivals_end present a es s) ∙ without_append es ms (arrivals s) in
        let list : l ≡ pad_to threads no_entry (stay ++ ms) = all ∙ ap (λ us. pad_to threads no_entry (us ++ ms)) (sym gone) in
        let same : v.count ≡ s.count = ap (λ (x : State). x.count) next ∙ ap (λ (x : State). x.count) first in
        let count : v.count - length es ≡ length (stay ++ ms) = omega (arith, same, length-append stay ms, ap length gone, taking_counted) in
        λ j. record {
          clock = (ap (λ (x : State). x.clock) next ∙ ap (λ (x : State). x.clock) first) j;
          threads = (ap (λ (x : State). x.threads) next ∙ ap (λ (x : State). change (changed_by (MoveTo to)) ms x.threads) first) j;
          list = list j;
          count = count j;
        }

-- a thread that falls asleep
pub falls_asleep : (s : State) → Sound s → (t a m : ℕ) (timed : Bool) (due : ℕ) (new : Thread) → t < threads → (thread_of s t).waiting ≡ false
    → new ≡ asleep_at a m timed due (thread_of s t)
    → record { clock = s.clock; threads = set s.threads t new; list = set s.list s.count t; count = s.count + 1 }
    ≡ fall_asleep (asleep_at a m timed due) t s
unfolding sleep_in
falls_asleep s g t a m timed due new low runs is =
    let f = asleep_at a m timed due in
    let records : change f (t ∷ []) s.threads ≡ set s.threads t new =
    change_one f (λ r. refl) s.threads t fresh_thread (omega (arith, g.records)) ∙ ap (set s.threads t) (sym is) in
    let list : set s.list s.count t ≡ pad_to threads no_entry (arrivals s ++ (t ∷ [])) =
    ap (λ l. set l s.count t) g.stored ∙ ap (λ n. set (pad_to threads no_entry (arrivals s)) n t) g.counted
    ∙ pad_to_snoc threads no_entry (arrivals s) t (omega (arith, g.counted, room s g t low runs)) in
    let count : s.count + 1 ≡ length (arrivals s ++ (t ∷ [])) = ap (◌+ 1) g.counted ∙ sym (length_snoc (arrivals s) t) in
    cc (records, list, count)

-- a thread whose priority is set
pub sets_priority : (n t : ℕ) (s : State) (new : Thread) → length s.threads ≡ threads → t < threads → new ≡ with_priority n (thread_of s t)
    → with_threads (set s.threads t new) s ≡ set_priority n t s
unfolding set_priority
sets_priority n t s new size low is =
    ap (λ rs. with_threads rs s)
    (ap (set s.threads t) is ∙ sym (change_one (with_priority n) (λ r. refl) s.threads t fresh_thread (omega arith)))

-- tables that keep the rules are as they would be stored, so that ending nobody's sleep changes nothing
pub end_nobody : (a : LastAnswer) (s : State) → Sound s → end_sleeps a [] s ≡ s
unfolding end_in
end_nobody a s g =
    let records = change_none (ended a) s.threads in
    let list = ap (pad_to threads no_entry) (filter_true (arrivals s)) ∙ sym g.stored in
    let count = ap length (filter_true (arrivals s)) ∙ sym g.counted in
    λ i. record { clock = s.clock; threads = records i; list = list i; count = count i }

-- nor does moving nobody
pub move_nobody : (a : ℕ) (s : State) → Sound s → move_sleeps a [] s ≡ s
unfolding move_in
move_nobody a s g =
    let all : without [] (arrivals s) ++ [] ≡ arrivals s = append-nil (without [] (arrivals s)) ∙ filter_true (arrivals s) in
    let records = change_none (moved_to a) s.threads in
    let list = ap (pad_to threads no_entry) all ∙ sym g.stored in
    let count = ap length all ∙ sym g.counted in
    λ i. record { clock = s.clock; threads = records i; list = list i; count = count i }
