-- The table rules as facts: tables pass the test exactly when the facts hold, and the fresh tables have them.
use mathlib.Core.Path.{◌≡◌, refl, sym, ap, ◌∙◌}
use mathlib.Core.Bool.{true, false, not, ◌&&◌, beq}
use mathlib.Core.List.{List, ◌∷◌, ◌++◌}
use Prim.Native.Nat.{ℕ, ◌-◌, ◌≤◌, ◌<◌}
use native.Mathlib.Omega.{arith}
use lib.ListN.{length, drop, replicate, length-append, length-replicate, length-take, length-drop, take-append-drop, get_or-eq_default}
use lib.Seq.{drop-append_seam}
use lib.Dec.{eqb, ltb}
use borrow.Author.Tests.{eqb-true, eq-eqb, leb-true, le-leb, ltb-true, ltb-false, lt-ltb, lt-leb}
use Rattle.lists.specs.Lists.{all, pad_to, elem, distinct, bit}
use Rattle.lists.proofs.Tests.{cases, clash, and_intro, and_left, and_right, beq_true, eq_beq, bit_le, bit_true, bit_injective}
use Rattle.lists.proofs.Filter.{all_get_d, get_d_all, all_replicate, replicate_all, get_d_replicated}
use Rattle.lists.proofs.Occurs.{occurs, elem_occurs, absent_occurs, occurs_once, occurs_distinct, distinct_occurs, all_elem, elem_all}
use Rattle.lists.proofs.Count.{every_below_intro, every_below_at, length_le}
use Rattle.tables.specs.declared.State.{State}
use Rattle.tables.specs.declared.Thread.{Thread}
use Rattle.tables.specs.declared.LastAnswer.{LastAnswer}
use Rattle.tables.specs.Sizes.{bytes_per_process, no_entry}
use Rattle.tables.specs.Editions.{Edition, present, threads_in}
use Rattle.tables.specs.Tables.{fresh_thread, ended, thread_of, arrivals, expired, aligned, sleep_ok, priority_ok, record_ok, sizes_ok, count_ok, numbers_ok, exact_ok, tail_ok, records_ok, tables_in, fresh_in, with_arrivals}
use Rattle.tables.proofs.Changes.{arrivals_with}

-- The table rules as facts. That the entries are all different and exactly the waiting threads is one equation for each number.
pub record SoundIn (ed : Edition) (s : State) : Type 0 where
  pub records : length s.threads ≡ threads_in ed
  pub stored : s.list ≡ pad_to (threads_in ed) no_entry (arrivals s)
  pub counted : s.count ≡ length (arrivals s)
  pub kept : (t : ℕ) → record_ok s.clock (thread_of s t) ≡ true
  pub exact : (t : ℕ) → occurs t (arrivals s) ≡ bit (thread_of s t).waiting

abbrev pub Sound : State → Type 0
Sound s = SoundIn present s

-- past the records there is none
pub beyond : (ed : Edition) (s : State) → length s.threads ≡ threads_in ed → (t : ℕ) → threads_in ed ≤ t → thread_of s t ≡ fresh_thread
beyond ed s n t h = get_or-eq_default s.threads fresh_thread (omega arith)

-- From the facts.

module _ {ed : Edition} (s : State) (g : SoundIn ed s) where
  -- only threads wait
  pub waiting_below : (t : ℕ) → (thread_of s t).waiting ≡ true → t < threads_in ed
  waiting_below t e = cases (ltb t (threads_in ed))
      (λ h. ltb-true t (threads_in ed) h)
      (λ h. clash (thread_of s t).waiting e (ap (λ (r : Thread). r.waiting) (beyond ed s g.records t (ltb-false t (threads_in ed) h))))

  pub sleep_kept : (t : ℕ) → sleep_ok s.clock (thread_of s t) ≡ true
  unfolding record_ok
  sleep_kept t = and_left (sleep_ok s.clock (thread_of s t)) (priority_ok (thread_of s t)) (g.kept t)

  pub priority_kept : (t : ℕ) → priority_ok (thread_of s t) ≡ true
  unfolding record_ok
  priority_kept t = and_right (sleep_ok s.clock (thread_of s t)) (priority_ok (thread_of s t)) (g.kept t)

  -- a deadline that the clock has reached belongs to nobody asleep
  pub none_overdue : (t : ℕ) → expired s.clock (thread_of s t) ≡ false
  none_overdue t =
      let r = thread_of s t in
      cases r.waiting
      (λ w. cases r.timed
      (λ d. let ok : (aligned r.uaddr && ltb r.uaddr bytes_per_process && not (eqb r.bitset 0) && ltb s.clock r.deadline) ≡ true = cc (sleep_kept t) in
      rw (w, d, lt-leb r.deadline s.clock (ltb-true s.clock r.deadline (and_right (aligned r.uaddr && ltb r.uaddr bytes_per_process && not (eqb r.bitset 0)) (ltb s.clock r.deadline) ok))))
      (λ d. rw (w, d)))
      (λ w. rw w)

  pub once : (t : ℕ) → occurs t (arrivals s) ≤ 1
  once t = omega (arith, g.exact t, bit_le (thread_of s t).waiting)

  pub listed_waiting : (t : ℕ) → elem t (arrivals s) ≡ (thread_of s t).waiting
  listed_waiting t = bit_injective _ _ (sym (occurs_once t (arrivals s) (once t)) ∙ g.exact t)

  pub listed_below : (t : ℕ) → elem t (arrivals s) ≡ true → t < threads_in ed
  listed_below t e = waiting_below t (sym (listed_waiting t) ∙ e)

  pub all_low : all (λ t. ltb t (threads_in ed)) (arrivals s) ≡ true
  all_low = all_elem (λ t. ltb t (threads_in ed)) (arrivals s) (λ t e. lt-ltb t (threads_in ed) (listed_below t e))

  -- a part of the list: whom it names waits, and so is a thread
  pub part_waits : (ts : List ℕ) → ((t : ℕ) → occurs t ts ≤ occurs t (arrivals s)) → (t : ℕ) → elem t ts ≡ true → (thread_of s t).waiting ≡ true
  part_waits ts sub t e = bit_true (thread_of s t).waiting (omega (arith, elem_occurs t ts e, sub t, g.exact t))

  pub part_below : (ts : List ℕ) → ((t : ℕ) → occurs t ts ≤ occurs t (arrivals s)) → (t : ℕ) → elem t ts ≡ true → t < threads_in ed
  part_below ts sub t e = waiting_below t (part_waits ts sub t e)

  pub none_above : (t : ℕ) → threads_in ed ≤ t → occurs t (arrivals s) ≡ 0
  none_above t h = g.exact t ∙ cases (thread_of s t).waiting (λ e. absurd (let k = waiting_below t e in omega arith)) (λ e. rw e)

  pub arrivals_fit : length (arrivals s) ≤ threads_in ed
  arrivals_fit = length_le (threads_in ed) (arrivals s) once none_above

  -- a running thread leaves room on the list, so it is never full for a caller
  pub room : (t : ℕ) → t < threads_in ed → (thread_of s t).waiting ≡ false → s.count < threads_in ed
  room t h e = omega (arith, g.counted, length_le (threads_in ed) (t ∷ arrivals s) fewer none)
    where
      fewer : (u : ℕ) → occurs u (t ∷ arrivals s) ≤ 1
      fewer u = cases (eqb u t)
          (λ k. omega (arith, ap bit k, ap (λ v. occurs v (arrivals s)) (eqb-true u t k), g.exact t, ap bit e))
          (λ k. rw k (omega (arith, once u)))

      none : (u : ℕ) → threads_in ed ≤ u → occurs u (t ∷ arrivals s) ≡ 0
      none u l = cases (eqb u t)
          (λ k. absurd (let j = eqb-true u t k in omega arith))
          (λ k. rw k (omega (arith, none_above u l)))

  tail_is : drop s.count s.list ≡ replicate (threads_in ed - length (arrivals s)) no_entry
  tail_is =
      ap (λ n. drop n s.list) g.counted
      ∙ ap (drop (length (arrivals s))) g.stored
      ∙ drop-append_seam (arrivals s) (replicate (threads_in ed - length (arrivals s)) no_entry)

  pub entries : length s.list ≡ threads_in ed
  entries = ap length g.stored ∙ simp (length-append, length-replicate) (omega (arith, arrivals_fit))

  pub few : s.count ≤ threads_in ed
  few = omega (arith, g.counted, arrivals_fit)

  pub sound_tables : tables_in ed s ≡ true
  unfolding tables_in
  sound_tables =
      and_intro (and_intro (and_intro (and_intro (and_intro (and_intro
      (and_intro (eq-eqb (length s.threads) (threads_in ed) g.records) (eq-eqb (length s.list) (threads_in ed) entries))
      (le-leb s.count (threads_in ed) few))
      all_low)
      (occurs_distinct (arrivals s) once))
      (every_below_intro (threads_in ed) (λ t. beq (elem t (arrivals s)) (thread_of s t).waiting) (λ t h. eq_beq _ _ (listed_waiting t))))
      (ap (all (λ e. eqb e no_entry)) tail_is ∙ replicate_all no_entry (threads_in ed - length (arrivals s))))
      (all_get_d (record_ok s.clock) fresh_thread s.threads g.kept)

-- To the facts.

-- the rules one by one, of tables that pass the test
record Rules (ed : Edition) (s : State) : Type 0 where
  records : length s.threads ≡ threads_in ed
  entries : length s.list ≡ threads_in ed
  count : s.count ≤ threads_in ed
  numbers : numbers_ok ed s ≡ true
  different : distinct (arrivals s) ≡ true
  exact : exact_ok ed s ≡ true
  tail : tail_ok s ≡ true
  kept : records_ok s ≡ true

rules_of : (ed : Edition) (s : State) → tables_in ed s ≡ true → Rules ed s
unfolding tables_in
rules_of ed s h =
    let h5 = and_left (sizes_ok ed s && count_ok ed s && numbers_ok ed s && distinct (arrivals s) && exact_ok ed s && tail_ok s) (records_ok s) h in
    let h4 = and_left (sizes_ok ed s && count_ok ed s && numbers_ok ed s && distinct (arrivals s) && exact_ok ed s) (tail_ok s) h5 in
    let h3 = and_left (sizes_ok ed s && count_ok ed s && numbers_ok ed s && distinct (arrivals s)) (exact_ok ed s) h4 in
    let h2 = and_left (sizes_ok ed s && count_ok ed s && numbers_ok ed s) (distinct (arrivals s)) h3 in
    let h1 = and_left (sizes_ok ed s && count_ok ed s) (numbers_ok ed s) h2 in
    let h0 = and_left (sizes_ok ed s) (count_ok ed s) h1 in
    record {
      records = eqb-true (length s.threads) (threads_in ed) (and_left (eqb (length s.threads) (threads_in ed)) (eqb (length s.list) (threads_in ed)) h0);
      entries = eqb-true (length s.list) (threads_in ed) (and_right (eqb (length s.threads) (threads_in ed)) (eqb (length s.list) (threads_in ed)) h0);
      count = leb-true s.count (threads_in ed) (and_right (sizes_ok ed s) (count_ok ed s) h1);
      numbers = and_right (sizes_ok ed s && count_ok ed s) (numbers_ok ed s) h2;
      different = and_right (sizes_ok ed s && count_ok ed s && numbers_ok ed s) (distinct (arrivals s)) h3;
      exact = and_right (sizes_ok ed s && count_ok ed s && numbers_ok ed s && distinct (arrivals s)) (exact_ok ed s) h4;
      tail = and_right (sizes_ok ed s && count_ok ed s && numbers_ok ed s && distinct (arrivals s) && exact_ok ed s) (tail_ok s) h5;
      kept = and_right (sizes_ok ed s && count_ok ed s && numbers_ok ed s && distinct (arrivals s) && exact_ok ed s && tail_ok s) (records_ok s) h;
    }

none_out : (ed : Edition) (l : List ℕ) → all (λ x. ltb x (threads_in ed)) l ≡ true → (t : ℕ) → threads_in ed ≤ t → occurs t l ≡ 0
none_out ed l h t le =
    absent_occurs t l
    (cases (elem t l) (λ e. absurd (let k = ltb-true t (threads_in ed) (elem_all (λ x. ltb x (threads_in ed)) l h t e) in omega arith)) (λ e. e))

pub fresh_ok : (now : ℕ) → record_ok now fresh_thread ≡ true
unfolding record_ok
fresh_ok now = refl

pub ended_ok : (now : ℕ) (a : LastAnswer) (r : Thread) → priority_ok r ≡ true → record_ok now (ended a r) ≡ true
unfolding record_ok
ended_ok now a r ok = ok

module _ {ed : Edition} (s : State) (r : Rules ed s) where
  arrived : length (arrivals s) ≡ s.count
  arrived = length-take s.count s.list ∙ omega (arith, r.entries, r.count)

  tail_stored : drop s.count s.list ≡ replicate (threads_in ed - length (arrivals s)) no_entry
  tail_stored =
      let n : length (drop s.count s.list) ≡ threads_in ed - length (arrivals s) =
      length-drop s.count s.list ∙ omega (arith, arrived, r.entries, r.count) in
      all_replicate no_entry (drop s.count s.list) r.tail ∙ ap (λ n. replicate n no_entry) n

  listed_exactly : (t : ℕ) → occurs t (arrivals s) ≡ bit (thread_of s t).waiting
  listed_exactly t = cases (ltb t (threads_in ed))
      (λ l. let same : elem t (arrivals s) ≡ (thread_of s t).waiting =
      beq_true _ _ (every_below_at (threads_in ed) (λ t. beq (elem t (arrivals s)) (thread_of s t).waiting) r.exact t (ltb-true t (threads_in ed) l)) in
      occurs_once t (arrivals s) (distinct_occurs t (arrivals s) r.different) ∙ ap bit same)
      (λ l. none_out ed (arrivals s) r.numbers t (ltb-false t (threads_in ed) l)
      ∙ sym (ap (λ (x : Thread). bit x.waiting) (beyond ed s r.records t (ltb-false t (threads_in ed) l))))

  rules_sound : SoundIn ed s
  rules_sound =
      record {
        records = r.records;
        stored = sym (take-append-drop s.count s.list) ∙ ap (arrivals s ++◌) tail_stored;
        counted = sym arrived;
        kept = get_d_all (record_ok s.clock) fresh_thread s.threads (fresh_ok s.clock) r.kept;
        exact = listed_exactly;
      }

pub sound_in : (ed : Edition) (s : State) → tables_in ed s ≡ true → SoundIn ed s
sound_in ed s h = rules_sound s (rules_of ed s h)

pub tables_sound : (s : State) → tables_in present s ≡ true → Sound s
tables_sound = sound_in present

pub fresh_sound : (ed : Edition) → SoundIn ed (fresh_in ed)
unfolding fresh_in
fresh_sound ed =
    record {
      records = length-replicate (threads_in ed) fresh_thread;
      stored = let same : threads_in ed ≡ threads_in ed - 0 = omega arith in ap (λ n. replicate n no_entry) same;
      counted = refl;
      kept = λ t. rw (get_d_replicated (threads_in ed) t fresh_thread) (fresh_ok 0);
      exact = λ t. rw (get_d_replicated (threads_in ed) t fresh_thread);
    }

-- the rules are kept where records that keep them go with the list of those that wait
pub sound_with : (ed : Edition) (l : List ℕ) (s : State) → length s.threads ≡ threads_in ed → ((t : ℕ) → record_ok s.clock (thread_of s t) ≡ true)
    → ((t : ℕ) → occurs t l ≡ bit (thread_of s t).waiting) → SoundIn ed (with_arrivals ed l s)
sound_with ed l s size kept exact =
    record {
      records = size;
      stored = ap (pad_to (threads_in ed) no_entry) (sym (arrivals_with ed l s));
      counted = ap length (sym (arrivals_with ed l s));
      kept = kept;
      exact = λ t. ap (occurs t) (arrivals_with ed l s) ∙ exact t;
    }
