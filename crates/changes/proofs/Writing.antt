-- A store in a column of the tables' bytes is a change of the tables.
use mathlib.Core.Path.{◌≡◌, refl, sym, ap, ◌∙◌}
use mathlib.Core.Bool.{Bool, true, false}
use mathlib.Core.List.{List, [], ◌∷◌, ◌++◌, map, flatten, append_assoc}
use Prim.Native.Nat.{ℕ, zero, suc, ◌+◌, ◌*◌, ◌≤◌, ◌<◌}
use native.Mathlib.Omega.{arith}
use native.Mathlib.Nat.{mul-le-mul_left, mul-suc}
use lib.ListN.{length, get_or, set, length-append, length-set}
use lib.Seq.{sets, length-sets}
use Rattle.lists.specs.Lists.{bit}
use Rattle.lists.specs.LittleEndian.{bytes}
use Rattle.lists.proofs.Stores.{sets_all, sets_left, sets_right}
use Rattle.lists.proofs.LittleEndian.{length_bytes}
use Rattle.tables.specs.declared.State.{State}
use Rattle.tables.specs.declared.Thread.{Thread}
use Rattle.tables.specs.declared.LastAnswer.{LastAnswer}
use Rattle.tables.specs.Sizes.{threads, word_bytes}
use Rattle.tables.specs.Tables.{fresh_thread, thread_of, with_sleep, with_last, moved_to, with_priority, with_threads, with_clock, set_priority}
use Rattle.tables.proofs.Stored.{sets_priority}
use Rattle.layout.specs.Layout.{time_bytes, column, Field, thread_fields, columns, tables_bytes, last_byte, clock_at, count_at, list_at, waiting_at, timed_at, last_at, uaddr_at, bitset_at, deadline_at, priority_at}
use Rattle.changes.specs.Change.{Whole, at_thread, on_list}
use Rattle.layout.proofs.Columns.{length_column, column_set, column_same, before, put_column}
use Rattle.layout.proofs.Exact.{sizes}

-- columns of these sizes, one of them with a store
lengths_set : (cs : List (List ℕ)) (j : ℕ) (new : List ℕ) → length new ≡ get_or (map length cs) j 0 → map length (set cs j new) ≡ map length cs
lengths_set [] j new h = refl
lengths_set (c ∷ cs) zero new h = ap (λ n. n ∷ map length cs) h
lengths_set (c ∷ cs) (suc j) new h = ap (λ l. length c ∷ l) (lengths_set cs j new h)

length_of : (cs : List (List ℕ)) (j : ℕ) → length (get_or cs j []) ≡ get_or (map length cs) j 0
length_of [] j = refl
length_of (c ∷ cs) zero = refl
length_of (c ∷ cs) (suc j) = length_of cs j

-- bytes in columns of these sizes
record InColumns (b : List ℕ) (cs : List (List ℕ)) : Type 0 where
  stored : b ≡ flatten cs
  sized : map length cs ≡ sizes

put : (b : List ℕ) (cs ds : List (List ℕ)) → InColumns b cs → (j k at : ℕ) (vs : List ℕ) → before j sizes + k ≡ at → k + length vs ≤ get_or sizes j 0
    → (new : List ℕ) → sets (get_or cs j []) k vs ≡ new → set cs j new ≡ ds → InColumns (sets b at vs) ds
put b cs ds c j k at vs place fits new is all =
    let long : length (get_or cs j []) ≡ get_or sizes j 0 = length_of cs j ∙ ap (λ ns. get_or ns j 0) c.sized in
    let here : before j (map length cs) + k ≡ at = ap (λ ns. before j ns + k) c.sized ∙ place in
    record {
      stored = ap (λ l. sets l at vs) c.stored ∙ ap (λ n. sets (flatten cs) n vs) (sym here) ∙ put_column cs j k vs (rw long fits)
          ∙ ap (λ l. flatten (set cs j l)) is ∙ ap flatten all;
      sized = ap (map length) (sym all) ∙ lengths_set cs j new (ap length (sym is) ∙ length-sets (get_or cs j []) k vs ∙ length_of cs j) ∙ c.sized;
    }

module _ (s : State) (w : Whole s) where
  size_of : (n : ℕ) (f : Thread → ℕ) → length (column n f s.threads) ≡ n * threads
  size_of n f = length_column n f s.threads ∙ ap (n *◌) w.records

  fields_sized : (fs : List Field) → map length (map (λ (f : Field). column f.width f.number s.threads) fs) ≡ map (λ (f : Field). f.width * threads) fs
  fields_sized [] = refl
  fields_sized (f ∷ fs) = λ i. size_of f.width f.number i ∷ fields_sized fs i

  pub sized : map length (columns s) ≡ sizes
  sized = λ i. time_bytes ∷ time_bytes ∷ w.entries i ∷ fields_sized thread_fields i

  -- the record of a thread: of its fields, those that are marked are stored, and the others are as they were
  module _ (i : ℕ) (low : i < threads) (r : Thread) where
    abbrev col : List Thread → Field → List ℕ
    col rs f = column f.width f.number rs

    -- the stores of the marked fields, in their order
    abbrev stores : ℕ → List Bool → List Field → List ℕ → List ℕ
    stores at [] fs b = b
    stores at (m ∷ ms) [] b = b
    stores at (true ∷ ms) (f ∷ fs) b = stores (at + f.width * threads) ms fs (sets b (at + f.width * i) (bytes f.width (f.number r)))
    stores at (false ∷ ms) (f ∷ fs) b = stores (at + f.width * threads) ms fs b

    -- each field that is not marked is as it was
    abbrev Keeps : List Bool → List Field → Type 0
    Keeps [] [] = Unit {0}
    Keeps [] (f ∷ fs) = (f.number r ≡ f.number (thread_of s i)) × Keeps [] fs
    Keeps (m ∷ ms) [] = Unit {0}
    Keeps (true ∷ ms) (f ∷ fs) = Keeps ms fs
    Keeps (false ∷ ms) (f ∷ fs) = (f.number r ≡ f.number (thread_of s i)) × Keeps ms fs

    -- a column with a store, and one without
    new : (f : Field) → sets (col s.threads f) (f.width * i) (bytes f.width (f.number r)) ≡ col (set s.threads i r) f
    new f = sym (column_set f.width f.number s.threads i r (omega (arith, w.records)))

    same : (f : Field) → f.number r ≡ f.number (thread_of s i) → col s.threads f ≡ col (set s.threads i r) f
    same f is = sym (column_same f.width f.number s.threads i r fresh_thread is)

    all_same : (fs : List Field) → Keeps [] fs → map (col s.threads) fs ≡ map (col (set s.threads i r)) fs
    all_same [] k = refl
    all_same (f ∷ fs) k = λ j. same f k.0 j ∷ all_same fs k.1 j

    longer : (f : Field) (at : ℕ) (pre : List ℕ) → length pre ≡ at → length (pre ++ col (set s.threads i r) f) ≡ at + f.width * threads
    longer f at pre long =
        length-append pre (col (set s.threads i r) f)
        ∙ (λ j. long j + (length_column f.width f.number (set s.threads i r) ∙ ap (f.width *◌) (length-set s.threads i r ∙ w.records)) j)

    inside : (f : Field) → f.width * i + length (bytes f.width (f.number r)) ≤ length (col s.threads f)
    inside f = rw (length_bytes f.width (f.number r), size_of f.width f.number)
        (omega (arith, mul-le-mul_left f.width low, mul-suc f.width i))

    -- one field stored, behind what is done already
    stored_field : (f : Field) (fs : List Field) (at : ℕ) (pre b : List ℕ) → length pre ≡ at → b ≡ pre ++ flatten (map (col s.threads) (f ∷ fs))
        → sets b (at + f.width * i) (bytes f.width (f.number r)) ≡ (pre ++ col (set s.threads i r) f) ++ flatten (map (col s.threads) fs)
    unfolding flatten
    stored_field f fs at pre b long is =
        let k = f.width * i in
        let c = col s.threads f in
        let rest = flatten (map (col s.threads) fs) in
        let vs = bytes f.width (f.number r) in
        ap (λ l. sets l (at + k) vs) is ∙ ap (λ n. sets (pre ++ (c ++ rest)) (n + k) vs) (sym long)
        ∙ sets_right pre (c ++ rest) k vs ∙ ap (pre ++◌) (sets_left c rest k vs (inside f)) ∙ ap (λ d. pre ++ (d ++ rest)) (new f) ∙ sym (append_assoc pre (col (set s.threads i r) f) rest)

    put_fields : (ms : List Bool) (fs : List Field) (at : ℕ) (pre b : List ℕ) → length pre ≡ at → b ≡ pre ++ flatten (map (col s.threads) fs) → Keeps ms fs
        → stores at ms fs b ≡ pre ++ flatten (map (col (set s.threads i r)) fs)
    unfolding flatten
    put_fields [] [] at pre b long is k = is
    put_fields [] (f ∷ fs) at pre b long is k = is ∙ ap (λ cs. pre ++ flatten cs) (all_same (f ∷ fs) k)
    put_fields (m ∷ ms) [] at pre b long is k = is
    put_fields (true ∷ ms) (f ∷ fs) at pre b long is k =
        put_fields ms fs (at + f.width * threads) (pre ++ col (set s.threads i r) f) _ (longer f at pre long) (stored_field f fs at pre b long is) k
        ∙ append_assoc pre (col (set s.threads i r) f) (flatten (map (col (set s.threads i r)) fs))
    put_fields (false ∷ ms) (f ∷ fs) at pre b long is k =
        put_fields ms fs (at + f.width * threads) (pre ++ col (set s.threads i r) f) b (longer f at pre long)
        (is ∙ ap (λ c. pre ++ (c ++ flatten (map (col s.threads) fs))) (same f k.0) ∙ sym (append_assoc pre (col (set s.threads i r) f) (flatten (map (col s.threads) fs)))) k.1
        ∙ append_assoc pre (col (set s.threads i r) f) (flatten (map (col (set s.threads i r)) fs))

    put_record : (ms : List Bool) (b : List ℕ) → b ≡ tables_bytes s → Keeps ms thread_fields
        → stores waiting_at ms thread_fields b ≡ tables_bytes (with_threads (set s.threads i r) s)
    unfolding tables_bytes flatten
    put_record ms b is k =
        let pre = bytes time_bytes s.clock ++ (bytes time_bytes s.count ++ s.list) in
        let long : length pre ≡ waiting_at = simp length-append (omega (arith, w.entries)) in
        put_fields ms thread_fields waiting_at pre b long (is ∙ regroup (flatten (map (col s.threads) thread_fields))) k
        ∙ sym (regroup (flatten (map (col (set s.threads i r)) thread_fields)))
      where
        regroup : (l : List ℕ) → bytes time_bytes s.clock ++ (bytes time_bytes s.count ++ (s.list ++ l)) ≡ (bytes time_bytes s.clock ++ (bytes time_bytes s.count ++ s.list)) ++ l
        regroup l = simp append_assoc

  -- the sleep of a thread
  pub sleep_put : (i : ℕ) → i < threads → (waiting : Bool) (a m : ℕ) (timed : Bool) (due : ℕ) (b : List ℕ) → b ≡ tables_bytes s
      → sets (sets (sets (sets (sets b (waiting_at + i) (bytes 1 (bit waiting))) (timed_at + i) (bytes 1 (bit timed))) (uaddr_at + word_bytes * i) (bytes word_bytes a)) (bitset_at + word_bytes * i) (bytes word_bytes m)) (deadline_at + time_bytes * i) (bytes time_bytes due)
      ≡ tables_bytes (at_thread i (with_sleep waiting a m timed due) s)
  sleep_put i low waiting a m timed due b is =
      let one : 1 * i ≡ i = omega arith in
      rw one at (put_record i low (with_sleep waiting a m timed due (thread_of s i)) (true ∷ true ∷ false ∷ true ∷ true ∷ true ∷ []) b is (refl, (refl, tt)))

  -- the last answer of a thread
  pub last_put : (i : ℕ) → i < threads → (a : LastAnswer) (b : List ℕ) → b ≡ tables_bytes s
      → sets b (last_at + i) (bytes 1 (last_byte a)) ≡ tables_bytes (at_thread i (with_last a) s)
  last_put i low a b is =
      let one : 1 * i ≡ i = omega arith in
      rw one at (put_record i low (with_last a (thread_of s i)) (false ∷ false ∷ true ∷ []) b is (refl, (refl, (refl, (refl, (refl, (refl, tt)))))))

  -- the address of a thread
  pub address_put : (i : ℕ) → i < threads → (a : ℕ) (b : List ℕ) → b ≡ tables_bytes s
      → sets b (uaddr_at + word_bytes * i) (bytes word_bytes a) ≡ tables_bytes (at_thread i (moved_to a) s)
  address_put i low a b is =
      put_record i low (moved_to a (thread_of s i)) (false ∷ false ∷ false ∷ true ∷ []) b is (refl, (refl, (refl, (refl, (refl, (refl, tt))))))

  -- the priority of a thread
  pub priority_put : (i : ℕ) → i < threads → (n : ℕ) (b : List ℕ) → b ≡ tables_bytes s
      → sets b (priority_at + i) (bytes 1 n) ≡ tables_bytes (set_priority n i s)
  priority_put i low n b is =
      let one : 1 * i ≡ i = omega arith in
      let new = with_priority n (thread_of s i) in
      rw one at (put_record i low new (false ∷ false ∷ false ∷ false ∷ false ∷ false ∷ true ∷ []) b is (refl, (refl, (refl, (refl, (refl, (refl, tt)))))))
      ∙ ap tables_bytes (sets_priority n i s new w.records low refl)

  -- the list, some entries of it, or one, and the count
  entries_in : (list b : List ℕ) → length list ≡ threads → b ≡ tables_bytes s → InColumns (sets b list_at list) (set (columns s) 2 list)
  unfolding tables_bytes
  entries_in list b long is =
      put b (columns s) (set (columns s) 2 list) (record { stored = is; sized = sized }) 2 0 list_at list refl (omega (arith, long)) list (sets_all s.list list (w.entries ∙ sym long)) refl

  pub entries_put : (list b : List ℕ) → length list ≡ threads → b ≡ tables_bytes s → sets b list_at list ≡ tables_bytes (on_list (λ l. list) s)
  unfolding tables_bytes
  entries_put list b long is = (entries_in list b long is).stored

  pub part_put : (k : ℕ) (vs : List ℕ) → k + length vs ≤ threads → (b : List ℕ) → b ≡ tables_bytes s
      → sets b (list_at + k) vs ≡ tables_bytes (on_list (λ l. sets l k vs) s)
  unfolding tables_bytes
  part_put k vs fits b is =
      (put b (columns s) (set (columns s) 2 (sets s.list k vs)) (record { stored = is; sized = sized }) 2 k (list_at + k) vs refl fits (sets s.list k vs) refl refl).stored

  counted : (l : List ℕ) (b : List ℕ) (n : ℕ) → InColumns b (set (columns s) 2 l)
      → sets b count_at (bytes time_bytes n) ≡ tables_bytes (record { clock = s.clock; threads = s.threads; list = l; count = n })
  unfolding tables_bytes
  counted l b n c =
      (put b (set (columns s) 2 l) _ c 1 0 count_at (bytes time_bytes n) refl (omega arith) (bytes time_bytes n) (sets_all (bytes time_bytes s.count) (bytes time_bytes n) refl) refl).stored

  pub count_put : (n : ℕ) (b : List ℕ) → b ≡ tables_bytes s
      → sets b count_at (bytes time_bytes n) ≡ tables_bytes (record { clock = s.clock; threads = s.threads; list = s.list; count = n })
  unfolding tables_bytes
  count_put n b is = counted s.list b n (record { stored = is; sized = sized })

  pub entry_put : (k t n : ℕ) → k < threads → (b : List ℕ) → b ≡ tables_bytes s
      → sets (set b (list_at + k) t) count_at (bytes time_bytes n) ≡ tables_bytes (record { clock = s.clock; threads = s.threads; list = set s.list k t; count = n })
  unfolding tables_bytes
  entry_put k t n low b is =
      counted (set s.list k t) (set b (list_at + k) t) n
      (put b (columns s) (set (columns s) 2 (set s.list k t)) (record { stored = is; sized = sized }) 2 k (list_at + k) (t ∷ []) refl (omega arith) (set s.list k t) refl refl)

  pub clock_put : (now : ℕ) (b : List ℕ) → b ≡ tables_bytes s → sets b clock_at (bytes time_bytes now) ≡ tables_bytes (with_clock now s)
  unfolding tables_bytes
  clock_put now b is =
      (put b (columns s) _ (record { stored = is; sized = sized }) 0 0 clock_at (bytes time_bytes now) refl (omega arith) (bytes time_bytes now) (sets_all (bytes time_bytes s.clock) (bytes time_bytes now) refl) refl).stored
