-- One sleeper leaves the list where it lies, and those behind it move up: it runs, or joins the end.
use mathlib.Core.Path.{◌≡◌, refl, sym, ap, ◌∙◌}
use mathlib.Core.Bool.{true, false, not}
use mathlib.Core.List.{List, [], ◌∷◌, ◌++◌}
use Prim.Native.Nat.{ℕ, ◌+◌, ◌-◌, ◌*◌, ◌≤◌, ◌<◌}
use native.Mathlib.Omega.{arith}
use lib.ListN.{length, take, drop, set, length-append, length-replicate}
use lib.Seq.{sets}
use lib.Dec.{eqb, ltb}
use Rattle.lists.specs.Lists.{elem, without, distinct, bit, pad_to}
use Rattle.lists.specs.LittleEndian.{bytes}
use Rattle.lists.proofs.Occurs.{occurs, elem_filter, occurs_distinct, distinct_occurs, occurs_append, occurs_filter_le, occurs_taken_out}
use Rattle.lists.proofs.Loops.{length_snoc, pad_to_snoc, elem_before}
use Rattle.lists.proofs.Padded.{length_out, padded_out}
use Rattle.lists.proofs.Tests.{cases}
use Rattle.arrivals.proofs.Places.{place_first, place_most, place_out, place_moved, place_snoc}
use Rattle.tables.specs.declared.State.{State}
use Rattle.tables.specs.declared.Thread.{Thread}
use Rattle.tables.specs.declared.LastAnswer.{LastAnswer}
use Rattle.tables.specs.Sizes.{threads, no_entry, word_bytes}
use Rattle.tables.specs.Editions.{present}
use Rattle.tables.specs.Tables.{fresh_thread, thread_of, arrivals, change, ended, moved_to, end_in, end_sleeps, move_in, move_sleeps}
use Rattle.tables.proofs.Changes.{length_change, change_one, arrivals_move}
use Rattle.tables.proofs.Sound.{Sound, once, few}
use Rattle.layout.specs.Layout.{time_bytes, count_at, list_at, uaddr_at, tables_bytes}
use Rattle.changes.specs.Change.{Whole, Writes, StandsAt, Lined, at_thread, on_list}
use Rattle.changes.proofs.Changing.{whole_list, whole_at}
use Rattle.changes.proofs.Writing.{address_put, part_put, count_put}

pub lined_sound : (s : State) → Sound s → Lined s
lined_sound s g =
    record {
      records = g.records;
      stored = g.stored;
      counted = g.counted;
      few = few s g;
      apart = occurs_distinct (arrivals s) (once s g);
    }

pub whole_lined : (s : State) → Lined s → Whole s
whole_lined s l =
    record {
      records = l.records;
      entries = ap length l.stored ∙ simp (length-append, length-replicate) (omega (arith, l.counted, l.few));
    }

-- another thread of a list, once one is taken out of it
module _ (p x : ℕ) (l : List ℕ) (apart : distinct l ≡ true) (g : StandsAt p x l) (q t : ℕ) (h : StandsAt q t l) (other : eqb t x ≡ false) where
  pub stands_less : (r : ℕ) → r ≡ q - bit (ltb p q) → StandsAt r t (without (x ∷ []) l)
  stands_less r is =
      record {
        listed = elem_filter (λ u. not (elem u (x ∷ []))) t l (rw other) ∙ h.listed;
        there = is ∙ (λ j. h.there j - bit (ltb (g.there j) (h.there j))) ∙ sym (place_moved x t l apart g.listed other);
      }

-- and once it has joined the end
pub stands_before : (x : ℕ) (l : List ℕ) (q t : ℕ) → StandsAt q t l → eqb t x ≡ false → StandsAt q t (l ++ (x ∷ []))
stands_before x l q t h other =
    record {
      listed = elem_before t l x other ∙ h.listed;
      there = h.there ∙ sym (place_snoc t l x ∙ rw other);
    }

module _ (s : State) (l : Lined s) (t place : ℕ) (g : StandsAt place t (arrivals s)) where
  -- what is left of the list
  abbrev rest : List ℕ
  rest = without (t ∷ []) (arrivals s)

  pub stands_first : 1 ≤ place
  stands_first = omega (arith, g.there, place_first t (arrivals s) g.listed)

  pub stands_within : place ≤ s.count
  stands_within = omega (arith, g.there, place_most t (arrivals s), l.counted)

  out_is : take (place - 1) (arrivals s) ++ drop place (arrivals s) ≡ rest
  out_is = ap (λ p. take (p - 1) (arrivals s) ++ drop p (arrivals s)) g.there ∙ place_out t (arrivals s) l.apart g.listed

  shorter : length rest + 1 ≡ s.count
  shorter = omega (arith, ap length out_is, length_out (arrivals s) place stands_first (omega (arith, stands_within, l.counted)), l.counted)

  closed : take (place - 1) s.list ++ (drop place s.list ++ (no_entry ∷ [])) ≡ pad_to threads no_entry rest
  closed =
      ap (λ x. take (place - 1) x ++ (drop place x ++ (no_entry ∷ []))) l.stored
      ∙ padded_out (arrivals s) place stands_first (omega (arith, stands_within, l.counted)) threads no_entry (omega (arith, l.counted, l.few))
      ∙ ap (pad_to threads no_entry) out_is

  -- the rules of the list are kept where it joins the end
  pub lined_moved : (a : ℕ) → Lined (move_sleeps a (t ∷ []) s)
  unfolding move_in
  lined_moved a =
      let is = arrivals_move present a (t ∷ []) s in
      let count : length (rest ++ (t ∷ [])) ≡ s.count = length_snoc rest t ∙ shorter in
      record {
        records = length_change (moved_to a) (t ∷ []) s.threads ∙ l.records;
        stored = ap (pad_to threads no_entry) (sym is);
        counted = ap length (sym is);
        few = omega (arith, count, l.few);
        apart = ap distinct is ∙ occurs_distinct (rest ++ (t ∷ [])) once_there;
      }
    where
      once_there : (u : ℕ) → occurs u (rest ++ (t ∷ [])) ≤ 1
      once_there u = cases (eqb u t)
          (λ e. omega (arith, occurs_append u rest (t ∷ []), occurs_taken_out u (t ∷ []) (arrivals s) (rw e), ap bit e))
          (λ e. omega (arith, occurs_append u rest (t ∷ []), occurs_filter_le (λ v. not (elem v (t ∷ []))) u (arrivals s), distinct_occurs u (arrivals s) l.apart, ap bit e))

  -- the records, with that of the thread changed
  changed_one : (f : Thread → Thread) → ((r : Thread) → f (f r) ≡ f r) → t < threads → set s.threads t (f (thread_of s t)) ≡ change f (t ∷ []) s.threads
  changed_one f again low = sym (change_one f again s.threads t fresh_thread (omega (arith, l.records)))

  -- on the bytes, from the list that is left on
  module _ (b left : List ℕ) (is : b ≡ tables_bytes s) (out : Writes (on_list (λ x. take (place - 1) x ++ (drop place x ++ (no_entry ∷ [])))) b left)
      (low : t < threads) (count : ℕ) (counted : count ≡ s.count) where
    abbrev fewer : State
    fewer = on_list (λ x. pad_to threads no_entry rest) s

    shape : Whole fewer
    shape = whole_list s (pad_to threads no_entry rest) (simp (length-append, length-replicate) (omega (arith, shorter, l.few))) (whole_lined s l)

    left_is : left ≡ tables_bytes fewer
    left_is = out s (whole_lined s l) is ∙ ap (λ x. tables_bytes (on_list (λ y. x) s)) closed

    pub one_ended : (a : LastAnswer) (mid after : List ℕ) → Writes (at_thread t (ended a)) left mid → after ≡ sets mid count_at (bytes time_bytes (count - 1))
        → after ≡ tables_bytes (end_sleeps a (t ∷ []) s)
    unfolding end_in
    one_ended a mid after end last =
        let fall : count - 1 ≡ length rest = omega (arith, counted, shorter) in
        last ∙ count_put (at_thread t (ended a) fewer) (whole_at t (ended a) fewer shape) (count - 1) mid (end fewer shape left_is)
        ∙ (λ j. tables_bytes (record { clock = s.clock; threads = changed_one (ended a) (λ r. refl) low j; list = pad_to threads no_entry rest; count = fall j }))

    pub one_moved : (a : ℕ) (mid after : List ℕ) (k : ℕ) → mid ≡ sets left (uaddr_at + word_bytes * t) (bytes word_bytes a) → k + 1 ≡ list_at + count
        → after ≡ set mid k t → after ≡ tables_bytes (move_sleeps a (t ∷ []) s)
    unfolding move_in
    one_moved a mid after k moved place_is last =
        let here : k ≡ list_at + length rest = omega (arith, counted, shorter) in
        let u = at_thread t (moved_to a) fewer in
        let all : s.count ≡ length (rest ++ (t ∷ [])) = sym (length_snoc rest t ∙ shorter) in
        last ∙ ap (λ x. set mid x t) here
        ∙ part_put u (whole_at t (moved_to a) fewer shape) (length rest) (t ∷ []) (omega (arith, shorter, l.few)) mid (moved ∙ address_put fewer shape t low a left left_is)
        ∙ (λ j. tables_bytes (record {
          clock = s.clock;
          threads = changed_one (moved_to a) (λ r. refl) low j;
          list = pad_to_snoc threads no_entry rest t (omega (arith, shorter, l.few)) j;
          count = all j;
        }))
