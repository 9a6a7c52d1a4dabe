-- The passes over the bytes say that they stand for tables, and that these keep the rules.
use mathlib.Core.Path.{◌≡◌, refl, sym, ap, subst, ◌∙◌}
use mathlib.Core.Bool.{Bool, true, false, not, cond, ◌&&◌, ◌||◌, beq, and_assoc, and_comm, and-true, and-false, or-true}
use mathlib.Core.List.{List}
use Prim.Native.Nat.{ℕ, zero, suc, ◌+◌, ◌≤◌, ◌<◌}
use native.Mathlib.Omega.{arith}
use lib.ListN.{length, drop, get_or, length-drop}
use lib.Seq.{length-take-le}
use lib.Dec.{eqb, leb}
use borrow.Author.Tests.{lt-leb, eq-eqb, ne_eqb}
use Rattle.std.specs.Prelude.{is_some, Some, None}
use Rattle.std.specs.Bool.{then_some}
use Rattle.lists.specs.Lists.{every_below, count_below}
use Rattle.lists.specs.LittleEndian.{Bytes}
use Rattle.lists.proofs.Tests.{cases, clash, and_left, and_right}
use Rattle.lists.proofs.Count.{every_below_ext, every_below_and, count_below_ext}
use Rattle.lists.proofs.Tabulate.{length_tabulate, all_tabulate}
use Rattle.tables.specs.declared.Thread.{Thread}
use Rattle.tables.specs.Sizes.{threads}
use Rattle.tables.specs.Editions.{present}
use Rattle.tables.specs.Tables.{thread_of, arrivals, sizes_ok, priority_ok, record_ok, records_ok, tail_ok, tables_in, tables_ok}
use Rattle.tables.specs.Steps.{Places, placed}
use Rattle.arrivals.specs.Arrivals.{PlacedIn}
use Rattle.tables.proofs.Checked.{checked, unnamed}
use Rattle.layout.specs.Layout.{max_last, thread_at, state_at, tables_at, tables_size, flags_ok, waiting_at, timed_at, last_at, list_at}
use Rattle.layout.specs.Check.{flags_fit, waits, agrees, place_ok, place_fits, time_ok, time_fits, Held, Checked}
use Rattle.layout.proofs.Reading.{thread_read}
use Rattle.layout.proofs.Exact.{tables_exact}

-- the two rules of a record's sleep are one, where none but a sleeper has a deadline
two_rules : (w t a b d z : Bool) → ((not t || w) && cond w a b && cond t d z) ≡ cond w (a && cond t d z) (b && not t && z)
two_rules true true a b d z = refl
two_rules true false a b d z = refl
two_rules false true a b d z = ap (λ x. x && z) (sym (and-false b))
two_rules false false a b d z = ap (λ x. x && z) (sym (and-true b))

record_rules : (now : ℕ) (r : Thread)
    → ((not r.timed || r.waiting) && place_ok r.waiting r.uaddr r.bitset && time_ok now r.timed r.deadline && priority_ok r) ≡ record_ok now r
unfolding record_ok
record_rules now r = ap (◌&& priority_ok r) (two_rules r.waiting r.timed _ _ _ _)

-- a byte that is at most another, which is 0 or 1
flag_rules : (w t l : ℕ) → (leb w 1 && leb t w && leb l max_last) ≡ (leb w 1 && leb t 1 && leb l max_last && (not (eqb t 1) || eqb w 1))
flag_rules zero zero l = sym (and-true (leb l max_last))
flag_rules zero (suc zero) l = sym (and-false (leb l max_last))
flag_rules zero (suc (suc t)) l = rw (lt-leb (suc (suc t)) 0 (omega arith), lt-leb (suc (suc t)) 1 (omega arith))
flag_rules (suc zero) t l = sym (ap (λ b. leb t 1 && leb l max_last && b) (or-true (not (eqb t 1))) ∙ and-true (leb t 1 && leb l max_last))
flag_rules (suc (suc w)) t l = rw (lt-leb (suc (suc w)) 1 (omega arith))

-- the priority is tested with the flags, and is the last rule of a record
and_move : (f q n p t : Bool) → (f && q && n && p && t) ≡ (f && (q && p && t && n))
and_move f q n p t = simp and_assoc (ap (λ x. f && (q && x)) (and_comm n (p && t) ∙ and_assoc p t n))

-- the passes in their order, the last of which tests three things; f and r are the rules of the bytes' form and of the records
regroup : (t p q g m n f r : Bool) → (g && p && q) ≡ (f && r) → (t && p && q && (g && m && n)) ≡ (f && (t && (m && r && n)))
regroup false p q g m n f r e = sym (and-false f)
regroup true p q g true true f r e = simp and-true (and_comm (p && q) g ∙ sym (and_assoc g p q) ∙ e)
regroup true p q g true false f r e = simp and-false
regroup true p q g false n f r e = rw (and-false g) (and-false (p && q) ∙ sym (and-false f))

-- a value that stands where a test holds
answered : (t : Bool) (l : List ℕ) → is_some (then_some t l) ≡ t
answered true l = refl
answered false l = refl

chosen : (t : Bool) (l k : List ℕ) → then_some t l ≡ Some k → (t ≡ true) × (l ≡ k)
chosen true l k e = (refl, cc)
chosen false l k e = cc

-- bytes of another length stand for no tables
pub wrong_size : (b : List ℕ) → (length b ≡ tables_size → ⊥) → tables_ok (tables_at b) ≡ false
unfolding tables_at tables_in
wrong_size b h = rw (ne_eqb (length b) tables_size h)

-- bytes that stand for no sound tables are refused
pub refused : (b : List ℕ) → tables_ok (tables_at b) ≡ false → Checked b None
refused b bad = record { answer = sym bad; held = λ e. clash false e refl; places = λ l e. cc }

module _ (b : List ℕ) (size : length b ≡ tables_size) where
  whole : tables_ok (tables_at b) ≡ (every_below threads (flags_ok b) && tables_ok (state_at b))
  unfolding tables_at
  whole = rw (eq-eqb (length b) tables_size size) (cases (every_below threads (flags_ok b)) (λ e. rw e) (λ e. rw e (unfold tables_in in refl)))

  -- a count above the number of threads
  pub wrong_count : threads < (state_at b).count → tables_ok (tables_at b) ≡ false
  wrong_count h =
      let broken : tables_ok (state_at b) ≡ false = unfold tables_in in rw (lt-leb (state_at b).count threads h, and-false (sizes_ok present (state_at b))) in
      whole ∙ rw broken (and-false (every_below threads (flags_ok b)))

  -- a list that names something that is no thread
  pub wrong_entry : PlacedIn (arrivals (state_at b)) None → tables_ok (tables_at b) ≡ false
  wrong_entry list = whole ∙ rw (unnamed (state_at b) list) (and-false (every_below threads (flags_ok b)))

  rows : every_below threads (flags_fit b) && every_below threads (place_fits b) && every_below threads (time_fits (state_at b).clock b)
      ≡ (every_below threads (flags_ok b) && records_ok (state_at b))
  rows =
      let now = (state_at b).clock in
      let r = thread_at b in
      let records : records_ok (state_at b) ≡ every_below threads (λ i. record_ok now (r i)) = unfold state_at in all_tabulate (record_ok now) threads r in
      let row : (i : ℕ) → i < threads → (flags_fit b i && place_fits b i && time_fits now b i) ≡ (flags_ok b i && record_ok now (r i)) =
      λ i l. ap (λ x. x && priority_ok (r i) && place_fits b i && time_fits now b i) (flag_rules (get_or b (waiting_at + i) 0) (get_or b (timed_at + i) 0) (get_or b (last_at + i) 0))
      ∙ and_move (flags_ok b i) (not (r i).timed || (r i).waiting) (priority_ok (r i)) (place_fits b i) (time_fits now b i)
      ∙ ap (λ x. flags_ok b i && x) (record_rules now (r i)) in
      sym (every_below_and threads (λ i. flags_fit b i && place_fits b i) (time_fits now b)
      ∙ ap (λ x. x && every_below threads (time_fits now b)) (every_below_and threads (flags_fit b) (place_fits b)))
      ∙ every_below_ext threads (λ i. flags_fit b i && place_fits b i && time_fits now b i) (λ i. flags_ok b i && record_ok now (r i)) row
      ∙ every_below_and threads (flags_ok b) (λ i. record_ok now (r i))
      ∙ ap (λ x. every_below threads (flags_ok b) && x) (sym records)

  formed : every_below threads (flags_ok b) ≡ true → tables_at b ≡ state_at b
  unfolding tables_at
  formed flags = rw (eq-eqb (length b) tables_size size, flags)

  pub held : Bytes b → tables_ok (tables_at b) ≡ true → Held b
  held h good =
      let both = sym whole ∙ good in
      let flags = and_left (every_below threads (flags_ok b)) (tables_ok (state_at b)) both in
      record {
        size = size;
        tables = formed flags;
        bytes = tables_exact b size flags h;
        sound = and_right (every_below threads (flags_ok b)) (tables_ok (state_at b)) both;
      }

  -- the passes, in their order
  module _ (tail places times flags : Bool) (place : List ℕ) (few : (state_at b).count ≤ threads)
      (list : PlacedIn (arrivals (state_at b)) (Some place)) (behind : tail ≡ tail_ok (state_at b)) (sleeps : places ≡ every_below threads (place_fits b))
      (kept : times ≡ every_below threads (time_fits (state_at b).clock b))
      (fit : flags ≡ (every_below threads (λ i. flags_fit b i && agrees place b i) && eqb (count_below threads (waits b)) (state_at b).count)) where
    passes : (tail && places && times && flags) ≡ tables_ok (tables_at b)
    passes =
        let s = state_at b in
        let listed = every_below threads (agrees place b) in
        let counted = eqb (count_below threads (waits b)) s.count in
        let same : every_below threads (λ t. beq (placed place t) (thread_of s t).waiting) ≡ listed =
        every_below_ext threads (λ t. beq (placed place t) (thread_of s t).waiting) (agrees place b)
        (λ t l. ap (λ (r : Thread). beq (placed place t) r.waiting) (thread_read b t l)) in
        let number : count_below threads (λ t. (thread_of s t).waiting) ≡ count_below threads (waits b) =
        count_below_ext threads (λ t. (thread_of s t).waiting) (waits b) (λ t l. ap (λ (r : Thread). r.waiting) (thread_read b t l)) in
        let entries : length s.list ≡ threads = unfold state_at in length-take-le threads (drop list_at b) (rw length-drop (omega (arith, size))) in
        let records : length s.threads ≡ threads = unfold state_at in length_tabulate threads (thread_at b) in
        let all = checked s tail (listed && records_ok s && counted) place records entries few list behind
        (λ i. sym same i && records_ok s && eqb (sym number i) s.count) in
        (λ i. tail && sleeps i && kept i && (fit ∙ ap (◌&& counted) (every_below_and threads (flags_fit b) (agrees place b))) i)
        ∙ regroup tail (every_below threads (place_fits b)) (every_below threads (time_fits s.clock b)) (every_below threads (flags_fit b)) listed counted
        (every_below threads (flags_ok b)) (records_ok s) rows
        ∙ ap (λ x. every_below threads (flags_ok b) && x) all
        ∙ sym whole

    pub told : Bytes b → Checked b (then_some (tail && places && times && flags) place)
    told h =
        let good = tail && places && times && flags in
        record {
          answer = answered good place ∙ passes;
          held = λ e. held h (sym (answered good place ∙ passes) ∙ e);
          places = λ l e. subst (λ (q : List ℕ). Places q (arrivals (state_at b))) (chosen good place l e).1 list.places;
        }
