-- What is read from the bytes of tables that keep the rules.
use mathlib.Core.Path.{◌≡◌, refl, sym, ap, ◌∙◌}
use mathlib.Core.Bool.{true}
use mathlib.Core.List.{List, ◌++◌, map, flatten, append_assoc}
use Prim.Native.Nat.{ℕ, ◌≤◌}
use native.Mathlib.Omega.{arith}
use lib.ListN.{length, take, drop, length-append}
use lib.Seq.{drop_at}
use Rattle.lists.specs.LittleEndian.{le, bytes, number_at}
use Rattle.lists.proofs.LittleEndian.{le_bytes}
use Rattle.tables.specs.declared.State.{State}
use Rattle.tables.specs.Sizes.{threads}
use Rattle.tables.specs.Tables.{tables_ok}
use Rattle.tables.proofs.Sound.{tables_sound, entries, few}
use Rattle.layout.specs.Layout.{time_bytes, column, Field, thread_fields, columns, tables_bytes, tables_size, count_at, list_at, waiting_at}
use Rattle.changes.specs.Change.{Whole, on_list, Stands}
use Rattle.layout.proofs.Columns.{total, length_flatten, column_read}
use Rattle.changes.proofs.Writing.{sized}

pub whole : (s : State) → tables_ok s ≡ true → Whole s
whole s ok = let g = tables_sound s ok in record { records = g.records; entries = entries s g }

pub list_in : (s : State) → Whole s → (b : List ℕ) → b ≡ tables_bytes s → take threads (drop list_at b) ≡ s.list
unfolding tables_bytes
list_in s w b is = ap (λ l. take threads (drop list_at l)) is ∙ column_read (columns s) (sized s w) 2 list_at threads s.list refl refl w.entries

-- whatever the list is, the records behind it are the same
records_behind : (s : State) → Whole s → drop waiting_at (tables_bytes s) ≡ flatten (map (λ (f : Field). column f.width f.number s.threads) thread_fields)
unfolding tables_bytes flatten
records_behind s w =
    let pre = bytes time_bytes s.clock ++ (bytes time_bytes s.count ++ s.list) in
    let rest = flatten (map (λ (f : Field). column f.width f.number s.threads) thread_fields) in
    let long : length pre ≡ waiting_at = simp length-append (omega (arith, w.entries)) in
    let regroup : bytes time_bytes s.clock ++ (bytes time_bytes s.count ++ (s.list ++ rest)) ≡ pre ++ rest = simp append_assoc in
    ap (drop waiting_at) regroup ∙ drop_at pre rest waiting_at long

pub behind_list : (s : State) → Whole s → (l : List ℕ) → length l ≡ threads
    → drop waiting_at (tables_bytes (on_list (λ x. l) s)) ≡ drop waiting_at (tables_bytes s)
behind_list s w l size = records_behind (on_list (λ x. l) s) (record { records = w.records; entries = size }) ∙ sym (records_behind s w)

pub count_in : (s : State) → Whole s → s.count ≤ threads → (b : List ℕ) → b ≡ tables_bytes s → number_at time_bytes count_at b ≡ s.count
unfolding tables_bytes
count_in s w few b is =
    ap (λ l. le (take time_bytes (drop count_at l))) is
    ∙ ap le (column_read (columns s) (sized s w) 1 count_at time_bytes (bytes time_bytes s.count) refl refl refl)
    ∙ le_bytes time_bytes s.count (omega arith)

module _ (s : State) (b : List ℕ) (h : Stands s b) where
  abbrev shape : Whole s
  shape = whole s h.sound

  pub size_held : length b ≡ tables_size
  unfolding tables_bytes
  size_held = ap length h.bytes ∙ length_flatten (columns s) ∙ ap total (sized s shape)

  pub list_held : take threads (drop list_at b) ≡ s.list
  list_held = list_in s shape b h.bytes

  pub count_held : number_at time_bytes count_at b ≡ s.count
  count_held = count_in s shape (few s (tables_sound s h.sound)) b h.bytes
