use mathlib.Core.Path.{◌≡◌, refl, sym, ap, ◌∙◌}
use mathlib.Core.Bool.{Bool, ◌&&◌, and-false}
use Prim.Native.Nat.{◌-◌}
use native.Mathlib.Omega.{arith}
use borrow.Author.Rules.{rules}
use borrow.Author.Tests.{lt-leb}
use lib.Dec.{eqb}
use lib.ListN.{length, drop, length-drop}
use lib.Seq.{take_all}
use Rattle.lists.specs.Lists.{all}
use Rattle.tables.specs.Sizes.{threads, no_entry}
use Rattle.tables.specs.Editions.{present}
use Rattle.tables.specs.Tables.{sizes_ok, tables_in, tables_ok, tail_ok}
use Rattle.tables.proofs.Checked.{kept, checked, unnamed}
use Rattle.tables.proofs.check.tables_ok.Goals as goal
use Rattle.tables.proofs.check.tables_ok.Goals.{Start, After-tail_ok}

pub returns-then-s-gt-THREADS : goal.returns-then-s-gt-THREADS
unfolding tables_in
returns-then-s-gt-THREADS c =
    let s = c.args.s in
    rw (lt-leb s.count threads c.if-s-gt-THREADS.true, and-false (sizes_ok present s))

pub returns-in_default : goal.returns-in_default
returns-in_default c = sym (unnamed c.args.s (rw c.arrivals.ensures at c.in_default.ensures))

module _ (c : After-tail_ok) (records : Bool) (are : records ≡ kept c.args.s c.in-Some.place) where
  said : (c.tail_ok.result && records) ≡ tables_ok c.args.s
  said =
      let s = c.args.s in
      let tail : c.tail_ok.result ≡ tail_ok s = c.tail_ok.ensures ∙ ap (all (λ e. eqb e no_entry)) (take_all (length s.list - s.count) (drop s.count s.list) (omega (arith, length-drop s.count s.list))) in
      checked s c.tail_ok.result records c.in-Some.place (search rules) (search rules) c.if-s-gt-THREADS.false (rw c.arrivals.ensures at c.in-Some.ensures) tail are

pub returns-then-tail_ok : goal.returns-then-tail_ok
returns-then-tail_ok c = rw c.if-tail_ok.true at (said (goal.at.returns-then-tail_ok c).After-tail_ok c.records_ok.result c.records_ok.ensures)

pub returns-else-tail_ok : goal.returns-else-tail_ok
returns-else-tail_ok c = c.if-tail_ok.false ∙ rw c.if-tail_ok.false at (said (goal.at.returns-else-tail_ok c).After-tail_ok (kept c.args.s c.in-Some.place) refl)
