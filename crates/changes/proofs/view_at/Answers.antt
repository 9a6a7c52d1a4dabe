use mathlib.Core.Path.{sym}
use borrow.Author.Rules.{rules}
use Rattle.tables.specs.Tables.{thread_number}
use Rattle.tables.proofs.Sound.{tables_sound}
use Rattle.layout.specs.Layout.{thread_at, state_at}
use Rattle.layout.proofs.Reading.{thread_read}
use Rattle.views.proofs.Viewing.{Viewing, viewing_all, viewing_small}
use Rattle.lists.proofs.Mapped.{made}
use Rattle.changes.proofs.view_at.Goals as goal
use Rattle.changes.proofs.view_at.Goals.{After-from_fn-3}

columns : (c : After-from_fn-3) → Viewing (thread_at c.args.b.now) c.args.place c.args.process c.column_of.result c.from_fn.result c.from_fn-2.result c.from_fn-3.result
columns c =
    let b = c.args.b.now in
    let p = c.args.process in
    record {
      places = c.column_of.ensures;
      addresses = λ i low. made _ _ (λ j. (thread_at b (thread_number p j)).uaddr) (λ j y q call. search rules) _ _ c.from_fn.ensures.items i low 0;
      masks = λ i low. made _ _ (λ j. (thread_at b (thread_number p j)).bitset) (λ j y q call. search rules) _ _ c.from_fn-2.ensures.items i low 0;
      priorities = λ i low. made _ _ (λ j. (thread_at b (thread_number p j)).priority) (λ j y q call. search rules) _ _ c.from_fn-3.ensures.items i low 0;
    }

pub invariant_of-result : goal.invariant_of-result
invariant_of-result c =
    let b = c.args.b.now in
    record {
      small = viewing_small (thread_at b) c.args.place c.args.process (state_at b) c.requires.0.sound (λ t h. sym (thread_read b t h)) c.requires.1.0 c.requires.1.1 _ _ _ _
          (columns (goal.at.invariant_of-result c).After-from_fn-3);
    }

pub returns : goal.returns
returns c =
    let b = c.args.b.now in
    viewing_all (thread_at b) c.args.place c.args.process (state_at b) (tables_sound _ c.requires.0.sound) (λ t h. sym (thread_read b t h)) c.requires.1.0 c.requires.1.1 _ _ _ _
    (columns (goal.at.returns c).After-from_fn-3)
