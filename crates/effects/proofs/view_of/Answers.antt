use mathlib.Core.Path.{refl}
use borrow.Author.Rules.{rules}
use Rattle.tables.specs.Tables.{thread_number, thread_of}
use Rattle.tables.proofs.Sound.{tables_sound}
use Rattle.lists.proofs.Mapped.{made}
use Rattle.views.proofs.Viewing.{Viewing, viewing_all, viewing_small}
use lib.ListN.{get_or}
use Rattle.effects.proofs.view_of.Goals as goal
use Rattle.effects.proofs.view_of.Goals.{After-from_fn-4}

columns : (c : After-from_fn-4) → Viewing (thread_of c.args.s) c.args.place c.args.process c.from_fn.result c.from_fn-2.result c.from_fn-3.result c.from_fn-4.result
columns c =
    let s = c.args.s in
    let p = c.args.process in
    record {
      places = λ i low. made _ _ (λ j. get_or c.args.place (thread_number p j) 0) (λ j y q call. search rules) _ _ c.from_fn.ensures.items i low 0;
      addresses = λ i low. made _ _ (λ j. (thread_of s (thread_number p j)).uaddr) (λ j y q call. search rules) _ _ c.from_fn-2.ensures.items i low 0;
      masks = λ i low. made _ _ (λ j. (thread_of s (thread_number p j)).bitset) (λ j y q call. search rules) _ _ c.from_fn-3.ensures.items i low 0;
      priorities = λ i low. made _ _ (λ j. (thread_of s (thread_number p j)).priority) (λ j y q call. search rules) _ _ c.from_fn-4.ensures.items i low 0;
    }

pub invariant_of-result : goal.invariant_of-result
invariant_of-result c =
    record {
      small = viewing_small (thread_of c.args.s) c.args.place c.args.process c.args.s c.requires.0 (λ t h. refl) c.requires.1.0 c.requires.1.1 _ _ _ _
          (columns (goal.at.invariant_of-result c).After-from_fn-4);
    }

pub returns : goal.returns
returns c =
    viewing_all (thread_of c.args.s) c.args.place c.args.process c.args.s (tables_sound c.args.s c.requires.0) (λ t h. refl) c.requires.1.0 c.requires.1.1 _ _ _ _
    (columns (goal.at.returns c).After-from_fn-4)
