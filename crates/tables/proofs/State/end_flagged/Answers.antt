use Rattle.std.proofs.Common.{◌≡◌, ◌∙◌, ◌≤◌, ap, sym, arith, rules, length}
use lib.Seq.{length-take-le}
use Rattle.tables.specs.Tables.{arrivals}
use Rattle.tables.specs.Steps.{flagged, split_of}
use Rattle.tables.proofs.Sound.{tables_sound, few}
use Rattle.tables.proofs.Stored.{list_numbers, split_few, split_numbers, ends}
use Rattle.tables.proofs.State.end_flagged.Goals as goal
use Rattle.tables.proofs.State.end_flagged.Goals.{After-split_by-count}

pub arrivals-requires : goal.arrivals-requires
arrivals-requires c = few c.args.self (tables_sound c.args.self c.requires)

pub split_by-count-requires : goal.split_by-count-requires
split_by-count-requires c = rw c.arrivals.ensures (list_numbers c.args.self (tables_sound c.args.self c.requires))

module _ (c : After-split_by-count) where
  split_is : c.split_by-count.result ≡ split_of (flagged c.args.flags) (arrivals c.args.self)
  split_is = c.split_by-count.ensures ∙ ap (split_of (flagged c.args.flags)) c.arrivals.ensures

  taken_few : c.split_by-count.result.n ≤ length c.split_by-count.result.taken
  taken_few = let h = split_few c.args.self (tables_sound c.args.self c.requires) (flagged c.args.flags) c.split_by-count.result split_is in search rules

pub slice_bounds-taken-end : goal.slice_bounds-taken-end
slice_bounds-taken-end c = taken_few (goal.at.slice_bounds-taken-end c).After-split_by-count

pub slice_bounds-changed-end : goal.slice_bounds-changed-end
slice_bounds-changed-end c = sym (length-take-le _ _ (taken_few (goal.at.slice_bounds-changed-end c).After-split_by-count))

pub changed-state-requires : goal.changed-state-requires
changed-state-requires c =
    split_numbers c.args.self (tables_sound c.args.self c.requires) (flagged c.args.flags) c.split_by-count.result (split_is (goal.at.changed-state-requires c).After-split_by-count)

pub overflow_cast-result : goal.overflow_cast-result
overflow_cast-result c =
    omega (arith, split_few c.args.self (tables_sound c.args.self c.requires) (flagged c.args.flags) c.split_by-count.result (split_is (goal.at.overflow_cast-result c).After-split_by-count))

pub returns : goal.returns
returns c =
    ends c.args.self (tables_sound c.args.self c.requires) (flagged c.args.flags) c.split_by-count.result (split_is (goal.at.returns c).After-split_by-count)
    c.args.last c.changed-state.result c.changed-state.ensures
