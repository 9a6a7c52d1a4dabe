use Rattle.std.proofs.Common.{◌≡◌, ◌∙◌, ap, arith}
use Rattle.tables.specs.declared.State.{State}
use Rattle.tables.proofs.Sound.{tables_sound}
use Rattle.tables.proofs.Stored.{taking_listed, ended_numbers, moved_numbers, taking_counted, takes}
use Rattle.tables.proofs.State.take.Goals as goal

pub relisted-list-requires : goal.relisted-list-requires
relisted-list-requires c = taking_listed c.args.self (tables_sound c.args.self c.requires.0) c.args.place c.args.ended.now c.args.moved.now c.requires.1

pub changed-requires : goal.changed-requires
changed-requires c = ended_numbers c.args.self (tables_sound c.args.self c.requires.0) c.args.place c.args.ended.now c.args.moved.now c.requires.1

pub changed-state-requires : goal.changed-state-requires
changed-state-requires c = moved_numbers c.args.self (tables_sound c.args.self c.requires.0) c.args.place c.args.ended.now c.args.moved.now c.requires.1

pub overflow_sub-state : goal.overflow_sub-state
overflow_sub-state c =
    let same : c.changed-state.result.count ≡ c.args.self.count = ap (λ (x : State). x.count) c.changed-state.ensures ∙ ap (λ (x : State). x.count) c.changed.ensures in
    omega (arith, same, taking_counted c.args.self (tables_sound c.args.self c.requires.0) c.args.place c.args.ended.now c.args.moved.now c.requires.1)

pub returns : goal.returns
returns c =
    takes c.args.self (tables_sound c.args.self c.requires.0) c.args.place c.args.ended.now c.args.moved.now c.requires.1 c.args.last c.args.uaddr
    c.changed.result c.changed.ensures c.changed-state.result c.changed-state.ensures c.relisted-list.result c.relisted-list.ensures
