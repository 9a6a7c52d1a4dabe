use mathlib.Core.Path.{◌≡◌, refl, sym, ap, ◌∙◌}
use native.Mathlib.Omega.{arith}
use Rattle.std.specs.Prelude.{Ok}
use Rattle.std.proofs.lemmas.Option.{MatchOption-at_some}
use Rattle.rules.specs.declared.event.Event.TheVariants.{SetPriority}
use Rattle.tables.specs.Tables.{set_priority}
use Rattle.rules.specs.Events.{priority_rows, effect}
use Rattle.rules.proofs.Rows.{pass_clear}
use Rattle.rules.proofs.Passed.{thread_process, thread_index}
use Rattle.changes.proofs.Standing.{whole}
use Rattle.layout.specs.Layout.{tables_bytes, state_at}
use Rattle.vradomil.specs.Host.{BuffersJudged}
use Rattle.vradomil.proofs.Steps.{stands, event_refused, event_passed, changes_tables_refused, changes_tables_done, on_array}
use Rattle.commands.proofs.Places.{thread_there}
use borrow.Author.Rules.{rules}
use Rattle.vradomil.proofs.event.set_priority.Goals as goal
use Rattle.vradomil.proofs.event.set_priority.Goals.{After-unwrap-tables}

-- the array that the tables are lent on as holds what they hold
same : (c : After-unwrap-tables) → c.unwrap-tables.result.now ≡ c.args.tables.now
same c = (MatchOption-at_some _ _ _ c.unwrap-tables.ensures c.as_mut_array.ensures.cases).same

judged : (c : After-unwrap-tables) → BuffersJudged c.unwrap-tables.result.now c.args.words.now (Ok c.in_ok-judge_buffers.field-0)
judged c = rw (same c) c.in_ok-judge_buffers.ensures

pub returns-in_err-judge_buffers-clause-told : goal.returns-in_err-judge_buffers-clause-told
returns-in_err-judge_buffers-clause-told c =
    let e = SetPriority c.args.process c.args.index c.args.priority in
    changes_tables_refused e c.args.tables.now c.args.words.now
    (event_refused e c.args.tables.now c.args.words.now refl c.in_err-judge_buffers.ensures) c.from_residual.result c.from_residual.ensures.1 (search rules)

pub returns-in_err-verdict_on_priority-clause-told : goal.returns-in_err-verdict_on_priority-clause-told
returns-in_err-verdict_on_priority-clause-told c =
    let at = (goal.at.returns-in_err-verdict_on_priority-clause-told c).After-unwrap-tables in
    let e = SetPriority c.args.process c.args.index c.args.priority in
    let b = c.unwrap-tables.result.now in
    let r = c.from_residual-in_err-verdict_on_priority in
    on_array (same at)
    (changes_tables_refused e b c.args.words.now (event_passed e b c.args.words.now refl (judged at) ∙ sym c.in_err-verdict_on_priority.ensures)
    r.result r.ensures.1 (search rules))

pub returns-clause-told : goal.returns-clause-told
unfolding effect
returns-clause-told c =
    let at = (goal.at.returns-clause-told c).After-unwrap-tables in
    let e = SetPriority c.args.process c.args.index c.args.priority in
    let b = c.unwrap-tables.result.now in
    let m = c.args.words.now in
    let l = judged at in
    let own = (pass_clear (priority_rows c.args.process c.args.index c.args.priority) (sym c.in_ok-verdict_on_priority.ensures)).0 in
    let there = thread_there _ _ c.thread_index.ensures (thread_process c.args.process c.args.index own) (thread_index c.args.process c.args.index own) in
    let stand = stands b (l.held refl) in
    on_array (same at)
    (changes_tables_done e b m (l.held refl) (event_passed e b m refl l ∙ sym c.in_ok-verdict_on_priority.ensures)
    (record {
      number = refl;
      small = omega arith;
      bytes = c.set_priority.ensures (state_at b) (whole (state_at b) stand.sound) stand.bytes
          ∙ ap (λ x. tables_bytes (set_priority c.args.priority x (state_at b))) there;
    }) (search rules))
