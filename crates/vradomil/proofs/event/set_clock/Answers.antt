use mathlib.Core.Path.{◌≡◌, refl, sym, ap, ◌∙◌}
use mathlib.Core.Bool.{cond}
use native.Mathlib.Omega.{arith}
use lib.Dec.{ltb}
use Rattle.std.specs.Prelude.{Err, Ok}
use Rattle.std.proofs.lemmas.Option.{MatchOption-at_some}
use Rattle.tables.specs.declared.State.{State}
use Rattle.rules.specs.declared.event.Event.TheVariants.{Clock}
use Rattle.rules.specs.declared.answer.Errno.TheVariants.{EINVAL}
use Rattle.rules.specs.declared.answer.Reason.TheVariants.{ClockBack}
use Rattle.rules.specs.Answers.{◌because◌, first}
use Rattle.rules.specs.Events.{refusals, effect}
use Rattle.layout.specs.Layout.{words_at}
use Rattle.layout.proofs.Reading.{clock_read}
use Rattle.vradomil.specs.Host.{seen, BuffersJudged}
use Rattle.vradomil.proofs.Steps.{event_refused, event_passed, changes_tables_refused, changes_tables_done, on_array}
use Rattle.vradomil.proofs.Clocks.{due_few, clock_due}
use borrow.Author.Rules.{rules}
use Rattle.vradomil.proofs.event.set_clock.Goals as goal
use Rattle.vradomil.proofs.event.set_clock.Goals.{After-unwrap-tables, After-u64_at-clock}

-- the array that the tables are lent on as holds what they hold
same : (c : After-unwrap-tables) → c.unwrap-tables.result.now ≡ c.args.tables.now
same c = (MatchOption-at_some _ _ _ c.unwrap-tables.ensures c.as_mut_array.ensures.cases).same

judged : (c : After-unwrap-tables) → BuffersJudged c.unwrap-tables.result.now c.args.words.now (Ok c.in_ok-judge_buffers.field-0)
judged c = rw (same c) c.in_ok-judge_buffers.ensures

-- the clock that is read is the tables'
verdict : (c : After-u64_at-clock) → BuffersJudged c.unwrap-tables.result.now c.args.words.now (Ok c.in_ok-judge_buffers.field-0)
    → first (refusals (Clock c.args.time) (seen c.unwrap-tables.result.now c.args.words.now)) ≡ cond (ltb c.args.time c.u64_at-clock.result) (Err (EINVAL because ClockBack)) (Ok tt)
verdict c l =
    let b = c.unwrap-tables.result.now in
    let read = c.u64_at-clock.ensures.0 ∙ clock_read b ∙ ap (λ (s : State). s.clock) (sym (l.held refl).tables) in
    event_passed (Clock c.args.time) b c.args.words.now refl l ∙ ap (λ t. cond (ltb c.args.time t) (Err (EINVAL because ClockBack)) (Ok tt)) (sym read)

pub returns-in_err-judge_buffers-clause-told : goal.returns-in_err-judge_buffers-clause-told
returns-in_err-judge_buffers-clause-told c =
    let e = Clock c.args.time in
    changes_tables_refused e c.args.tables.now c.args.words.now
    (event_refused e c.args.tables.now c.args.words.now refl c.in_err-judge_buffers.ensures) c.from_residual.result c.from_residual.ensures.1 (search rules)

pub returns-in_err-invalid-clause-told : goal.returns-in_err-invalid-clause-told
returns-in_err-invalid-clause-told c =
    let at = goal.at.returns-in_err-invalid-clause-told c in
    on_array (same at.After-unwrap-tables)
    (changes_tables_refused (Clock c.args.time) c.unwrap-tables.result.now c.args.words.now
    (verdict at.After-u64_at-clock (judged at.After-unwrap-tables) ∙ sym c.in_err-invalid.ensures) c.from_residual-in_err-invalid.result
    c.from_residual-in_err-invalid.ensures.1 (search rules))

pub returns-clause-told : goal.returns-clause-told
unfolding effect
returns-clause-told c =
    let at = goal.at.returns-clause-told c in
    let b = c.unwrap-tables.result.now in
    let m = c.args.words.now in
    let l = judged at.After-unwrap-tables in
    on_array (same at.After-unwrap-tables)
    (changes_tables_done (Clock c.args.time) b m (l.held refl) (verdict at.After-u64_at-clock l ∙ sym c.in_ok-invalid.ensures)
    (clock_due b (l.held refl) c.args.time (words_at m) c.end_due-n.result c.end_due-n.new.b _ c.end_due-n.ensures c.put_u64.ensures) (search rules))

pub returns-clause-small : goal.returns-clause-small
returns-clause-small c =
    let l = judged (goal.at.returns-clause-small c).After-unwrap-tables in
    omega (arith, c.end_due-n.ensures.0, due_few c.unwrap-tables.result.now (l.held refl) c.args.time)
