use mathlib.Core.Path.{◌≡◌, refl, sym, ap, subst, ◌∙◌}
use mathlib.Core.Bool.{cond}
use Prim.Native.Nat.{ℕ}
use Rattle.std.specs.Prelude.{Err, Ok}
use Rattle.std.proofs.lemmas.Option.{MatchOption-at_some}
use Rattle.rules.specs.declared.event.Event.TheVariants.{Interrupt}
use Rattle.rules.specs.declared.answer.Errno.TheVariants.{ESRCH}
use Rattle.tables.specs.Tables.{world, thread_number}
use Rattle.rules.specs.Answers.{plain, first}
use Rattle.rules.specs.Events.{own_rows, interrupt_effect, effect}
use Rattle.rules.proofs.Rows.{pass_clear}
use Rattle.rules.proofs.Passed.{thread_process, thread_index}
use Rattle.layout.specs.Layout.{state_at, words_at}
use Rattle.vradomil.specs.Host.{seen, BuffersJudged, Leaves}
use Rattle.vradomil.proofs.Steps.{event_refused, event_passed, changes_tables_refused, changes_tables_done, on_array}
use Rattle.vradomil.proofs.Clocks.{interrupt_none, one_stands, interrupt_one}
use Rattle.commands.proofs.Places.{thread_below, thread_there}
use borrow.Author.Rules.{rules}
use Rattle.vradomil.proofs.event.interrupt.Goals as goal
use Rattle.vradomil.proofs.event.interrupt.Goals.{After-unwrap-tables, In_ok-row, After-thread_index-t}

-- the array that the tables are lent on as holds what they hold
same : (c : After-unwrap-tables) → c.unwrap-tables.result.now ≡ c.args.tables.now
same c = (MatchOption-at_some _ _ _ c.unwrap-tables.ensures c.as_mut_array.ensures.cases).same

judged : (c : After-unwrap-tables) → BuffersJudged c.unwrap-tables.result.now c.args.words.now (Ok c.in_ok-place.place)
judged c = rw (same c) c.in_ok-place.ensures

-- the verdict of its own row, which does not refuse
own : (c : In_ok-row) → first (own_rows (Interrupt c.args.process c.args.index) (seen c.unwrap-tables.result.now c.args.words.now)) ≡ Ok tt
own c = ap (λ t. cond t (Err (plain ESRCH)) (Ok tt)) (sym c.no_thread.ensures) ∙ sym c.in_ok-row.ensures

-- the thread exists, and has its own number
there : (c : After-thread_index-t) → first (own_rows (Interrupt c.args.process c.args.index) (seen c.unwrap-tables.result.now c.args.words.now)) ≡ Ok tt
    → c.thread_index-t.result ≡ thread_number c.args.process c.args.index
there c own =
    let none = (pass_clear (own_rows (Interrupt c.args.process c.args.index) (seen c.unwrap-tables.result.now c.args.words.now)) own).0 in
    thread_there _ _ c.thread_index-t.ensures (thread_process c.args.process c.args.index none) (thread_index c.args.process c.args.index none)

pub returns-in_err-place-clause-told : goal.returns-in_err-place-clause-told
returns-in_err-place-clause-told c =
    let e = Interrupt c.args.process c.args.index in
    changes_tables_refused e c.args.tables.now c.args.words.now
    (event_refused e c.args.tables.now c.args.words.now refl c.in_err-place.ensures) c.from_residual.result c.from_residual.ensures.1 (search rules)

pub returns-in_err-row-clause-told : goal.returns-in_err-row-clause-told
returns-in_err-row-clause-told c =
    let at = (goal.at.returns-in_err-row-clause-told c).After-unwrap-tables in
    let e = Interrupt c.args.process c.args.index in
    let b = c.unwrap-tables.result.now in
    let own = ap (λ t. cond t (Err (plain ESRCH)) (Ok tt)) (sym c.no_thread.ensures) ∙ sym c.in_err-row.ensures in
    on_array (same at)
    (changes_tables_refused e b c.args.words.now (event_passed e b c.args.words.now refl (judged at) ∙ own) c.from_residual-in_err-row.result
    c.from_residual-in_err-row.ensures.1 (search rules))

pub end_one-requires : goal.end_one-requires
end_one-requires c =
    let l = judged (goal.at.end_one-requires c).After-unwrap-tables in
    let held = l.held refl in
    (held, one_stands c.unwrap-tables.result.now held c.in_ok-place.place (l.places _ refl) c.thread_index-t.result (thread_below _ _ c.thread_index-t.ensures) c.if-place-t-eq0.false)

pub returns-then-place-t-eq0-clause-told : goal.returns-then-place-t-eq0-clause-told
unfolding effect
returns-then-place-t-eq0-clause-told c =
    let at = goal.at.returns-then-place-t-eq0-clause-told c in
    let e = Interrupt c.args.process c.args.index in
    let b = c.unwrap-tables.result.now in
    let m = c.args.words.now in
    let l = judged at.After-unwrap-tables in
    let own = own at.In_ok-row in
    on_array (same at.After-unwrap-tables)
    (changes_tables_done e b m (l.held refl) (event_passed e b m refl l ∙ own)
    (subst (λ (q : ℕ). Leaves (interrupt_effect q (world (state_at b) (words_at m))) 0 b) (there at.After-thread_index-t own)
    (interrupt_none b (l.held refl) c.in_ok-place.place (l.places _ refl) c.thread_index-t.result (thread_below _ _ c.thread_index-t.ensures) (words_at m) c.if-place-t-eq0.true))
    (search rules))

pub returns-clause-told : goal.returns-clause-told
unfolding effect
returns-clause-told c =
    let at = goal.at.returns-clause-told c in
    let e = Interrupt c.args.process c.args.index in
    let b = c.unwrap-tables.result.now in
    let m = c.args.words.now in
    let l = judged at.After-unwrap-tables in
    let own = own at.In_ok-row in
    on_array (same at.After-unwrap-tables)
    (changes_tables_done e b m (l.held refl) (event_passed e b m refl l ∙ own)
    (subst (λ (q : ℕ). Leaves (interrupt_effect q (world (state_at b) (words_at m))) 1 c.end_one.new.b) (there at.After-thread_index-t own)
    (interrupt_one b (l.held refl) c.in_ok-place.place (l.places _ refl) c.thread_index-t.result (thread_below _ _ c.thread_index-t.ensures) c.if-place-t-eq0.false (words_at m) c.end_one.new.b c.end_one.ensures))
    (search rules))
