use mathlib.Core.Path.{◌≡◌, refl, sym, ap, subst₂, ◌∙◌}
use Rattle.std.specs.Prelude.{Ok}
use Rattle.std.proofs.lemmas.Option.{MatchOption-at_some}
use Rattle.tables.specs.declared.State.{State}
use Rattle.rules.specs.declared.event.Event.TheVariants.{Call as CallEvent}
use Rattle.rules.specs.Answers.{first}
use Rattle.rules.specs.Events.{own_rows, refusals}
use Rattle.tables.specs.Tables.{world}
use Rattle.rules.proofs.Rows.{pass_clear}
use Rattle.kernel.proofs.Calls.{granted}
use Rattle.layout.specs.Layout.{state_at, words_at}
use Rattle.vradomil.specs.Host.{seen, BuffersJudged, CallTold}
use Rattle.vradomil.proofs.Steps.{event_refused, event_passed, calls_refused, calls_passed}
use borrow.Author.Rules.{rules}
use Rattle.vradomil.proofs.call.call.Goals as goal
use Rattle.vradomil.proofs.call.call.Goals.{After-judge}

-- the arrays that the slices are lent on as hold what the slices hold
same_tables : (c : After-judge) → c.unwrap-tables.result.now ≡ c.args.tables.now
same_tables c = (MatchOption-at_some _ _ _ c.unwrap-tables.ensures c.as_mut_array.ensures.cases).same

same_words : (c : After-judge) → c.unwrap-words.result.now ≡ c.args.words.now
same_words c = (MatchOption-at_some _ _ _ c.unwrap-words.ensures c.as_mut_array-2.ensures.cases).same

lent : (c : After-judge) → BuffersJudged c.unwrap-tables.result.now c.unwrap-words.result.now (Ok c.in_ok-place.place)
lent c = rw (same_tables c, same_words c) c.in_ok-place.ensures

-- the verdict on the call
judged : (c : After-judge) → first (refusals (CallEvent c.args.c) (seen c.unwrap-tables.result.now c.unwrap-words.result.now)) ≡ c.judge.result
judged c =
    let e = CallEvent c.args.c in
    let m = c.unwrap-words.result.now in
    event_passed e c.unwrap-tables.result.now m refl (lent c)
    ∙ ap (λ (s : State). first (own_rows e (world s (words_at m)))) ((lent c).held refl).tables ∙ sym c.judge.ensures

pub returns-in_err-place-clause-told : goal.returns-in_err-place-clause-told
returns-in_err-place-clause-told c =
    calls_refused c.args.c c.args.tables.now c.args.words.now (search rules)
    (event_refused (CallEvent c.args.c) c.args.tables.now c.args.words.now refl c.in_err-place.ensures) c.from_residual.result c.from_residual.ensures.1

pub returns-in_err-judge-clause-told : goal.returns-in_err-judge-clause-told
returns-in_err-judge-clause-told c =
    let k = (goal.at.returns-in_err-judge-clause-told c).After-judge in
    let b = c.unwrap-tables.result.now in
    let m = c.unwrap-words.result.now in
    let r = c.from_residual-in_err-judge.result in
    subst₂ (λ x y. CallTold c.args.c x y r b m) (same_tables k) (same_words k)
    (calls_refused c.args.c b m (search rules) (judged k ∙ c.in_err-judge.was) r c.from_residual-in_err-judge.ensures.1)

pub perform-requires : goal.perform-requires
perform-requires c =
    let k = (goal.at.perform-requires c).After-judge in
    let b = c.unwrap-tables.result.now in
    let m = c.unwrap-words.result.now in
    let l = lent k in
    let held = l.held refl in
    record {
      held = held;
      long = l.long refl;
      granted = granted c.args.c (state_at b) (words_at m) (pass_clear (refusals (CallEvent c.args.c) (world (state_at b) (words_at m)))
          (ap (λ (s : State). first (refusals (CallEvent c.args.c) (world s (words_at m)))) (sym held.tables) ∙ judged k ∙ c.in_ok-judge.was));
      places = l.places _ refl;
    }

pub returns-clause-told : goal.returns-clause-told
returns-clause-told c =
    let k = (goal.at.returns-clause-told c).After-judge in
    let b = c.unwrap-tables.result.now in
    let m = c.unwrap-words.result.now in
    let p = c.perform in
    subst₂ (λ x y. CallTold c.args.c x y (Ok p.result) p.new.b p.new.words) (same_tables k) (same_words k)
    (calls_passed c.args.c b m (search rules) ((lent k).held refl) (judged k ∙ c.in_ok-judge.was) p.ensures.0 p.ensures.1)
