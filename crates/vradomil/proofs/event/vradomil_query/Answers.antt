use mathlib.Core.Path.{◌≡◌, sym, ap, ◌∙◌}
use mathlib.Core.Bool.{◌&&◌}
use Prim.Native.Nat.{◌+◌, ◌*◌}
use lib.Count.{ones, count_trailing_zeros}
use lib.Dec.{ltb}
use Rattle.std.proofs.lemmas.Option.{MatchOption-at_some}
use Rattle.lists.proofs.Tests.{and_left}
use Rattle.tables.specs.Sizes.{processes, threads_per_process}
use Rattle.rules.specs.Events.{waiting_set, panel, panel_of, panel_in}
use Rattle.kernel.proofs.Events.{shown, hidden}
use Rattle.layout.specs.Layout.{tables_at, state_at}
use Rattle.vradomil.specs.Host.{packed}
use borrow.Author.Rules.{rules}
use Rattle.vradomil.proofs.event.vradomil_query.Goals as goal
use Rattle.vradomil.proofs.event.vradomil_query.Goals.{then-seen-exists, else-seen-exists}

pub returns : goal.returns
unfolding panel_in
returns c =
    let b = c.args.tables.now in
    let p = c.args.process in
    let seen = c.sound.ensures in
    let ok = c.is_some-seen.result in
    let answer = c.is_some-seen.ensures ∙ seen.answer in
    let shows : c.if-seen-exists.bits ≡ (panel p (tables_at b)).waiting = elim c.if-seen-exists.branch [
      | then-seen-exists w ↦
          let same = (MatchOption-at_some _ _ _ w.unwrap.ensures w.as_array.ensures.cases).same in
          w.bits-is ∙ w.waiting_set-bits.ensures ∙ ap (λ l. waiting_set p (state_at l)) same
          ∙ ap (waiting_set p) (sym (seen.held (sym c.is_some-seen.ensures ∙ and_left ok (ltb p processes) w.if-seen-exists.true)).tables)
          ∙ shown (tables_at b) p (ap (◌&& ltb p processes) (sym answer) ∙ w.if-seen-exists.true)
      | else-seen-exists w ↦ w.bits-is ∙ hidden (tables_at b) p (ap (◌&& ltb p processes) (sym answer) ∙ w.if-seen-exists.false)
    ] in
    record {
      number = ap (λ n. n + 256 * ones c.if-seen-exists.bits + 65536 * count_trailing_zeros threads_per_process c.if-seen-exists.bits) c.from.ensures
          ∙ ap (λ n. packed (panel_of n)) shows;
      fits = search rules;
    }
