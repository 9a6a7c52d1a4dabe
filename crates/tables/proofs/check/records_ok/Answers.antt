use Rattle.std.proofs.Common.{◌≡◌, ◌∙◌, sym, ap, Bool, not, ◌&&◌, eqb, ℕ, length, get_or, rules, tests}
use Rattle.std.specs.Bool.{beq}
use Rattle.std.proofs.lemmas.Iterator.{YieldsList-from_slice, YieldsList-from_zip}
use Rattle.std.proofs.lemmas.Iterator.Search.{all_from_yields_List}
use Rattle.std.proofs.lemmas.Iterator.Consumers.{YieldsList-at, YieldsList-from_filter, count_from_yields_List}
use Rattle.std.proofs.lemmas.List.Sums.{length-filter}
use Rattle.lists.specs.Lists.{every_below, count_below}
use mathlib.Core.Bool.{and_comm}
use Rattle.lists.proofs.Count.{every_below_and}
use Rattle.lists.proofs.Tabulate.{all_below}
use Rattle.lists.proofs.Library.{all_zip, count_by_below}
use Rattle.tables.specs.declared.Thread.{Thread}
use Rattle.tables.specs.Sizes.{threads}
use Rattle.tables.specs.Tables.{fresh_thread, thread_of, record_ok, records_ok}
use Rattle.tables.specs.Steps.{placed}
use Rattle.tables.proofs.check.records_ok.Goals as goal
use Rattle.tables.proofs.check.records_ok.Goals.{After-all, After-count}

abbrev fits : ℕ → Thread × ℕ → Bool
fits now p = record_ok now p.0 && beq (not (eqb p.1 0)) p.0.waiting

module _ (c : After-all) where
  each : c.all.result ≡ every_below threads (λ t. fits c.args.s.clock (thread_of c.args.s t, get_or c.args.place t 0))
  each =
      let s = c.args.s in
      let long : length s.threads ≡ threads = search rules in
      rw long at (
      all_from_yields_List (fits s.clock) c.all.new.self _ c.all.result c.all.ensures.ran
      (YieldsList-from_zip (YieldsList-at c.zip.ensures.first (YieldsList-from_slice s.threads cc)) (YieldsList-from_slice c.args.place cc)) (λ x b q k. search (rules, tests))
      ∙ all_zip (fits s.clock) s.threads c.args.place fresh_thread 0 (search rules))

  -- the rules of the records, and who waits
  parted : c.all.result ≡ (every_below threads (λ t. beq (placed c.args.place t) (thread_of c.args.s t).waiting) && records_ok c.args.s)
  parted =
      let s = c.args.s in
      let records : ℕ → Bool = λ t. record_ok s.clock (thread_of s t) in
      let stands : ℕ → Bool = λ t. beq (placed c.args.place t) (thread_of s t).waiting in
      let long : length s.threads ≡ threads = search rules in
      let whole : records_ok s ≡ every_below threads records = rw long at (all_below (record_ok s.clock) s.threads fresh_thread) in
      each ∙ every_below_and threads records stands ∙ and_comm (every_below threads records) (every_below threads stands) ∙ ap (every_below threads stands &&◌) (sym whole)

pub returns-then-all : goal.returns-then-all
returns-then-all c =
    let s = c.args.s in
    let long : length s.threads ≡ threads = search rules in
    let waits : Thread → Bool = λ t. t.waiting in
    let counted : c.count.result ≡ count_below threads (λ t. (thread_of s t).waiting) =
    rw long at (
    count_from_yields_List c.filter.result c.count.result c.count.ensures.ran
    (YieldsList-from_filter _ waits (YieldsList-at c.filter.ensures.source (YieldsList-from_slice s.threads cc)) c.filter.ensures.closure (λ x b q k. search (rules, tests)))
    ∙ length-filter waits s.threads ∙ count_by_below waits s.threads fresh_thread) in
    (λ j. (sym c.if-all.true ∙ parted (goal.at.returns-then-all c).After-all) j && eqb (counted j) s.count)

pub returns-else-all : goal.returns-else-all
returns-else-all c =
    let s = c.args.s in
    let counts = eqb (count_below threads (λ t. (thread_of s t).waiting)) s.count in
    c.if-all.false ∙ (λ j. (sym c.if-all.false ∙ parted (goal.at.returns-else-all c).After-all) j && counts)
