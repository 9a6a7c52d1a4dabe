use Rattle.std.proofs.Common.{◌∙◌, rules, eqb, tests}
use Rattle.std.proofs.lemmas.Iterator.{YieldsList-from_slice}
use Rattle.std.proofs.lemmas.Iterator.Search.{all_from_yields_List}
use Rattle.lists.proofs.Library.{all_list}
use Rattle.arrivals.specs.Sizes.{no_entry}
use Rattle.arrivals.proofs.tail_ok.Goals as goal

pub returns : goal.returns
returns c =
    let l = c.args.tail.now in
    all_from_yields_List (λ e. eqb e no_entry) _ _ _ c.all.ensures.ran (YieldsList-from_slice l cc) (λ x b q k. search (rules, tests)) ∙ all_list (λ e. eqb e no_entry) l
