use Rattle.std.proofs.Common.{◌∙◌, ◌-◌, sym, arith, set}
use Rattle.std.specs.List.{copy_within}
use Rattle.lists.proofs.Padded.{copied_out}
use Rattle.arrivals.specs.Sizes.{threads, no_entry}
use Rattle.arrivals.proofs.out_at.Goals as goal

pub returns : goal.returns
returns c =
    let l = c.args.list.now in
    let p = c.args.place in
    let is = c.from-next.ensures in
    (λ j. set ((c.copy_within.ensures.after ∙ (λ k. copy_within l (is k) (c.told-list k) (is k - 1))) j) (threads - 1) no_entry)
    ∙ copied_out l p c.requires.0 (omega arith) threads no_entry 0 (sym c.told-list)
