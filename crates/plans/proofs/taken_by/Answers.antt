use mathlib.Core.Path.{ap, ◌∙◌}
use mathlib.Core.Bool.{not, cond, ◌&&◌, ◌||◌}
use native.Mathlib.Omega.{arith}
use lib.Dec.{eqb}
use Rattle.views.proofs.Wanting.{wants_are}
use Rattle.plans.proofs.Decided.{chooses}
use Rattle.plans.proofs.taken_by.Goals as goal

pub returns : goal.returns
returns c =
    let u = c.uses_by-u.result in
    let a = c.args.c in
    let shows = wants_are c.args.v.view a.uaddr a.uaddr2 a.val3 (u.second && not u.moves && c.args.holds && not (eqb a.uaddr a.uaddr2)) u.mask c.candidates-o.result
    (rw (c.then_some.ensures, c.then_some-2.ensures) at c.candidates-o.ensures) in
    record {
      few = grind arith;
      takes = λ w sound views holds.
          chooses c.args.c w sound c.args.v.view views c.args.holds holds u c.uses_by-u.ensures c.candidates-o.result shows
          c.either-cap2.result c.min-n.result c.either-from.result c.either-rest.result c.min-m.result c.either-away.result
          (c.either-cap2.ensures ∙ ap (λ k. cond (u.second && (u.moves || c.args.holds)) k 0) c.second_cap.ensures)
          c.min-n.ensures c.either-from.ensures c.either-rest.ensures c.min-m.ensures c.either-away.ensures c.chosen.result c.chosen.ensures;
    }
