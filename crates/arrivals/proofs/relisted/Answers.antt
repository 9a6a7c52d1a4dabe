use Rattle.std.proofs.Common.{◌≡◌, ◌∙◌, ◌++◌, ◌+◌, ◌≤◌, ◌<◌, ℕ, List, ap, refl, arith, rules, length, take, get_or, length-append}
use Rattle.std.specs.Iterator.Adapters.{chain_steps}
use Rattle.std.proofs.iter.Yields.{fronts}
use Rattle.std.proofs.lemmas.List.{get_or_default}
use Rattle.std.proofs.lemmas.Iterator.{YieldsList, YieldsList-from_slice}
use Rattle.std.proofs.lemmas.Iterator.Consumers.{YieldsList-at, YieldsList-from_chain, YieldsList-turn, YieldsList-end}
use lib.Seq.{take_all}
use Rattle.lists.specs.Lists.{pad_to, without}
use Rattle.arrivals.specs.Sizes.{threads, no_entry}
use Rattle.arrivals.proofs.TakingOut.{out_start, out_low, out_within, out_next, out_joined}
use Rattle.arrivals.proofs.relisted.Goals as goal
use Rattle.arrivals.proofs.relisted.Goals.{Start, After-into_iter-t-iterator, After-index_of}

-- the threads of the one list, and then those of the other
road : (c : After-into_iter-t-iterator) → YieldsList (chain_steps fronts fronts) (λ y. y.now) c.into_iter-t-iterator.result (c.args.ended.now ++ c.args.moved.now)
road c =
    let chain = c.chain-t-items.ensures in
    YieldsList-at c.into_iter-t-iterator.ensures.into_iter_gives
    (YieldsList-from_chain (YieldsList-at chain.first (YieldsList-from_slice c.args.ended.now cc))
    (YieldsList-from_slice {s = c.chain-t-items.result.b} c.args.moved.now chain.second.0) chain.first_done chain.second_done)

pub loop-t-init : goal.loop-t-init
loop-t-init c = record {
  can_next = search rules;
  finite = search rules;
  taken = out_start c.args.list c.args.count c.args.place (c.args.ended.now ++ c.args.moved.now) (length c.args.ended.now + length c.args.moved.now) c.requires (search rules);
}

module _ (c : After-index_of) (way : YieldsList (chain_steps fronts fronts) (λ y. y.now) c.into_iter-t-iterator.result (c.args.ended.now ++ c.args.moved.now)) where
  abbrev ts : List ℕ
  ts = c.args.ended.now ++ c.args.moved.now

  abbrev n : ℕ
  n = length c.args.ended.now + length c.args.moved.now

  size : n ≤ length ts
  size = omega (arith, length-append c.args.ended.now c.args.moved.now)

  turn : (length c.loop-t.yielded < length ts) × (c.in-Some.field-0.now ≡ get_or ts (length c.loop-t.yielded) c.in-Some.field-0.now)
  turn = YieldsList-turn way c.loop-t.yielded c.loop-t.t-iterator c.loop-t.yielded_by c.next.result c.next.new.self c.in-Some.field-0 c.in-Some.is c.next.ensures.steps

  on : length c.loop-t.yielded < n
  on = omega (arith, turn.0, length-append c.args.ended.now c.args.moved.now)

  -- the place that is read is that of the thread
  place_read : get_or c.loop-t.place c.index_of.result 0 ≡ get_or c.loop-t.place (get_or ts (length c.loop-t.yielded) 0) 0
  place_read =
      let k = c.loop-t in
      let a = c.args in
      let low = out_low a.list a.count a.place ts n c.requires size k.list k.place (length k.yielded) k.invariant.taken on in
      let item : c.in-Some.field-0.now ≡ get_or ts (length k.yielded) 0 = turn.1 ∙ get_or_default ts (length k.yielded) c.in-Some.field-0.now 0 turn.0 in
      let index : c.index_of.result ≡ get_or ts (length k.yielded) 0 = c.index_of.ensures ∙ omega (arith, item) in
      ap (λ j. get_or k.place j 0) index

pub out_at-requires : goal.out_at-requires
out_at-requires c =
    let k = c.loop-t in
    let a = c.args in
    let h = (goal.at.out_at-requires c).After-index_of in
    let way = road (goal.at.out_at-requires c).After-into_iter-t-iterator in
    let some = out_within a.list a.count a.place (ts h way) (n h way) c.requires (size h way) k.list k.place (length k.yielded) k.invariant.taken (on h way) in
    let read = place_read h way in
    (omega (arith, read, some.0), omega (arith, read, some.1))

pub loop-t-preserved : goal.loop-t-preserved
loop-t-preserved c =
    let k = c.loop-t in
    let a = c.args in
    let h = (goal.at.loop-t-preserved c).After-index_of in
    let way = road (goal.at.loop-t-preserved c).After-into_iter-t-iterator in
    record {
      can_next = search rules;
      finite = search rules;
      taken = rw length-append
          (out_next a.list a.count a.place (ts h way) (n h way) c.requires (size h way) k.list k.place (length k.yielded) k.invariant.taken (on h way)
          (get_or k.place c.index_of.result 0) c.out_at.new.list c.moved_up.new.place (place_read h way) c.out_at.ensures c.moved_up.ensures);
    }

pub returns : goal.returns
returns c =
    let k = c.loop-t in
    let a = c.args in
    let ts = a.ended.now ++ a.moved.now in
    let n = length a.ended.now + length a.moved.now in
    let long : n ≡ length ts = omega (arith, length-append a.ended.now a.moved.now) in
    let all = YieldsList-end (road (goal.at.returns c).After-into_iter-t-iterator) k.yielded k.t-iterator k.yielded_by c.next.result c.next.new.self c.in-None.is c.next.ensures.steps in
    let whole : take n ts ≡ ts = take_all n ts (omega arith) in
    c.joined.ensures
    ∙ out_joined a.list a.count a.place ts n c.requires k.list k.place (length k.yielded) k.invariant.taken (omega (arith, all.1)) a.moved.now (length a.moved.now) refl
    ∙ ap (λ us. pad_to threads no_entry (without us (take a.count a.list) ++ a.moved.now)) whole
