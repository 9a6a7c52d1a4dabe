use mathlib.Core.Path.{◌≡◌, sym, subst, ◌∙◌}
use mathlib.Core.List.{List, ◌++◌}
use Prim.Native.Nat.{ℕ, ◌+◌, ◌≤◌, ◌<◌}
use native.Mathlib.Omega.{arith}
use lib.ListN.{length, length-append, get_or, get_or-append}
use lib.Seq.{get_or-append-add}
use Rattle.layout.specs.Layout.{state_at}
use Rattle.changes.proofs.OneByOne.{OneByOne, one_start, one_most, one_held, one_stands, one_ends, one_may_move, one_moves}
use Rattle.changes.proofs.take.Goals as goal
use Rattle.changes.proofs.take.Goals.{After-from-x, After-from-x-in-loop-t-2}

long : (es ms : List ℕ) → length es + length ms ≤ length (es ++ ms)
long es ms = omega (arith, length-append es ms)

pub loop-t-init : goal.loop-t-init
loop-t-init c =
    let a = c.args in
    let es = a.ended.now in
    let ms = a.moved.now in
    one_start a.b.now c.requires.0 a.place (es ++ ms) (length es) (length es + length ms) a.uaddr c.requires.1 (long es ms)

-- a turn of those that end
module _ (c : After-from-x) where
  abbrev es : List ℕ
  es = c.args.ended.now

  abbrev ms : List ℕ
  ms = c.args.moved.now

  on : c.loop-t.t-index < length es + length ms
  on = omega (arith, c.loop-t-test.true)

  named : c.from-x.result ≡ get_or (es ++ ms) c.loop-t.t-index 0
  named = c.from-x.ensures ∙ sym (get_or-append es ms 0 c.loop-t.t-index c.loop-t-test.true)

-- a turn of those that move
module _ (c : After-from-x-in-loop-t-2) where
  abbrev es₂ : List ℕ
  es₂ = c.args.ended.now

  abbrev ms₂ : List ℕ
  ms₂ = c.args.moved.now

  on₂ : length es₂ + c.loop-t-2.t-index < length es₂ + length ms₂
  on₂ = omega (arith, c.loop-t-2-test.true)

  named₂ : c.from-x-in-loop-t-2.result ≡ get_or (es₂ ++ ms₂) (length es₂ + c.loop-t-2.t-index) 0
  named₂ = c.from-x-in-loop-t-2.ensures ∙ sym (get_or-append-add es₂ ms₂ c.loop-t-2.t-index 0)

-- the place of the thread fits a byte
pub overflow_cast-out : goal.overflow_cast-out
overflow_cast-out c =
    let a = c.args in
    let k = c.loop-t in
    let t = (goal.at.overflow_cast-out c).After-from-x in
    omega (arith, one_most a.b.now c.requires.0 a.place (es t ++ ms t) (length (es t)) (length (es t) + length (ms t)) a.uaddr c.requires.1 (long (es t) (ms t)) k.b k.at k.t-index c.from-x.result k.invariant (on t) (named t))

pub end_one-requires : goal.end_one-requires
end_one-requires c =
    let a = c.args in
    let k = c.loop-t in
    let t = (goal.at.end_one-requires c).After-from-x in (
      one_held a.b.now c.requires.0 a.place (es t ++ ms t) (length (es t)) (length (es t) + length (ms t)) a.uaddr c.requires.1 (long (es t) (ms t)) k.b k.at k.t-index c.from-x.result k.invariant (on t) (named t) c.loop-t-test.true,
      one_stands a.b.now c.requires.0 a.place (es t ++ ms t) (length (es t)) (length (es t) + length (ms t)) a.uaddr c.requires.1 (long (es t) (ms t)) k.b k.at k.t-index c.from-x.result k.invariant (on t) (named t) c.loop-t-test.true,
    )

pub loop-t-preserved : goal.loop-t-preserved
loop-t-preserved c =
    let a = c.args in
    let k = c.loop-t in
    let t = (goal.at.loop-t-preserved c).After-from-x in
    one_ends a.b.now c.requires.0 a.place (es t ++ ms t) (length (es t)) (length (es t) + length (ms t)) a.uaddr c.requires.1 (long (es t) (ms t)) k.b k.at k.t-index c.from-x.result k.invariant (on t) (named t) c.loop-t-test.true
    c.end_one.new.b c.lowered-at.result c.end_one.ensures c.lowered-at.ensures

-- all that end have ended
pub overflow_cast-out-in-loop-t-2 : goal.overflow_cast-out-in-loop-t-2
overflow_cast-out-in-loop-t-2 c =
    let a = c.args in
    let k = c.loop-t-2 in
    let t = (goal.at.overflow_cast-out-in-loop-t-2 c).After-from-x-in-loop-t-2 in
    omega (arith, one_most a.b.now c.requires.0 a.place (es₂ t ++ ms₂ t) (length (es₂ t)) (length (es₂ t) + length (ms₂ t)) a.uaddr c.requires.1 (long (es₂ t) (ms₂ t)) k.b k.at (length (es₂ t) + k.t-index) c.from-x-in-loop-t-2.result k.invariant (on₂ t) (named₂ t))

pub move_one-requires : goal.move_one-requires
move_one-requires c =
    let a = c.args in
    let k = c.loop-t-2 in
    let t = (goal.at.move_one-requires c).After-from-x-in-loop-t-2 in
    one_may_move a.b.now c.requires.0 a.place (es₂ t ++ ms₂ t) (length (es₂ t)) (length (es₂ t) + length (ms₂ t)) a.uaddr c.requires.1 (long (es₂ t) (ms₂ t)) k.b k.at (length (es₂ t) + k.t-index) c.from-x-in-loop-t-2.result k.invariant (on₂ t) (named₂ t)

pub loop-t-2-preserved : goal.loop-t-2-preserved
loop-t-2-preserved c =
    let a = c.args in
    let k = c.loop-t-2 in
    let t = (goal.at.loop-t-2-preserved c).After-from-x-in-loop-t-2 in
    let next : length (es₂ t) + k.t-index + 1 ≡ length (es₂ t) + (k.t-index + 1) = omega arith in
    subst (OneByOne (state_at a.b.now) (es₂ t ++ ms₂ t) (length (es₂ t)) (length (es₂ t) + length (ms₂ t)) a.uaddr c.move_one.new.b c.lowered-at-in-loop-t-2.result) next (
    one_moves a.b.now c.requires.0 a.place (es₂ t ++ ms₂ t) (length (es₂ t)) (length (es₂ t) + length (ms₂ t)) a.uaddr c.requires.1 (long (es₂ t) (ms₂ t)) k.b k.at (length (es₂ t) + k.t-index) c.from-x-in-loop-t-2.result k.invariant (on₂ t) (named₂ t) (omega arith)
    c.move_one.new.b c.lowered-at-in-loop-t-2.result c.move_one.ensures c.lowered-at-in-loop-t-2.ensures
    )
