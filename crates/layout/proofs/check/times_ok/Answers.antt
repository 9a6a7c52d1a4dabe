use mathlib.Core.Path.{◌≡◌, ◌∙◌}
use Prim.Native.Nat.{◌+◌, ◌*◌, ◌/◌, ◌%◌}
use native.Mathlib.Omega.{arith}
use Rattle.lists.proofs.Count.{tested_start, tested_next}
use Rattle.lists.proofs.LittleEndian.{number_split}
use Rattle.tables.specs.Sizes.{threads, word_bytes, word_limit}
use Rattle.layout.specs.Check.{time_ok, time_fits}
use Rattle.layout.specs.Layout.{thread_at, time_bytes, deadline_at}
use Rattle.layout.proofs.check.times_ok.Goals as goal

pub loop-i-init : goal.loop-i-init
loop-i-init c = tested_start threads _

pub loop-i-preserved : goal.loop-i-preserved
loop-i-preserved c =
    let b = c.args.b.now in
    let time = c.args.time in
    let i = c.loop-i.i in
    let r = thread_at b i in
    let at : time % word_limit + word_limit * (time / word_limit) ≡ time = omega arith in
    let due : c.u32_at-dlow.result + word_limit * c.u32_at-dhigh.result ≡ r.deadline =
    omega (arith, number_split word_bytes word_bytes (deadline_at + time_bytes * i) b (omega arith), c.u32_at-dlow.ensures.0, c.u32_at-dhigh.ensures.0) in
    tested_next threads (time_fits time b) c.loop-i.ok c.time_ok-ok.result i c.loop-i.invariant (omega arith)
    (c.time_ok-ok.ensures ∙ (λ j. time_ok (at j) r.timed (due j)))
