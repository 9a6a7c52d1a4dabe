use mathlib.Core.Path.{◌≡◌, refl, sym, ap, ◌∙◌}
use Prim.Native.Nat.{◌+◌, ◌*◌}
use native.Mathlib.Omega.{arith}
use lib.ListN.{get_or}
use lib.Dec.{eqb}
use mir.Val.{bool_byte}
use Rattle.tables.specs.declared.Thread.{Thread}
use Rattle.tables.specs.Sizes.{threads_per_process}
use Rattle.tables.specs.Tables.{thread_number}
use Rattle.rules.specs.Events.{bits_below, waiting_in}
use Rattle.layout.specs.Layout.{state_at, waiting_at}
use Rattle.layout.proofs.Reading.{thread_read}
use Rattle.kernel.proofs.Panels.{bit_set}
use Rattle.vradomil.proofs.event.waiting_set.Invariants.{waits}
use Rattle.vradomil.proofs.event.waiting_set.Goals as goal

pub loop-i-init : goal.loop-i-init
unfolding bits_below
loop-i-init c = refl

pub loop-i-preserved : goal.loop-i-preserved
loop-i-preserved c =
    let b = c.args.tables.now in
    let p = c.args.process in
    let i = c.loop-i.i in
    let place : waiting_at + threads_per_process * p + i ≡ waiting_at + thread_number p i = omega arith in
    let read = ap (λ n. bool_byte (eqb (get_or b n 0) 1)) place ∙ ap (λ (r : Thread). bool_byte r.waiting) (sym (thread_read b (thread_number p i) (omega arith))) in
    bit_set i (waits (state_at b) p) (omega arith) c.loop-i.invariant (c.from.ensures ∙ read)

pub returns : goal.returns
unfolding waiting_in
returns c =
    let i : c.loop-i.i ≡ threads_per_process = omega arith in
    c.loop-i.invariant ∙ ap (λ n. bits_below n (waits (state_at c.args.tables.now) c.args.process)) i
