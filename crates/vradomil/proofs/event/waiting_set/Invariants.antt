use mathlib.Core.Path.{◌≡◌}
use mathlib.Core.Bool.{Bool}
use Prim.Native.Nat.{ℕ}
use Rattle.tables.specs.declared.State.{State}
use Rattle.tables.specs.Tables.{thread_number, thread_of}
use Rattle.rules.specs.Events.{bits_below}
use Rattle.layout.specs.Layout.{state_at}
use Rattle.vradomil.proofs.event.waiting_set.Given as goal

abbrev pub waits : State → ℕ → ℕ → Bool
waits s process i = (thread_of s (thread_number process i)).waiting

abbrev pub invariant-loop-i : goal.invariant-loop-i
invariant-loop-i l = l.bits ≡ bits_below l.i (waits (state_at l.tables) l.process)
