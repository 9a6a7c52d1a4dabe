-- The verdict of a call on what the code reads: a record and a word that may be none.
use mathlib.Core.Path.{◌≡◌, refl, ap}
use mathlib.Core.List.{List}
use Prim.Native.Nat.{ℕ}
use lib.ListN.{get_or}
use borrow.Author.Tests.{leb-false}
use Rattle.tables.specs.declared.State.{State}
use Rattle.rules.specs.declared.event.Call.{Call}
use Rattle.rules.specs.declared.event.Event.TheVariants.{Call as CallEvent}
use Rattle.tables.specs.Sizes.{bytes_per_process}
use Rattle.tables.specs.Tables.{thread_of, world}
use Rattle.rules.specs.Answers.{first}
use Rattle.rules.specs.Commands.{command_of}
use Rattle.rules.specs.Calls.{argument_rows, rows_in, call_rows, differs}
use Rattle.rules.specs.Events.{own_rows}
use Rattle.commands.specs.Places.{thread_place, word_place}
use Rattle.commands.proofs.Places.{thread_there, word_there}
use Rattle.rules.proofs.Rows.{Same, ◌then◌, same_behind, same_first}
use Rattle.rules.proofs.Passed.{thread_process, thread_index, uaddr_inside}

-- The record t and the word i that the code reads: where the thread or the address does not exist, an earlier row refuses.
module _ (c : Call) (s : State) (ws : List ℕ) (t i : ℕ) (thread : t ≡ thread_place c.process c.index) (word : i ≡ word_place c.process c.uaddr) where
  own_same : Same (call_rows c (thread_of s t).waiting s.clock (get_or ws i 0)) (own_rows (CallEvent c) (world s ws))
  unfolding rows_in
  own_same =
      let k = command_of c.op in
      refl then λ h3.
      let p = thread_process c.process c.index h3 in
      ap (λ u. (thread_of s u).waiting) (thread_there _ _ thread p (thread_index c.process c.index h3)) then λ h4.
      refl then λ h5.
      same_behind (argument_rows k c) _ _
      (refl then λ h6.
      refl then λ h7.
      ap (λ j. differs k c (get_or ws j 0)) (word_there _ _ word p (leb-false bytes_per_process c.uaddr (uaddr_inside k c h6))) then λ h8.
      refl then λ h9.
      tt)

  pub own_verdict : first (call_rows c (thread_of s t).waiting s.clock (get_or ws i 0)) ≡ first (own_rows (CallEvent c) (world s ws))
  own_verdict = same_first (call_rows c (thread_of s t).waiting s.clock (get_or ws i 0)) (own_rows (CallEvent c) (world s ws)) own_same
