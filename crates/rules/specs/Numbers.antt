-- "Answers by number": the paper's tables with its own numbers, for every event, without the row for -12, which request (iii) takes out.
-- `answers_by_number` (proofs/Theorems.antt) says that the rules answer so.
use Rattle.std.specs.Prelude.{Bool, not, cond, ◌&&◌, ◌||◌, List, [], ◌∷◌, ℕ, ◌+◌, length, ltb, ℤ, pos, neg_ℤ}
use Rattle.std.specs.Int.Count.{ones, count_trailing_zeros}
use Rattle.rules.specs.declared.event.Command.{Command}
use Rattle.rules.specs.declared.event.Command.TheVariants.{Wait, Wake, Requeue, CmpRequeue, WakeOp, WaitBitset, WakeBitset, Unknown}
use Rattle.rules.specs.declared.event.Call.{Call}
use Rattle.rules.specs.declared.event.Event.{Event}
use Rattle.rules.specs.declared.event.Event.TheVariants.{Call as CallEvent, Store, Clock, Interrupt, Query, SetPriority}
use Rattle.tables.specs.Sizes.{threads_per_process, max_priority}
use Rattle.tables.specs.Tables.{World, thread_number, thread_of, word_at, aligned, outside, expired_sleepers}
use Rattle.rules.specs.Commands.{command_of, not_implemented}
use Rattle.rules.specs.WakeOp.{undefined_op}
use Rattle.rules.specs.Calls.{wrong_memory, broken_tables, no_process, no_thread, caller, bad_argument, bad_address, is_wake_op, differs, late, released, moved, released_second}
use Rattle.rules.specs.Events.{waiting_set}

-- A row by its number: the error number negated where the row applies, and else what the rows below it give.
abbrev pub refuse : ℕ → Bool → List ℤ → List ℤ
refuse n applies below = cond applies (neg_ℤ (pos n) ∷ []) below

-- What a call is answered where no row applies: "asleep", which is this number to a host, or a count. An unknown command never comes so far.
abbrev pub done : Command → Call → World → List ℤ
done Wait c w = pos 2147483647 ∷ []
done WaitBitset c w = pos 2147483647 ∷ []
done Wake c w = pos (length (released Wake c w.state)) ∷ []
done WakeBitset c w = pos (length (released WakeBitset c w.state)) ∷ []
done Requeue c w = pos (length (released Requeue c w.state)) ∷ []
done CmpRequeue c w = pos (length (released CmpRequeue c w.state) + length (moved CmpRequeue c w.state)) ∷ []
done WakeOp c w = pos (length (released WakeOp c w.state) + length (released_second WakeOp c w)) ∷ []
done Unknown c w = neg_ℤ (pos 38) ∷ []

-- the byte of a panel query, by its three numbers: "one byte .., the number of set bits, and the lowest set bit, or 8 if none"
abbrev pub shown : ℕ → List ℤ
shown waiting = pos waiting ∷ pos (ones waiting) ∷ pos (count_trailing_zeros threads_per_process waiting) ∷ []

unfoldable pub numbers_of : Event → World → List ℤ
-- "Tests come in this order; the first that applies answers."
numbers_of (CallEvent c) w = let k = command_of c.op in
    refuse 6 (wrong_memory w)
    (refuse 9 (broken_tables w)
    (refuse 3 (no_thread c.process c.index)
    (refuse 16 (thread_of w.state (caller c)).waiting
    (refuse 38 (not_implemented c.op)
    (refuse 22 (bad_argument k c)
    (refuse 14 (bad_address k c)
    (refuse 38 (is_wake_op k && undefined_op c.val3)
    (refuse 11 (differs k c (word_at w c.process c.uaddr))
    (refuse 110 (late k c w.state.clock)
    (done k c w))))))))))
-- "-6, -9, -3, -22 (not aligned), -14, else 0"
numbers_of (Store p a v) w =
    refuse 6 (wrong_memory w)
    (refuse 9 (broken_tables w)
    (refuse 3 (no_process p)
    (refuse 22 (not (aligned a))
    (refuse 14 (outside a)
    (pos 0 ∷ [])))))
-- "-6, -9, -22 if earlier than the clock, else .. how many"
numbers_of (Clock now) w =
    refuse 6 (wrong_memory w)
    (refuse 9 (broken_tables w)
    (refuse 22 (ltb now w.state.clock)
    (pos (length (expired_sleepers now w.state)) ∷ [])))
-- "-6, -9, -3, else 1 .., or 0 if it was running"
numbers_of (Interrupt p i) w =
    refuse 6 (wrong_memory w)
    (refuse 9 (broken_tables w)
    (refuse 3 (no_thread p i)
    (pos (cond (thread_of w.state (thread_number p i)).waiting 1 0) ∷ [])))
-- "A process above 7 gives 0, 0, 8; so do tables that break a rule."
numbers_of (Query p) w = shown (cond (no_process p || broken_tables w) 0 (waiting_set p w.state))
-- "-6, -9, -3, -22 if above 31 (reason 8), else 0"
numbers_of (SetPriority p i n) w =
    refuse 6 (wrong_memory w)
    (refuse 9 (broken_tables w)
    (refuse 3 (no_thread p i)
    (refuse 22 (ltb max_priority n)
    (pos 0 ∷ []))))
