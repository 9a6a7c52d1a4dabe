use Rattle.std.proofs.Common.{◌-◌, ◌≡◌, ◌≤◌, length}
use Rattle.cuts.proofs.fed.Given as goal

abbrev pub invariant-loop-event : goal.invariant-loop-event
invariant-loop-event l = (length l.reader.held ≡ 31) × (l.seen.events ≤ l.place) × (l.place ≤ length l.piece)

-- an event moves the place forward
abbrev pub decreases-loop-event : goal.decreases-loop-event
decreases-loop-event l = length l.piece - l.place
