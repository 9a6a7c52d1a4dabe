use Rattle.std.proofs.Common.{◌≡◌, ℕ, ◌<◌, ◌≤◌, ◌-◌, ltb, get_or}
use Rattle.lists.specs.Lists.{bit}
use Rattle.arrivals.proofs.moved_up.Given as goal

abbrev pub invariant-loop-p : goal.invariant-loop-p
invariant-loop-p l = record {
  moved : (t : ℕ) → t < l.p-index → get_or l.place t 0 ≡ get_or l.initial.place t 0 - bit (ltb l.out (get_or l.initial.place t 0));
  left : (t : ℕ) → l.p-index ≤ t → get_or l.place t 0 ≡ get_or l.initial.place t 0;
}
