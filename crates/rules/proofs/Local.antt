-- "The count that a wake or requeue answers depends on no sleeper at a word that the call doesn't name."
use mathlib.Core.Path.{◌≡◌, refl, sym, ap, ◌∙◌}
use mathlib.Core.Bool.{Bool, true}
use Prim.Native.Nat.{ℕ}
use lib.ListN.{length, take, drop}
use Rattle.lists.specs.Lists.{filter, elem}
use Rattle.lists.proofs.Occurs.{filter_agree, all_elem}
use Rattle.lists.proofs.Filter.{all_filtered}
use Rattle.tables.specs.declared.State.{State}
use Rattle.tables.specs.declared.Thread.{Thread}
use Rattle.rules.specs.declared.event.Command.{Command}
use Rattle.rules.specs.declared.event.Command.TheVariants.{WakeOp}
use Rattle.rules.specs.declared.event.Call.{Call}
use Rattle.rules.specs.declared.event.Event.TheVariants.{Call as CallEvent}
use Rattle.rules.specs.declared.answer.Answer.TheVariants.{Count}
use Rattle.tables.specs.Editions.{present}
use Rattle.tables.specs.Tables.{World, thread_of, queue}
use Rattle.rules.specs.Answers.{Outcome}
use Rattle.rules.specs.Commands.{command_of, uses}
use Rattle.rules.specs.Calls.{is_wake_op, ordered, matches, second_cap, candidates_in, candidates, released_in, released, moved_in, moved, released_second, wait, wake, requeue, wake_op, call_effect}
use Rattle.rules.specs.Events.{effect, step}
use Rattle.rules.specs.Claims.{SameSleepers, NamedAlike}
use Rattle.rules.proofs.Commands.{by_command}
use Rattle.rules.proofs.Chosen.{ordered_agree}
use Rattle.rules.proofs.Rows.{counted_done}

candidates_alike : (q : Thread → Bool) (p a : ℕ) (s u : State) → SameSleepers p a s u → candidates q p a s ≡ candidates q p a u
unfolding candidates_in
candidates_alike q p a s u h =
    let l = filter (λ t. q (thread_of s t)) (queue p a s) in
    sym (ordered_agree present.order (λ t. elem t (queue p a s)) s u (λ t e. sym (h.records t e)) l
    (all_filtered (λ t. elem t (queue p a s)) (λ t. q (thread_of s t)) (queue p a s) (all_elem (λ t. elem t (queue p a s)) (queue p a s) (λ t e. e))))
    ∙ ap (ordered present.order u)
    (filter_agree (λ t. q (thread_of s t)) (λ t. q (thread_of u t)) (queue p a s) (λ t e. ap q (h.records t e))
    ∙ ap (filter (λ t. q (thread_of u t))) h.order)

module _ (k : Command) (c : Call) (w v : World) (h : NamedAlike k c w v) where
  released_alike : released k c w.state ≡ released k c v.state
  unfolding released_in
  released_alike = ap (take c.val) (candidates_alike (matches k c) c.process c.uaddr w.state v.state h.first)

  moved_alike : moved k c w.state ≡ moved k c v.state
  unfolding moved_in
  moved_alike = ap (λ l. take (second_cap c) (drop c.val l)) (candidates_alike (matches k c) c.process c.uaddr w.state v.state h.first)

  second_alike : (uses k).second ≡ true → is_wake_op k ≡ true → released_second k c w ≡ released_second k c v
  unfolding released_second
  second_alike two op =
      cc (h.word op, released_alike, candidates_alike (matches k c) c.process c.uaddr2 w.state v.state (h.second two))

answer_alike : (k : Command) (c : Call) (w v : World) → NamedAlike k c w v → (call_effect k c w).answer ≡ (call_effect k c v).answer
unfolding wait wake requeue wake_op
answer_alike k c w v = by_command (λ k f. NamedAlike k c w v → (f c w).answer ≡ (f c v).answer)
    (λ k i h. refl)
    (λ k h. ap (λ l. Count (length l)) (released_alike k c w v h))
    (λ k h. cc (released_alike k c w v h, moved_alike k c w v h))
    (λ h. cc (released_alike WakeOp c w v h, second_alike WakeOp c w v h refl refl))
    (λ h. refl)
    k

pub count_local : (c : Call) (w v : World) (m n : ℕ) → NamedAlike (command_of c.op) c w v
    → (step (CallEvent c) w).answer ≡ Count m → (step (CallEvent c) v).answer ≡ Count n → m ≡ n
unfolding effect
count_local c w v m n h a b =
    let same : (call_effect (command_of c.op) c w).answer ≡ (call_effect (command_of c.op) c v).answer = answer_alike (command_of c.op) c w v h in
    cc (a, b, ap (λ (o : Outcome). o.answer) (counted_done (CallEvent c) w m a), ap (λ (o : Outcome). o.answer) (counted_done (CallEvent c) v n b))
