-- What the plan of a call is, part for part: carried out it leaves what the rules say, and it takes sleepers, each once.
use mathlib.Core.Path.{◌≡◌, refl, sym, ◌∙◌}
use mathlib.Core.Bool.{true, false}
use mathlib.Core.List.{List, ◌++◌}
use Prim.Native.Nat.{ℕ, ◌+◌, ◌≤◌, ◌<◌}
use native.Mathlib.Omega.{arith}
use lib.ListN.{length, take, drop, length-drop}
use lib.Seq.{take-add, length-take-le}
use lib.Dec.{eqb}
use borrow.Author.Tests.{eqb-true}
use Rattle.std.specs.Prelude.{Some, None, is_some}
use Rattle.lists.specs.Lists.{elem}
use Rattle.lists.proofs.Occurs.{occurs, distinct_occurs, elem_all}
use Rattle.tables.specs.declared.State.{State}
use Rattle.tables.specs.Sizes.{processes, threads_per_process, bytes_per_process, memory_words}
use Rattle.tables.specs.Tables.{World, process_of, thread_of, arrivals, tables_ok, write_word}
use Rattle.tables.proofs.Sound.{tables_sound, listed_waiting}
use Rattle.rules.specs.declared.event.Call.{Call}
use Rattle.rules.specs.Commands.{command_of, is_unknown, uses}
use Rattle.rules.specs.Calls.{caller, old_word, call_effect}
use Rattle.views.specs.declared.View.{View}
use Rattle.views.specs.Views.{Views}
use Rattle.tables.specs.declared.Sleep.{Sleep}
use Rattle.plans.specs.declared.Take.{Take}
use Rattle.plans.specs.declared.Plan.{Plan}
use Rattle.plans.specs.declared.Plan.TheVariants.{Sleep as SleepPlan, Take as TakePlan}
use Rattle.plans.specs.Ready.{Granted}
use Rattle.plans.specs.Plans.{released_of, moved_of, written, carried, Planned, PlannedSleep, PlannedTake}

-- whom a plan takes: those that run, and behind them those that move
pub taken_are : (d : Take) → take (d.released + d.moved) d.taken ≡ released_of d ++ moved_of d
taken_are d = take-add d.released d.moved d.taken

-- as many as it says
pub released_counted : (d : Take) → d.released ≤ length d.taken → length (released_of d) ≡ d.released
released_counted d = length-take-le d.released d.taken

pub moved_counted : (d : Take) → d.released + d.moved ≤ length d.taken → length (moved_of d) ≡ d.moved
moved_counted d fits = length-take-le d.moved (drop d.released d.taken) (omega (arith, length-drop d.released d.taken))

pub word_written : (c : Call) (d : Take) (w : World) (v : ℕ) → d.word ≡ Some v → written c d w ≡ write_word c.process c.uaddr2 v w
word_written c d w v writes = rw writes

pub word_kept : (c : Call) (d : Take) (w : World) → d.word ≡ None → written c d w ≡ w
word_kept c d w keeps = rw keeps

pub plan_leaves : (c : Call) (w : World) (d : Plan) → Planned c w d → carried c d w ≡ call_effect (command_of c.op) c w
plan_leaves c w d is = sym is.effect

module _ (c : Call) (w : World) (d : Take) (is : Planned c w (TakePlan d)) where
  pub plan_takes_sleepers : tables_ok w.state ≡ true → (t : ℕ) → elem t (take (d.released + d.moved) d.taken) ≡ true → (thread_of w.state t).waiting ≡ true
  plan_takes_sleepers ok t e =
      sym (listed_waiting w.state (tables_sound w.state ok) t)
      ∙ elem_all (λ x. elem x (arrivals w.state)) (take (d.released + d.moved) d.taken) (is.fits d refl).each t e

  pub plan_takes_once : (t : ℕ) → occurs t (take (d.released + d.moved) d.taken) ≤ 1
  plan_takes_once t = distinct_occurs t (take (d.released + d.moved) d.taken) (is.fits d refl).apart

  pub plan_takes_own : (t : ℕ) → elem t (take (d.released + d.moved) d.taken) ≡ true → process_of t ≡ c.process
  plan_takes_own t e =
      eqb-true (process_of t) c.process (elem_all (λ x. eqb (process_of x) c.process) (take (d.released + d.moved) d.taken) (is.fits d refl).own t e)

  pub plan_takes_few : d.released + d.moved ≤ threads_per_process
  plan_takes_few = (is.fits d refl).few

  pub plan_counts_few : d.count ≤ threads_per_process
  plan_counts_few = (is.fits d refl).small

  pub plan_writes_second : is_some d.word ≡ true → (uses (command_of c.op)).second ≡ true
  plan_writes_second = is.second d refl

-- the plan of a wait that is made at the clock's time
pub wait_planned : (c : Call) (w : World) (d : Sleep) → PlannedSleep c w.state.clock d → Granted c w.state w.words → (uses (command_of c.op)).deadline ≡ true
    → carried c (SleepPlan d) w ≡ call_effect (command_of c.op) c w
wait_planned c w d is granted waits = sym (is w granted waits refl).effect

-- the plan of any other call that is made on the view of its process and the word at its second address
pub others_planned : (c : Call) (v : View) (w : World) (d : Take) → PlannedTake c v (old_word c w) d → Granted c w.state w.words
    → (uses (command_of c.op)).deadline ≡ false → Views c.process w.state v → carried c (TakePlan d) w ≡ call_effect (command_of c.op) c w
others_planned c v w d is granted goes views = sym (is w granted goes views (λ _. refl)).effect

-- all that is asked of a call, its tables and its words
pub granted_where : (c : Call) (s : State) (words : List ℕ) → tables_ok s ≡ true → c.process < processes → c.index < threads_per_process → (thread_of s (caller c)).waiting ≡ false
    → is_unknown (command_of c.op) ≡ false → length words ≡ memory_words → ((uses (command_of c.op)).second ≡ true → c.uaddr2 < bytes_per_process) → Granted c s words
granted_where c s words ok process index runs known memory second =
    record {
      ready = record { tables = ok; process = process; index = index; runs = runs };
      known = known;
      memory = memory;
      second = second;
    }
