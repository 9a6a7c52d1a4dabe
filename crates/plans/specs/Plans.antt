-- What a plan leaves of the tables and the words, and when it is the plan of a call: where it leaves what the rules say.
use Rattle.std.specs.Prelude.{◌≡◌, Bool, true, false, not, cond, ◌&&◌, List, [], ◌++◌, ℕ, ◌+◌, ◌≤◌, take, drop, eqb, Option, Some, None, is_some, unwrap_or}
use Rattle.lists.specs.Lists.{all, elem, distinct}
use Rattle.tables.specs.declared.State.{State}
use Rattle.tables.specs.declared.Sleep.{Sleep}
use Rattle.tables.specs.declared.LastAnswer.TheVariants.{Woken}
use Rattle.rules.specs.declared.event.Call.{Call}
use Rattle.rules.specs.declared.answer.Answer.TheVariants.{Asleep, Count}
use Rattle.tables.specs.Sizes.{threads_per_process}
use Rattle.tables.specs.Tables.{World, process_of, arrivals, tables_ok, asleep_at, fall_asleep, end_sleeps, move_sleeps, write_word, with_state}
use Rattle.rules.specs.Answers.{Outcome, outcome}
use Rattle.rules.specs.Commands.{command_of, uses}
use Rattle.rules.specs.WakeOp.{compares}
use Rattle.rules.specs.Calls.{caller, old_word, released, moved, released_second, call_effect}
use Rattle.views.specs.declared.View.{View}
use Rattle.views.specs.Views.{Views}
use Rattle.plans.specs.declared.Take.{Take}
use Rattle.plans.specs.declared.Plan.{Plan}
use Rattle.plans.specs.declared.Plan.TheVariants.{Sleep as SleepPlan, Take as TakePlan}
use Rattle.plans.specs.declared.Takes.{Takes}
use Rattle.plans.specs.Ready.{Granted}

-- the threads that run, and those that move
abbrev pub released_of : Take → List ℕ
released_of d = take d.released d.taken

abbrev pub moved_of : Take → List ℕ
moved_of d = take d.moved (drop d.released d.taken)

-- a word that may be written
abbrev pub written_by : Call → Option ℕ → World → World
written_by c (Some v) w = write_word c.process c.uaddr2 v w
written_by c None w = w

-- the word that the plan writes
abbrev pub written : Call → Take → World → World
written c d w = written_by c d.word w

-- A plan carried out: what the call is answered, and the tables and words that it leaves.
unfoldable pub carried : Call → Plan → World → Outcome
carried c (SleepPlan d) w =
    outcome Asleep (with_state (fall_asleep (asleep_at d.uaddr d.bitset (is_some d.deadline) (unwrap_or d.deadline 0)) (caller c) w.state) w)
carried c (TakePlan d) w =
    outcome (Count d.count)
    (written c d (with_state (move_sleeps c.uaddr2 (moved_of d) (end_sleeps Woken (released_of d) w.state)) w))

-- each thread that is taken is of the process and on the list, and none is taken twice
pub record Fits (p : ℕ) (d : Take) (s : State) : Type 0 where
  pub few : d.released + d.moved ≤ threads_per_process
  pub own : all (λ t. eqb (process_of t) p) (take (d.released + d.moved) d.taken) ≡ true
  pub each : all (λ t. elem t (arrivals s)) (take (d.released + d.moved) d.taken) ≡ true
  pub apart : distinct (take (d.released + d.moved) d.taken) ≡ true
  pub small : d.count ≤ threads_per_process

-- the plan of a call that no row refuses: carried out, it leaves what the rules say
pub record Planned (c : Call) (w : World) (d : Plan) : Type 0 where
  pub effect : call_effect (command_of c.op) c w ≡ carried c d w
  pub fits : (t : Take) → d ≡ TakePlan t → Fits c.process t w.state
  pub second : (t : Take) → d ≡ TakePlan t → is_some t.word ≡ true → (uses (command_of c.op)).second ≡ true

-- of a wait, whatever tables have the clock
abbrev pub PlannedSleep : Call → ℕ → Sleep → Type 0
PlannedSleep c now d =
    (w : World) → Granted c w.state w.words → (uses (command_of c.op)).deadline ≡ true → now ≡ w.state.clock → Planned c w (SleepPlan d)

-- of any other call, whatever tables have the view and the word
abbrev pub PlannedTake : Call → View → ℕ → Take → Type 0
PlannedTake c v old d =
    (w : World) → Granted c w.state w.words → (uses (command_of c.op)).deadline ≡ false → Views c.process w.state v
    → ((uses (command_of c.op)).second ≡ true → old ≡ old_word c w) → Planned c w (TakePlan d)

-- What the functions of this crate compute on the way.

-- whom the rules release and move
pub record Takes-of (c : Call) (w : World) (r : Takes) : Type 0 where
  pub released : take r.released r.taken ≡ released (command_of c.op) c w.state
      ++ cond ((uses (command_of c.op)).second && not (uses (command_of c.op)).moves) (released_second (command_of c.op) c w) []
  pub moved : take r.moved (drop r.released r.taken) ≡ cond (uses (command_of c.op)).moves (moved (command_of c.op) c w.state) []

-- whatever tables have the view
pub record TakesFor (c : Call) (v : View) (holds : Bool) (r : Takes) : Type 0 where
  pub few : r.released + r.moved ≤ threads_per_process
  pub takes : (w : World) → tables_ok w.state ≡ true → Views c.process w.state v
      → ((uses (command_of c.op)).second ≡ true → (uses (command_of c.op)).moves ≡ false → compares c.val3 (old_word c w) ≡ holds) → Takes-of c w r
