use Rattle.rules.specs.Claims.{Clear}
-- A call that is not refused.
use mathlib.Core.List.{List}
use Prim.Native.Nat.{ℕ}
use borrow.Author.Tests.{leb-false}
use Rattle.tables.specs.declared.State.{State}
use Rattle.rules.specs.declared.event.Call.{Call}
use Rattle.rules.specs.declared.event.Event.TheVariants.{Call as CallEvent}
use Rattle.tables.specs.Sizes.{bytes_per_process}
use Rattle.rules.specs.Commands.{command_of}
use Rattle.rules.specs.Events.{refusals}
use Rattle.tables.specs.Tables.{world}
use Rattle.plans.specs.Ready.{Granted}
use Rattle.tables.proofs.Sound.{sound_tables}
use Rattle.rules.proofs.Passed.{clear_passed, uaddr2_inside}

-- what a call that is not refused hands on
pub granted : (c : Call) (s : State) (ws : List ℕ) → Clear (refusals (CallEvent c) (world s ws)) → Granted c s ws
unfolding refusals
granted c s ws h =
    let p = clear_passed c (world s ws) h in
    record {
      ready = record {
        tables = sound_tables s p.sound;
        process = p.process;
        index = p.index;
        runs = p.runs;
      };
      known = p.known;
      memory = p.memory;
      second = λ e. leb-false bytes_per_process c.uaddr2 (uaddr2_inside (command_of c.op) c p.addresses e);
    }
