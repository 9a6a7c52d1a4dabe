-- What a call that was not refused has shown.
use Rattle.std.specs.Prelude.{◌≡◌, true, false, List, ℕ, ◌<◌, length}
use Rattle.tables.specs.declared.State.{State}
use Rattle.rules.specs.declared.event.Call.{Call}
use Rattle.tables.specs.Sizes.{processes, threads_per_process, bytes_per_process, memory_words}
use Rattle.tables.specs.Tables.{thread_of, tables_ok}
use Rattle.rules.specs.Commands.{command_of, is_unknown, uses}
use Rattle.rules.specs.Calls.{caller}

-- of itself and of the tables
pub record Ready (c : Call) (s : State) : Type 0 where
  pub tables : tables_ok s ≡ true
  pub process : c.process < processes
  pub index : c.index < threads_per_process
  pub runs : (thread_of s (caller c)).waiting ≡ false

pub record Granted (c : Call) (s : State) (words : List ℕ) : Type 0 where
  pub ready : Ready c s
  pub known : is_unknown (command_of c.op) ≡ false
  pub memory : length words ≡ memory_words
  pub second : (uses (command_of c.op)).second ≡ true → c.uaddr2 < bytes_per_process
