-- A call that no row of the table of answers refuses: what is then known of it.
use mathlib.Core.Path.{◌≡◌, ap}
use mathlib.Core.Bool.{true, false, not, ◌&&◌}
use Prim.Native.Nat.{ℕ, ◌+◌, ◌*◌, ◌≤◌, ◌<◌}
use native.Mathlib.Nat.{mul-le-mul_left}
use native.Mathlib.Omega.{arith}
use lib.ListN.{length}
use lib.Dec.{eqb, leb}
use borrow.Author.Tests.{eqb-true, eq-eqb, leb-false, lt-leb, not-false}
use Rattle.lists.proofs.Tests.{or_left, or_right, or_intro}
use Rattle.rules.specs.declared.event.Command.{Command}
use Rattle.rules.specs.declared.event.Call.{Call}
use Rattle.rules.specs.declared.event.Event.TheVariants.{Call as CallEvent}
use Rattle.tables.specs.Sizes.{processes, threads_per_process, threads, memory_words}
use Rattle.tables.specs.Editions.{Edition, present, threads_in}
use Rattle.tables.specs.Tables.{outside, WorldIn, thread_of, word_at, aligned, tables_in}
use Rattle.rules.specs.Commands.{command_of, not_implemented, is_unknown, bit_set, clock_bit, uses}
use Rattle.rules.specs.WakeOp.{undefined_op}
use Rattle.rules.specs.Calls.{wrong_memory, no_process, no_thread_in, no_thread, caller_in, caller, argument_rows, bad_address, is_wake_op, differs, late, rows_in}
use Rattle.rules.specs.Events.{refusals}
use Rattle.rules.specs.Claims.{Clear}
use Rattle.rules.proofs.Rows.{clear_left, clear_right, clear_both, ◌and◌}
use Rattle.tables.proofs.Sound.{SoundIn, sound_in, sound_tables}

pub record Passed {ed : Edition} (k : Command) (c : Call) (w : WorldIn ed) : Type 0 where
  pub memory : length w.words ≡ memory_words
  pub sound : SoundIn ed w.state
  pub process : c.process < processes
  pub index : c.index < ed.per_process
  pub runs : (thread_of w.state (caller_in ed c)).waiting ≡ false
  pub known : is_unknown k ≡ false
  pub monotonic : eqb (bit_set c.op clock_bit) 1 ≡ false
  pub arguments : Clear (argument_rows k c)
  pub addresses : bad_address k c ≡ false
  pub defined : (is_wake_op k && undefined_op c.val3) ≡ false
  pub equal : differs k c (word_at w c.process c.uaddr) ≡ false
  pub ahead : late k c w.state.clock ≡ false

-- sound memory and tables, and a process and a thread that exist, as the first rows test them
pub memory_is : {ed : Edition} (w : WorldIn ed) → wrong_memory w ≡ false → length w.words ≡ memory_words
memory_is w h = eqb-true (length w.words) memory_words (not-false _ h)

pub memory_right : {ed : Edition} (w : WorldIn ed) → length w.words ≡ memory_words → wrong_memory w ≡ false
memory_right w h = ap not (eq-eqb (length w.words) memory_words h)

pub sound_of : {ed : Edition} (w : WorldIn ed) → not (tables_in ed w.state) ≡ false → SoundIn ed w.state
sound_of {ed} w h = sound_in ed w.state (not-false _ h)

pub sound_right : {ed : Edition} (w : WorldIn ed) → SoundIn ed w.state → not (tables_in ed w.state) ≡ false
sound_right w g = ap not (sound_tables w.state g)

pub process_there : (ed : Edition) (p i : ℕ) → no_thread_in ed p i ≡ false → p < processes
process_there ed p i h = leb-false processes p (or_left (no_process p) (leb ed.per_process i) h)

pub index_there : (ed : Edition) (p i : ℕ) → no_thread_in ed p i ≡ false → i < ed.per_process
index_there ed p i h = leb-false ed.per_process i (or_right (no_process p) (leb ed.per_process i) h)

pub thread_process : (p i : ℕ) → no_thread p i ≡ false → p < processes
thread_process = process_there present

pub thread_index : (p i : ℕ) → no_thread p i ≡ false → i < threads_per_process
thread_index = index_there present

pub clear_passed : {ed : Edition} (c : Call) (w : WorldIn ed) → Clear (refusals (CallEvent c) w) → Passed (command_of c.op) c w
unfolding refusals rows_in not_implemented
clear_passed {ed} c w h =
    let op = h.1.1.1.1.0 in
    let k = command_of c.op in
    let behind = clear_right (argument_rows k c) _ h.1.1.1.1.1 in
    record {
      memory = memory_is w h.0;
      sound = sound_of w h.1.0;
      process = process_there ed c.process c.index h.1.1.0;
      index = index_there ed c.process c.index h.1.1.0;
      runs = h.1.1.1.0;
      known = or_left (is_unknown (command_of c.op)) (eqb (bit_set c.op clock_bit) 1) op;
      monotonic = or_right (is_unknown (command_of c.op)) (eqb (bit_set c.op clock_bit) 1) op;
      arguments = clear_left (argument_rows k c) _ h.1.1.1.1.1;
      addresses = behind.0;
      defined = behind.1.0;
      equal = behind.1.1.0;
      ahead = behind.1.1.1.0;
    }

pub number_below : (n p i : ℕ) → p < processes → i < n → n * p + i < processes * n
number_below n p i h l = let k : p ≤ 7 = omega arith in omega (arith, mul-le-mul_left n k)

pub caller_there : (ed : Edition) (c : Call) → c.process < processes → c.index < ed.per_process → caller_in ed c < threads_in ed
caller_there ed c p i = number_below ed.per_process c.process c.index p i

pub caller_below : (c : Call) → c.process < processes → c.index < threads_per_process → caller c < threads
caller_below = caller_there present

pub passed_clear : {ed : Edition} (c : Call) (w : WorldIn ed) → Passed (command_of c.op) c w → Clear (refusals (CallEvent c) w)
unfolding refusals rows_in not_implemented
passed_clear {ed} c w g =
    memory_right w g.memory
    and sound_right w g.sound
    and or_intro (lt-leb processes c.process g.process) (lt-leb ed.per_process c.index g.index)
    and g.runs
    and or_intro g.known g.monotonic
    and clear_both (argument_rows (command_of c.op) c) _ g.arguments
    (g.addresses
    and g.defined
    and g.equal
    and g.ahead
    and tt)

-- what the argument rules tell
module _ (k : Command) (c : Call) (h : Clear (argument_rows k c)) where
  pub mask_given : (uses k).mask ≡ true → eqb c.val3 0 ≡ false
  unfolding argument_rows
  mask_given e = rw e at h.1.1.0

  pub uaddr_aligned : aligned c.uaddr ≡ true
  unfolding argument_rows
  uaddr_aligned = not-false _ h.1.1.1.0

  pub uaddr2_aligned : (uses k).second ≡ true → aligned c.uaddr2 ≡ true
  unfolding argument_rows
  uaddr2_aligned e = not-false _ (rw e at h.1.1.1.1.0)

  pub addresses_apart : (uses k).moves ≡ true → eqb c.uaddr c.uaddr2 ≡ false
  unfolding argument_rows
  addresses_apart e = rw e at h.1.1.1.1.1.0

-- and the range of the addresses
pub uaddr_inside : (k : Command) (c : Call) → bad_address k c ≡ false → outside c.uaddr ≡ false
unfolding bad_address
uaddr_inside k c h = or_left (outside c.uaddr) ((uses k).second && outside c.uaddr2) h

pub uaddr2_inside : (k : Command) (c : Call) → bad_address k c ≡ false → (uses k).second ≡ true → outside c.uaddr2 ≡ false
unfolding bad_address
uaddr2_inside k c h e = rw e at (or_right (outside c.uaddr) ((uses k).second && outside c.uaddr2) h)
