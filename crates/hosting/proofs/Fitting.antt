-- Every event keeps numbers within their fields.
use mathlib.Core.Path.{◌≡◌, refl, sym, subst}
use mathlib.Core.Bool.{Bool, true, false, cond}
use mathlib.Core.List.{List}
use Prim.Native.Nat.{ℕ, ◌-◌, ◌^◌, ◌<◌}
use native.Mathlib.Omega.{arith}
use lib.ListN.{length, get_or, set}
use lib.Seq.{get_or-set_same, get_or-set_other, set_out}
use lib.Bits.{and_le_l, or_lt, xor_lt}
use lib.Dec.{eqb, leb, ltb}
use lib.Pow.{pow-lt}
use borrow.Author.Tests.{eqb-true, eqb-false, ltb-true, ltb-false}
use Rattle.lists.proofs.Tests.{cases}
use Rattle.tables.specs.declared.Thread.{Thread}
use Rattle.tables.specs.declared.LastAnswer.{LastAnswer}
use Rattle.rules.specs.declared.event.Command.{Command}
use Rattle.rules.specs.declared.event.Call.{Call}
use Rattle.rules.specs.declared.event.Event.{Event}
use Rattle.rules.specs.declared.event.Event.TheVariants.{Call as CallEvent, Store, Clock, Interrupt, Query, SetPriority}
use Rattle.tables.specs.Sizes.{threads, word_bits, word_limit, match_any, word_bytes}
use Rattle.tables.specs.Tables.{World, thread_number, fresh_thread, ended, thread_of, asleep_at, end_in, move_in, sleep_in, set_priority, write_word, word_at}
use Rattle.rules.specs.Commands.{command_of, uses}
use Rattle.rules.specs.Signed.{modulo}
use Rattle.rules.specs.WakeOp.{op_field, op_arg, op_code, operand, operate, new_word}
use Rattle.rules.specs.Calls.{mask_of, timeout_given, deadline_of, wait, wake, requeue, wake_op, call_effect}
use Rattle.rules.specs.Events.{clock_effect, interrupt_effect, effect, step}
use Rattle.rules.specs.Claims.{Fate, stays, sleeps, wakes, moves, times_out, is_interrupted, is_set}
use Rattle.rules.proofs.Commands.{by_command}
use Rattle.rules.proofs.Rows.{step_keeps}
use Rattle.rules.proofs.Signed.{modulo_low}
use Rattle.rules.proofs.Theorems.{fate}
use Rattle.changes.specs.Change.{FitsThread, Fits}
use Rattle.vradomil.specs.Host.{CallFits, EventFits}

-- each word fits
abbrev WordsFit : List ℕ → Type 0
WordsFit ws = (i : ℕ) → get_or ws i 0 < word_limit

-- tables and words as code can hold them
pub record FitsWorld (w : World) : Type 0 where
  pub state : Fits w.state
  pub words : WordsFit w.words

-- a record
pub fresh_thread_fits : FitsThread fresh_thread
fresh_thread_fits = record { uaddr = omega arith; bitset = omega arith; deadline = omega arith }

ended_fits : (a : LastAnswer) (r : Thread) → FitsThread (ended a r)
ended_fits a r = record { uaddr = omega arith; bitset = omega arith; deadline = omega arith }

choose : (b : Bool) (x y n : ℕ) → x < n → y < n → cond b x y < n
choose true x y n h k = h
choose false x y n h k = k

asleep_fits : (c : Call) (w : World) (r : Thread) → CallFits c
    → FitsThread (asleep_at c.uaddr (mask_of (command_of c.op) c) (timeout_given c) (deadline_of (command_of c.op) c w.state.clock) r)
asleep_fits c w r f =
    let k = command_of c.op in
    record {
      uaddr = f.uaddr;
      bitset = choose (uses k).mask c.val3 match_any (256 ^ 4) f.val3 (omega arith);
      deadline = choose (timeout_given c) _ 0 (256 ^ 8) (choose (uses k).mask c.timeout _ (256 ^ 8) f.timeout (omega arith)) (omega arith);
    }

thread_fits : (e : Event) (w : World) (t : ℕ) → EventFits e → t < threads → Fits w.state → FitsThread (thread_of (step e w).world.state t)
thread_fits e w t f low g = by (fate e w t)
  where
    old : FitsThread (thread_of w.state t)
    old = g.records t low

    at : (r : Thread) → thread_of (step e w).world.state t ≡ r → FitsThread r → FitsThread (thread_of (step e w).world.state t)
    at r is h = subst FitsThread (sym is) h

    by : Fate e w t → FitsThread (thread_of (step e w).world.state t)
    by (stays is) = at (thread_of w.state t) is old
    by (sleeps c same who s is) = at _ is (asleep_fits c w (thread_of w.state t) (subst EventFits same f))
    by (wakes c same there is) = at _ is (ended_fits _ (thread_of w.state t))
    by (moves c same there is) = at _ is (record { uaddr = (subst EventFits same f).uaddr2; bitset = old.bitset; deadline = old.deadline })
    by (times_out now same there is) = at _ is (ended_fits _ (thread_of w.state t))
    by (is_interrupted p i same who there is) = at _ is (ended_fits _ (thread_of w.state t))
    by (is_set set) = at _ set.left (record { uaddr = old.uaddr; bitset = old.bitset; deadline = old.deadline })

-- a word
operand_low : (v : ℕ) → operand v < 2 ^ 32
unfolding operand
operand_low v =
    choose (leb 8 (op_field v)) (2 ^ modulo word_bits (op_arg v)) (modulo word_limit (op_arg v)) (2 ^ 32)
    (pow-lt (modulo_low word_bits (op_arg v) (omega arith))) (modulo_low word_limit (op_arg v) (omega arith))

word_low : (v old : ℕ) → old < 2 ^ 32 → new_word v old < 2 ^ 32
unfolding new_word operate
word_low v old h =
    let x = operand_low v in
    choose (eqb (op_code v) 0) _ _ (2 ^ 32) x
    (choose (eqb (op_code v) 1) _ _ (2 ^ 32) (omega arith)
    (choose (eqb (op_code v) 2) _ _ (2 ^ 32) (or_lt 32 old (operand v) h x)
    (choose (eqb (op_code v) 3) _ _ (2 ^ 32) (let u = and_le_l old (match_any - operand v) in omega arith) (xor_lt 32 old (operand v) h x))))

set_fits : (ws : List ℕ) (i v : ℕ) → WordsFit ws → v < 256 ^ word_bytes → WordsFit (set ws i v)
set_fits ws i v f h j = cases (eqb j i)
    (λ e. cases (ltb i (length ws))
    (λ l. rw (eqb-true j i e, get_or-set_same ws i v 0 (ltb-true i (length ws) l)) h)
    (λ l. rw (set_out ws i v (ltb-false i (length ws) l)) (f j)))
    (λ e. rw (get_or-set_other ws i j v 0 (eqb-false j i e)) (f j))

-- the clock and the words that an event leaves
call_clock : (k : Command) (c : Call) (w : World) → (call_effect k c w).world.state.clock ≡ w.state.clock
unfolding wait wake requeue wake_op sleep_in end_in move_in write_word
call_clock k c w = by_command (λ k f. (f c w).world.state.clock ≡ w.state.clock) (λ k i. refl) (λ k. refl) (λ k. refl) refl refl k

call_words : (k : Command) (c : Call) (w : World) → WordsFit w.words → WordsFit (call_effect k c w).world.words
unfolding wait wake requeue wake_op write_word
call_words k c w f =
    by_command (λ k g. WordsFit (g c w).world.words) (λ k i. f) (λ k. f) (λ k. f)
    (set_fits w.words _ _ f (word_low c.val3 (word_at w c.process c.uaddr2) (f _))) f k

effect_clock : (e : Event) (w : World) → EventFits e → w.state.clock < 256 ^ 8 → (effect e w).world.state.clock < 256 ^ 8
unfolding effect write_word clock_effect interrupt_effect end_in set_priority
effect_clock (CallEvent c) w f h = rw (call_clock (command_of c.op) c w) h
effect_clock (Store p a v) w f h = h
effect_clock (Clock now) w f h = f
effect_clock (Interrupt p i) w f h = cases (thread_of w.state (thread_number p i)).waiting (λ e. rw e h) (λ e. rw e h)
effect_clock (Query p) w f h = h
effect_clock (SetPriority p i n) w f h = h

effect_words : (e : Event) (w : World) → EventFits e → WordsFit w.words → WordsFit (effect e w).world.words
unfolding effect write_word clock_effect interrupt_effect
effect_words (CallEvent c) w f h = call_words (command_of c.op) c w h
effect_words (Store p a v) w f h = set_fits w.words _ v h f.2
effect_words (Clock now) w f h = h
effect_words (Interrupt p i) w f h = cases (thread_of w.state (thread_number p i)).waiting (λ e. rw e h) (λ e. rw e h)
effect_words (Query p) w f h = h
effect_words (SetPriority p i n) w f h = h

pub step_fits : (e : Event) (w : World) → EventFits e → FitsWorld w → FitsWorld (step e w).world
step_fits e w f g =
    record {
      state = record {
        clock = step_keeps (λ v. v.state.clock < 256 ^ 8) e w g.state.clock (λ h. effect_clock e w f g.state.clock);
        records = λ t low. thread_fits e w t f low g.state;
      };
      words = step_keeps (λ v. WordsFit v.words) e w g.words (λ h. effect_words e w f g.words);
    }
