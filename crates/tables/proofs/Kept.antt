-- Every change of the tables keeps the table rules.
use mathlib.Core.Path.{◌≡◌, refl, ap, ◌∙◌}
use mathlib.Core.Bool.{Bool, true, false, not, ◌&&◌}
use mathlib.Core.List.{List, [], ◌∷◌, ◌++◌}
use Prim.Native.Nat.{ℕ, ◌≤◌, ◌<◌}
use native.Mathlib.Omega.{arith}
use lib.ListN.{length, get_or-eq_default}
use lib.Dec.{eqb, leb, ltb}
use borrow.Author.Tests.{leb-false, le-leb, ltb-true, ltb-false, lt-ltb}
use Rattle.lists.specs.Lists.{filter, elem, without, bit}
use Rattle.lists.proofs.Tests.{cases, and_intro, and_left, and_right, or_left, bit_le, eqb_refl}
use Rattle.lists.proofs.Occurs.{occurs, elem_one, elem_occurs, absent_occurs, occurs_append, occurs_filter, occurs_without, occurs_taken_out}
use Rattle.tables.specs.declared.State.{State}
use Rattle.tables.specs.declared.Thread.{Thread}
use Rattle.tables.specs.declared.LastAnswer.{LastAnswer}
use Rattle.tables.specs.declared.LastAnswer.TheVariants.{TimedOut}
use Rattle.tables.specs.Sizes.{bytes_per_process, max_priority}
use Rattle.tables.specs.Editions.{Edition, threads_in}
use Rattle.tables.specs.Tables.{fresh_thread, thread_of, arrivals, aligned, outside, expired, expired_sleepers, deadline_ok, waiting_ok, sleep_ok, priority_ok, record_ok, change, ended, moved_to, with_priority, with_arrivals, with_threads, with_clock, end_in, move_in, sleep_in, set_priority}
use Rattle.tables.proofs.Changes.{length_change, change_other, change_named}
use Rattle.tables.proofs.Sound.{SoundIn, beyond, waiting_below, part_waits, fresh_ok, ended_ok, sleep_kept, priority_kept, sound_with}

-- the records of ts changed by f, and a new arrival list
unfoldable altered : Edition → (Thread → Thread) → List ℕ → List ℕ → State → State
altered ed f ts l s = with_arrivals ed l (with_threads (change f ts s.threads) s)

-- The rules are kept where the changed records keep them and the list has the waiting threads.
module _ (ed : Edition) (f : Thread → Thread) (ts l : List ℕ) (s : State) (size : length s.threads ≡ threads_in ed) where
  altered_record : (P : Thread → Type 0) (t : ℕ) → (elem t ts ≡ true → threads_in ed ≤ t → P fresh_thread)
      → (elem t ts ≡ true → P (f (thread_of s t))) → (elem t ts ≡ false → P (thread_of s t)) → P (thread_of (altered ed f ts l s) t)
  unfolding altered
  altered_record P t beyond named other = cases (elem t ts)
      (λ e. cases (ltb t (threads_in ed))
      (λ h. rw (change_named f ts s.threads t fresh_thread e (let k = ltb-true t (threads_in ed) h in omega arith)) (named e))
      (λ h. let out = ltb-false t (threads_in ed) h in
      rw (get_or-eq_default (change f ts s.threads) fresh_thread {n = t} (omega (arith, length_change f ts s.threads))) (beyond e out)))
      (λ e. rw (change_other f ts s.threads t fresh_thread e) (other e))

  sound_altered : ((t : ℕ) → elem t ts ≡ true → record_ok s.clock (f (thread_of s t)) ≡ true)
      → ((t : ℕ) → elem t ts ≡ false → record_ok s.clock (thread_of s t) ≡ true)
      → ((t : ℕ) → occurs t l ≡ bit (thread_of (altered ed f ts l s) t).waiting)
      → SoundIn ed (altered ed f ts l s)
  unfolding altered
  sound_altered named other exact =
      sound_with ed l (with_threads (change f ts s.threads) s) (length_change f ts s.threads ∙ size)
      (λ t. altered_record (λ r. record_ok s.clock r ≡ true) t (λ e h. fresh_ok s.clock) (named t) (other t)) exact

-- sleeps that end
sound_end : (ed : Edition) (a : LastAnswer) (ts : List ℕ) (s : State) → length s.threads ≡ threads_in ed
    → ((t : ℕ) → priority_ok (thread_of s t) ≡ true)
    → ((t : ℕ) → elem t ts ≡ false → record_ok s.clock (thread_of s t) ≡ true)
    → ((t : ℕ) → occurs t (arrivals s) ≡ bit (thread_of s t).waiting)
    → SoundIn ed (end_in ed a ts s)
unfolding end_in altered
sound_end ed a ts s size low other exact =
    sound_altered ed (ended a) ts (without ts (arrivals s)) s size (λ t e. ended_ok s.clock a (thread_of s t) (low t)) other
    (λ t. altered_record ed (ended a) ts (without ts (arrivals s)) s size (λ r. occurs t (without ts (arrivals s)) ≡ bit r.waiting) t
    (λ e h. occurs_taken_out t ts (arrivals s) e)
    (λ e. occurs_taken_out t ts (arrivals s) e)
    (λ e. occurs_without t ts (arrivals s) e ∙ exact t))

pub ending : {ed : Edition} (a : LastAnswer) (ts : List ℕ) (s : State) → SoundIn ed s → SoundIn ed (end_in ed a ts s)
ending {ed} a ts s g = sound_end ed a ts s g.records (priority_kept s g) (λ t e. g.kept t) g.exact

-- sleeps that move
waiting_ok_lem : (now : ℕ) (r : Thread) → sleep_ok now r ≡ true → r.waiting ≡ true → waiting_ok now r ≡ true
waiting_ok_lem now r ok on = rw on at ok

pub below_ok : (a : ℕ) → outside a ≡ false → ltb a bytes_per_process ≡ true
below_ok a h = lt-ltb a bytes_per_process (leb-false bytes_per_process a h)

moved_ok : (a now : ℕ) (r : Thread) → aligned a ≡ true → outside a ≡ false → sleep_ok now r ≡ true → r.waiting ≡ true
    → sleep_ok now (moved_to a r) ≡ true
moved_ok a now r al near ok on =
    let w = waiting_ok_lem now r ok on in
    let m = and_left (aligned r.uaddr && ltb r.uaddr bytes_per_process && not (eqb r.bitset 0)) (deadline_ok now r) w in
    rw on
    (and_intro
    (and_intro (and_intro al (below_ok a near)) (and_right (aligned r.uaddr && ltb r.uaddr bytes_per_process) (not (eqb r.bitset 0)) m))
    (and_right (aligned r.uaddr && ltb r.uaddr bytes_per_process && not (eqb r.bitset 0)) (deadline_ok now r) w))

pub sound_move : {ed : Edition} (a : ℕ) (ts : List ℕ) (s : State) → aligned a ≡ true → outside a ≡ false
    → ((t : ℕ) → occurs t ts ≤ occurs t (arrivals s)) → SoundIn ed s → SoundIn ed (move_in ed a ts s)
unfolding move_in altered record_ok
sound_move {ed} a ts s al near sub g =
    sound_altered ed (moved_to a) ts (without ts (arrivals s) ++ ts) s g.records
    (λ t e. and_intro (moved_ok a s.clock (thread_of s t) al near (sleep_kept s g t) (part_waits s g ts sub t e)) (priority_kept s g t))
    (λ t e. g.kept t)
    (λ t. altered_record ed (moved_to a) ts (without ts (arrivals s) ++ ts) s g.records (λ r. occurs t (without ts (arrivals s) ++ ts) ≡ bit r.waiting) t
    (λ e h. absurd (let k = waiting_below s g t (part_waits s g ts sub t e) in omega arith))
    (λ e. occurs_append t (without ts (arrivals s)) ts
    ∙ omega (arith, occurs_taken_out t ts (arrivals s) e, elem_occurs t ts e, sub t, g.exact t, bit_le (thread_of s t).waiting))
    (λ e. occurs_append t (without ts (arrivals s)) ts
    ∙ omega (arith, occurs_without t ts (arrivals s) e, absent_occurs t ts e, g.exact t)))

-- a thread that falls asleep
pub sound_sleep : {ed : Edition} (f : Thread → Thread) (t : ℕ) (s : State) → t < threads_in ed → (thread_of s t).waiting ≡ false
    → (f (thread_of s t)).waiting ≡ true → record_ok s.clock (f (thread_of s t)) ≡ true → SoundIn ed s → SoundIn ed (sleep_in ed f t s)
unfolding sleep_in altered
sound_sleep {ed} f t s low off on ok g =
    sound_altered ed f (t ∷ []) (arrivals s ++ (t ∷ [])) s g.records
    (λ u e. rw (elem_one u t e) ok)
    (λ u e. g.kept u)
    (λ u. altered_record ed f (t ∷ []) (arrivals s ++ (t ∷ [])) s g.records (λ r. occurs u (arrivals s ++ (t ∷ [])) ≡ bit r.waiting) u
    (λ e h. absurd (let k = elem_one u t e in omega arith))
    (λ e. rw (elem_one u t e) (occurs_append t (arrivals s) (t ∷ []) ∙ rw on (omega (arith, g.exact t, ap bit off, ap bit (eqb_refl t)))))
    (λ e. occurs_append u (arrivals s) (t ∷ []) ∙ omega (arith, g.exact u, ap bit (or_left (eqb u t) false e))))

-- what the clock does not end keeps its rule at the new time
late_ok : (now then : ℕ) (r : Thread) → sleep_ok then r ≡ true → expired now r ≡ false → sleep_ok now r ≡ true
late_ok now then r ok x = cases r.waiting
    (λ on.
    let w = waiting_ok_lem then r ok on in
    let front = aligned r.uaddr && ltb r.uaddr bytes_per_process && not (eqb r.bitset 0) in
    rw on (and_intro (and_left front (deadline_ok then r) w) (ahead r.timed refl on (and_right front (deadline_ok then r) w))))
    (λ off. rw off (rw off at ok))
  where
    ahead : (b : Bool) → r.timed ≡ b → r.waiting ≡ true → deadline_ok then r ≡ true → deadline_ok now r ≡ true
    ahead true e on d = rw e (lt-ltb now r.deadline (leb-false r.deadline now (cc)))
    ahead false e on d = rw e (rw e at d)

pub sound_clock : {ed : Edition} (now : ℕ) (s : State) → SoundIn ed s → SoundIn ed (end_in ed TimedOut (expired_sleepers now s) (with_clock now s))
unfolding expired_sleepers record_ok
sound_clock {ed} now s g = sound_end ed TimedOut (expired_sleepers now s) (with_clock now s) g.records (priority_kept s g)
    (λ t e. and_intro (late_ok now s.clock (thread_of s t) (sleep_kept s g t) (cases (expired now (thread_of s t))
    (λ x. absurd (omega (
      arith,
      occurs_filter (λ u. expired now (thread_of s u)) t (arrivals s) x,
      absent_occurs t (filter (λ u. expired now (thread_of s u)) (arrivals s)) e,
      g.exact t,
      ap bit (and_left (thread_of s t).waiting (thread_of s t).timed (and_left ((thread_of s t).waiting && (thread_of s t).timed) (leb (thread_of s t).deadline now) x)),
    )))
    (λ x. x))) (priority_kept s g t))
    g.exact

-- a priority that is set
priority_ok_lem : (n now : ℕ) (r : Thread) → n ≤ max_priority → record_ok now r ≡ true → record_ok now (with_priority n r) ≡ true
unfolding record_ok
priority_ok_lem n now r low ok = and_intro (and_left (sleep_ok now r) (priority_ok r) ok) (le-leb n max_priority low)

pub sound_priority : {ed : Edition} (n t : ℕ) (s : State) → n ≤ max_priority → SoundIn ed s → SoundIn ed (set_priority n t s)
unfolding set_priority altered
sound_priority {ed} n t s low g =
    let changed = altered_record ed (with_priority n) (t ∷ []) (arrivals s) s g.records in
    record {
      records = length_change (with_priority n) (t ∷ []) s.threads ∙ g.records;
      stored = g.stored;
      counted = g.counted;
      kept = λ u. changed (λ r. record_ok s.clock r ≡ true) u
          (λ e h. fresh_ok s.clock) (λ e. priority_ok_lem n s.clock (thread_of s u) low (g.kept u)) (λ e. g.kept u);
      exact = λ u. changed (λ r. occurs u (arrivals s) ≡ bit r.waiting) u
          (λ e h. g.exact u ∙ ap (λ (r : Thread). bit r.waiting) (beyond ed s g.records u h)) (λ e. g.exact u) (λ e. g.exact u);
    }
