-- What is proved of whole histories that a host in C runs through the library, by the contracts of its entry points alone. What a run takes for
-- known of one event is `Hosted`, which the functions `pass` and `pass_report` (src/lib.rt) ensure of the code for every event.
use mathlib.Core.Path.{◌≡◌, refl, sym, ap, ◌∙◌, subst₂}
use mathlib.Core.Logic.{◌↔◌}
use mathlib.Core.Bool.{false}
use mathlib.Core.List.{List, [], ◌∷◌, map}
use Prim.Native.Nat.{ℕ, ◌+◌, ◌*◌, ◌<◌}
use lib.IntN.{ℤ, pos, negsuc, neg_ℤ}
use lib.Count.{ones, count_trailing_zeros}
use lib.ListN.{length, take, drop, get_or, replicate}
use lib.Dec.{eqb}
use Rattle.tables.specs.declared.LastAnswer.TheVariants.{NoneYet, Woken, TimedOut, Interrupted}
use Rattle.rules.specs.declared.event.Event.{Event}
use Rattle.rules.specs.declared.event.Event.TheVariants.{Query}
use Rattle.tables.specs.Sizes.{bytes_per_process, memory_words}
use Rattle.tables.specs.Tables.{word_at, fresh}
use Rattle.rules.specs.Answers.{reason_number, reason_of}
use Rattle.rules.specs.Events.{is_query, step}
use Rattle.rules.specs.History.{start, final, answers, kept_for, entries_of}
use Rattle.rules.specs.Claims.{Alike}
use Rattle.rules.proofs.Theorems.{isolation}
use Rattle.lists.specs.Lists.{tabulate}
use Rattle.lists.specs.LittleEndian.{Bytes, number_at}
use Rattle.layout.specs.Layout.{tables_bytes, tables_size, last_of, thread_at, state_at, words_bytes, words_at, memory_size}
use Rattle.vradomil.specs.Host.{seen, host_number, report_size}
use Rattle.vradomil.proofs.Memory.{words_length}
use Rattle.hosting.specs.Hosts.{Hosted, Heard, HostRuns, hears_all, HistoryFits}
use Rattle.hosting.specs.Day.{day, day_heard}
use Rattle.hosting.proofs.Hosting.{shown, refused_stays, below_refused}
use Rattle.hosting.proofs.Heard.{reported, heard_own, same_own}
use Rattle.hosting.proofs.Buffers.{lent, wrong_memory_lem, wrong_tables, wrong_panel, ran}
use Rattle.hosting.proofs.Running.{runs, all_fit, runs_one_way}
use Rattle.hosting.proofs.Starting.{fresh_seen, fresh_low, zeros_lent, zeros_seen}
use Rattle.hosting.proofs.Day.{day_heard_lem}

-- A history can be run, from whatever bytes, exactly if every argument of every event fits its type in C: so the theorems below speak of every
-- history that a host can pass, and of no other.
pub host_runs_exactly : (room : Event → ℕ) (h : List Event) (b m : List ℕ)
    → HistoryFits h ↔ ((hs : List Heard) × (b' : List ℕ) × (m' : List ℕ) × HostRuns room h b m hs b' m')
host_runs_exactly room h b m = (runs room h b m, λ run. all_fit run.3)

-- It runs in one way only: the history, the room for reports and the bytes at its start fix all that is heard and every byte at its end.
pub host_runs_one_way : (room : Event → ℕ) {h : List Event} {b m b1 m1 b2 m2 : List ℕ} {hs ks : List Heard}
    → HostRuns room h b m hs b1 m1 → HostRuns room h b m ks b2 m2 → (hs ≡ ks) × (b1 ≡ b2) × (m1 ≡ m2)
host_runs_one_way room run other = runs_one_way room run other

-- Whatever bytes it starts from, of whatever length, what is heard of every event is the rules' answer, as a number and a report, and the bytes
-- at the end stand for the tables and words that the rules leave.
pub host_run : (room : Event → ℕ) {h : List Event} {b m b' m' : List ℕ} {hs : List Heard} → Bytes b → Bytes m → HostRuns room h b m hs b' m'
    → (hs ≡ hears_all room h (answers h (seen b m))) × (seen b' m' ≡ final h (seen b m))
host_run room {b = b} {m} lb lm run = ran room run (lent b m lb lm)

-- the lengths of the two buffers
pub host_sizes : (tables_size ≡ 1360) × (memory_size ≡ 32768)
host_sizes = (refl, refl)

-- where each field stands in them: docs/TABLES.md, column by column
pub host_columns : (b : List ℕ) (t : ℕ)
    → thread_at b t
    ≡ record {
      waiting = eqb (get_or b (80 + t) 0) 1;
      uaddr = number_at 4 (272 + 4 * t) b;
      bitset = number_at 4 (528 + 4 * t) b;
      timed = eqb (get_or b (144 + t) 0) 1;
      deadline = number_at 8 (784 + 8 * t) b;
      last = last_of (get_or b (208 + t) 0);
      priority = get_or b (1296 + t) 0;
    }
host_columns b t = refl

pub host_state : (b : List ℕ)
    → state_at b ≡ record { clock = number_at 8 0 b; threads = tabulate 64 (thread_at b); list = take 64 (drop 16 b); count = number_at 8 8 b }
unfolding state_at
host_state b = refl

pub host_last : map last_of (0 ∷ 1 ∷ 2 ∷ 3 ∷ []) ≡ NoneYet ∷ Woken ∷ TimedOut ∷ Interrupted ∷ []
host_last = refl

-- "words: 32,768 bytes, .. another length is -6; tables of a wrong length .. are -9, and 0, 0, 8 to a panel query"
pub host_lengths : {e : Event} {b m l b' m' t : List ℕ} {r : ℤ} → Hosted e b m l r b' m' t → ((p : ℕ) → e ≡ Query p → ⊥)
    → ((length m ≡ memory_size → ⊥) → r ≡ neg_ℤ (pos 6)) × (length m ≡ memory_size → (length b ≡ tables_size → ⊥) → r ≡ neg_ℤ (pos 9))
host_lengths h some = (wrong_memory_lem h some, wrong_tables h some)

pub host_query_length : {p : ℕ} {b m l b' m' t : List ℕ} {r : ℤ} → Hosted (Query p) b m l r b' m' t → (length b ≡ tables_size → ⊥) → r ≡ pos 0x080000
unfolding ones count_trailing_zeros
host_query_length {p} {b} {m} h other = h.number ∙ ap host_number (shown p (seen b m)) ∙ ap pos (wrong_panel p b other)

-- A number below 0 says that no byte changed.
pub host_refusal : {e : Event} {b m l b' m' t : List ℕ} {n : ℕ} → Hosted e b m l (negsuc n) b' m' t → (b' ≡ b) × (m' ≡ m)
host_refusal {e} {b} {m} {n = n} h = refused_stays h (below_refused (step e (seen b m)).answer n h.number)

-- The bytes that vradomil_fresh lays down stand for the fresh tables.
pub host_fresh : (m : List ℕ) → Bytes (tables_bytes fresh) × (seen (tables_bytes fresh) m ≡ start (words_at m))
host_fresh m = (fresh_low, fresh_seen m)

-- The report of an event: its first byte is the reason, where the host lent room for it, and no other byte changes.
pub host_report : {e : Event} {b m l b' m' t : List ℕ} {r : ℤ} → Hosted e b m l r b' m' t → is_query e ≡ false
    → (length t ≡ length l) × (0 < length l → get_or t 0 0 ≡ reason_number (reason_of (step e (seen b m)).answer)) × ((i : ℕ) → 0 < i → get_or t i 0 ≡ get_or l i 0)
host_report {e} {b} {m} {l} h some = reported (step e (seen b m)).answer l (h.report ∙ rw some)

-- A day of a display, from fresh tables and words that are all 0, is heard by the papers' numbers (specs/Day.antt).
pub host_day : {hs : List Heard} {b' m' : List ℕ}
    → HostRuns (λ e. report_size) day (tables_bytes fresh) (words_bytes (replicate memory_words 0)) hs b' m' → hs ≡ day_heard
host_day run = (ran (λ e. report_size) run zeros_lent).0 ∙ ap (λ w. hears_all (λ e. report_size) day (answers day w)) zeros_seen ∙ day_heard_lem

-- Take any process and any two histories that a host runs from fresh tables over buffers of full length, with equal words for that process. If
-- equal histories are left when the events that name another process are struck, the process's events got the same numbers and reports in the
-- same order, and its words, records and order of sleepers are the same at the end. Nothing is asked of the events: what no entry point can be
-- passed has no run (host_runs_exactly).
pub host_isolation : (room : Event → ℕ) (p : ℕ) (m n : List ℕ) → length m ≡ memory_size → length n ≡ memory_size → Bytes m → Bytes n
    → ((a : ℕ) → a < bytes_per_process → word_at (start (words_at m)) p a ≡ word_at (start (words_at n)) p a)
    → {g h : List Event} → kept_for p g ≡ kept_for p h
    → {hs ks : List Heard} {b' m' c' n' : List ℕ}
    → HostRuns room g (tables_bytes fresh) m hs b' m' → HostRuns room h (tables_bytes fresh) n ks c' n'
    → (entries_of p g hs ≡ entries_of p h ks) × Alike p (seen b' m') (seen c' n')
host_isolation room p m n sm sn lm ln words {g} {h} e run other =
    let same = isolation p (words_at m) (words_at n) (words_length memory_words m sm) (words_length memory_words n sn) words g h e in
    let one = from_fresh m lm run in
    let two = from_fresh n ln other in (
      ap (entries_of p g) one.0 ∙ heard_own room p g (answers g (start (words_at m)))
          ∙ (λ j. hears_all room (same_own p g h e j) (same.0 j))
          ∙ sym (ap (entries_of p h) two.0 ∙ heard_own room p h (answers h (start (words_at n)))),
      subst₂ (Alike p) (sym one.1) (sym two.1) same.1,
    )
  where
    from_fresh : (u : List ℕ) → Bytes u → {k : List Event} {ts : List Heard} {d u' : List ℕ} → HostRuns room k (tables_bytes fresh) u ts d u'
        → (ts ≡ hears_all room k (answers k (start (words_at u)))) × (seen d u' ≡ final k (start (words_at u)))
    from_fresh u low {k} went =
        let all = host_run room fresh_low low went in
        (all.0 ∙ ap (λ w. hears_all room k (answers k w)) (fresh_seen u), all.1 ∙ ap (final k) (fresh_seen u))
