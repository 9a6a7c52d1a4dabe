-- Demand 3 of the code: it holds of every run of `event::apply`, by that function's contract alone.
use mathlib.Core.Path.{◌≡◌, refl, sym, ap, ◌∙◌, subst₂}
use mathlib.Core.List.{List, [], ◌∷◌}
use mathlib.Core.Logic.{◌↔◌}
use Prim.Native.Nat.{ℕ, ◌<◌}
use lib.ListN.{length}
use Rattle.tables.specs.declared.State.{State}
use Rattle.rules.specs.declared.event.Event.{Event}
use Rattle.rules.specs.declared.answer.Answer.{Answer}
use Rattle.rules.specs.declared.answer.Answered.{Answered}
use Rattle.tables.specs.Sizes.{bytes_per_process, memory_words}
use Rattle.tables.specs.Tables.{World, world, word_at, fresh}
use Rattle.rules.specs.Answers.{answered}
use Rattle.rules.specs.Events.{step}
use Rattle.rules.specs.History.{start, final, answers, kept_for, entries_of}
use Rattle.rules.specs.Claims.{Alike}
use Rattle.kernel.specs.Follows.{Follows}
use Rattle.kernel.specs.Runs.{Runs, over, next}
use Rattle.rules.proofs.Theorems.{isolation}
use Rattle.kernel.proofs.Steps.{follows}

-- one event of the code leaves the world that the rules say
left : {e : Event} {s : State} {ws after : List ℕ} {r : Answered} → Follows e s ws r after → (step e (world s ws)).world ≡ world r.state after
left {r = r} h =
    let state = ap (λ (a : Answered). a.state) h.result in
    λ i. record { state = sym state i; words = sym h.words i }

-- A run leaves what the rules say of its history,
pub run_leaves : {h : List Event} {s t : State} {ws us : List ℕ} {as' : List Answer} → Runs h s ws as' t us → final h (world s ws) ≡ world t us
run_leaves over = refl
run_leaves (next {es = es} f run) = ap (final es) (left f) ∙ run_leaves run

-- and answers each of its events what the rules answer.
pub run_answers : {h : List Event} {s t : State} {ws us : List ℕ} {as' : List Answer} → Runs h s ws as' t us → as' ≡ answers h (world s ws)
run_answers over = refl
run_answers (next {es = es} f run) =
    let first = ap (λ (a : Answered). a.answer) f.result in
    let rest = run_answers run ∙ sym (ap (answers es) (left f)) in
    λ i. first i ∷ rest i

-- the run of a history, from any tables and words
the_run : (h : List Event) (s : State) (ws : List ℕ)
    → Runs h s ws (answers h (world s ws)) (final h (world s ws)).state (final h (world s ws)).words
the_run [] s ws = over
the_run (e ∷ es) s ws =
    let w = (step e (world s ws)).world in
    next (follows e s ws (answered (step e (world s ws))) w.words refl refl) (the_run es w.state w.words)

-- There is a run of every history from any tables and words, and it is the only one: its answers, tables and words are the rules'.
pub runs_exactly : (h : List Event) (s t : State) (ws us : List ℕ) (as' : List Answer)
    → Runs h s ws as' t us ↔ ((as' ≡ answers h (world s ws)) × (final h (world s ws) ≡ world t us))
runs_exactly h s t ws us as' = (
  (λ run. (run_answers run, run_leaves run)),
  (λ is. subst₂ (λ as' (w : World). Runs h s ws as' w.state w.words) (sym is.0) is.1 (the_run h s ws)),
)

-- Demand 3: take any process and any two runs from the fresh state over full-length memory with equal words for that process. If
-- equal histories are left when the events that name another process are struck, the process's events got the same answers in the
-- same order, and its words, records and order of sleepers are the same at the end.
pub code_isolation : (p : ℕ) (us vs : List ℕ) → length us ≡ memory_words → length vs ≡ memory_words
    → ((a : ℕ) → a < bytes_per_process → word_at (start us) p a ≡ word_at (start vs) p a)
    → {g h : List Event} → kept_for p g ≡ kept_for p h
    → {as' bs : List Answer} {s t : State} {ws xs : List ℕ} → Runs g fresh us as' s ws → Runs h fresh vs bs t xs
    → (entries_of p g as' ≡ entries_of p h bs) × Alike p (world s ws) (world t xs)
code_isolation p us vs lu lv words {g} {h} e run other =
    let same = isolation p us vs lu lv words g h e in (
      ap (entries_of p g) (run_answers run) ∙ same.0 ∙ sym (ap (entries_of p h) (run_answers other)),
      subst₂ (Alike p) (run_leaves run) (run_leaves other) same.1,
    )
