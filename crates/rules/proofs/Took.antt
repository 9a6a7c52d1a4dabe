-- What a change did to the sleepers, thread by thread, and how many records it changed.
use mathlib.Core.Path.{◌≡◌, refl, sym, ap, ◌∙◌}
use mathlib.Core.Bool.{true, false}
use mathlib.Core.List.{List, [], ◌++◌, append-nil}
use Prim.Native.Nat.{ℕ, ◌+◌, ◌≤◌, ◌<◌}
use native.Mathlib.Omega.{arith}
use lib.ListN.{length}
use lib.Dec.{eqb}
use Rattle.lists.specs.Lists.{elem, without, count_below}
use Rattle.lists.proofs.Tests.{cases, clash, bit_true, eqb_refl}
use Rattle.lists.proofs.Filter.{filter_true}
use Rattle.lists.proofs.Occurs.{occurs, elem_occurs}
use Rattle.lists.proofs.Count.{length_count, count_below_ext}
use Rattle.tables.specs.declared.State.{State}
use Rattle.tables.specs.declared.LastAnswer.{LastAnswer}
use Rattle.tables.specs.Sizes.{threads}
use Rattle.tables.specs.Editions.{present}
use Rattle.tables.specs.Tables.{fresh_thread, thread_of, arrivals, ended, moved_to, with_clock, end_in, end_sleeps, move_in, move_sleeps}
use Rattle.rules.specs.Claims.{Took, woke, shifted}
use Rattle.tables.proofs.Changes.{length_change, change_other, change_named, arrivals_end, arrivals_move}
use Rattle.tables.proofs.Sound.{Sound, once, none_above}

absent {ℓ} : {P : Type ℓ} → false ≡ true → P
absent e = clash false e refl

without_none : (l : List ℕ) → without [] l ++ [] ≡ l
without_none l = append-nil (without [] l) ∙ filter_true l

pub took_none : (a : LastAnswer) (target : ℕ) (s : State) → Took a [] [] target s s
took_none a target s =
    record {
      ran = λ t e. absent e;
      went = λ t e. absent e;
      stayed = λ t e d. refl;
      order = sym (ap (λ l. without [] l ++ []) (filter_true (arrivals s)) ∙ without_none (arrivals s));
    }

module _ (a : LastAnswer) (out : List ℕ) (s : State) (size : length s.threads ≡ threads) (low : (t : ℕ) → elem t out ≡ true → t < threads) where
  end_ran : (t : ℕ) → elem t out ≡ true → thread_of (end_sleeps a out s) t ≡ ended a (thread_of s t)
  unfolding end_in
  end_ran t e = change_named (ended a) out s.threads t fresh_thread e (let h = low t e in omega arith)

  end_stayed : (t : ℕ) → elem t out ≡ false → thread_of (end_sleeps a out s) t ≡ thread_of s t
  unfolding end_in
  end_stayed t e = change_other (ended a) out s.threads t fresh_thread e

  pub took_end : (target : ℕ) → Took a out [] target s (end_sleeps a out s)
  took_end target =
      record {
        ran = end_ran;
        went = λ t e. absent e;
        stayed = λ t e d. end_stayed t e;
        order = arrivals_end present a out s ∙ sym (without_none (without out (arrivals s)));
      }

  -- some run and others move
  pub took_move : (target : ℕ) (on : List ℕ) → ((t : ℕ) → elem t on ≡ true → t < threads) → ((t : ℕ) → elem t on ≡ true → elem t out ≡ false)
      → Took a out on target s (move_sleeps target on (end_sleeps a out s))
  unfolding move_in
  took_move target on below apart =
      record {
        ran = λ t e. cases (elem t on)
            (λ d. clash (elem t out) e (apart t d))
            (λ d. change_other (moved_to target) on u.threads t fresh_thread d ∙ end_ran t e);
        went = λ t d.
            change_named (moved_to target) on u.threads t fresh_thread d (let h = below t d in omega (arith, sized))
            ∙ ap (moved_to target) (end_stayed t (apart t d));
        stayed = λ t e d. change_other (moved_to target) on u.threads t fresh_thread d ∙ end_stayed t e;
        order = arrivals_move present target on u ∙ ap (λ l. without on l ++ on) (arrivals_end present a out s);
      }
    where
      u : State
      u = end_sleeps a out s

      sized : length (end_sleeps a out s).threads ≡ threads
      sized = unfold end_in in (length_change (ended a) out s.threads ∙ size)

-- the clock is none of a thread's
pub took_clock : {a : LastAnswer} {out on : List ℕ} {target : ℕ} {s u : State} (now : ℕ) → Took a out on target (with_clock now s) u → Took a out on target s u
took_clock now took = record { ran = took.ran; went = took.went; stayed = took.stayed; order = took.order }

-- The lists are as long as there are such records.
module _ (a : LastAnswer) (out on : List ℕ) (target : ℕ) (s u : State) (g : Sound s) (took : Took a out on target s u)
    (listed : (t : ℕ) → occurs t out + occurs t on ≤ occurs t (arrivals s)) (away : (t : ℕ) → elem t on ≡ true → eqb (thread_of s t).uaddr target ≡ false) where
  was_waiting : (t : ℕ) → 1 ≤ occurs t out + occurs t on → (thread_of s t).waiting ≡ true
  was_waiting t h = bit_true (thread_of s t).waiting (omega (arith, listed t, g.exact t))

  out_woke : (t : ℕ) → elem t out ≡ woke s u t
  out_woke t = cases (elem t out)
      (λ e. let b = was_waiting t (omega (arith, elem_occurs t out e)) in rw (e, b, took.ran t e))
      (λ e. cases (elem t on)
      (λ d. let b = was_waiting t (omega (arith, elem_occurs t on d)) in rw (e, took.went t d, b))
      (λ d. rw (e, took.stayed t e d) (cases (thread_of s t).waiting (λ b. rw b) (λ b. rw b))))

  on_shifted : (t : ℕ) → elem t on ≡ shifted s u t
  on_shifted t = cases (elem t on)
      (λ d. let b = was_waiting t (omega (arith, elem_occurs t on d)) in rw (d, took.went t d, b, away t d))
      (λ d. cases (elem t out)
      (λ e. rw (d, took.ran t e) (cases (thread_of s t).waiting (λ b. rw b) (λ b. rw b)))
      (λ e. rw (d, took.stayed t e d, eqb_refl (thread_of s t).uaddr) (cases (thread_of s t).waiting (λ b. rw b) (λ b. rw b))))

  pub count_woke : length out ≡ count_below threads (woke s u)
  count_woke =
      length_count threads out (λ t. omega (arith, listed t, once s g t)) (λ t h. omega (arith, listed t, none_above s g t h))
      ∙ count_below_ext threads (λ t. elem t out) (woke s u) (λ t h. out_woke t)

  pub count_shifted : length on ≡ count_below threads (shifted s u)
  count_shifted =
      length_count threads on (λ t. omega (arith, listed t, once s g t)) (λ t h. omega (arith, listed t, none_above s g t h))
      ∙ count_below_ext threads (λ t. elem t on) (shifted s u) (λ t h. on_shifted t)
