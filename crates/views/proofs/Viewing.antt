-- A view that is read: its columns have what the records r of a process's threads say, and where each stands in the arrival list.
use mathlib.Core.Path.{◌≡◌, ap, ◌∙◌}
use mathlib.Core.Bool.{true, not}
use mathlib.Core.List.{List}
use Prim.Native.Nat.{ℕ, ◌<◌}
use native.Mathlib.Omega.{arith}
use lib.ListN.{get_or}
use lib.Dec.{eqb}
use borrow.Author.Tests.{ne_eqb}
use Rattle.lists.specs.Lists.{elem}
use Rattle.lists.proofs.Tests.{cases}
use Rattle.lists.proofs.Occurs.{occurs_distinct}
use Rattle.arrivals.proofs.Places.{place_absent, place_first, place_most, rising_places}
use Rattle.tables.specs.declared.State.{State}
use Rattle.tables.specs.declared.Thread.{Thread}
use Rattle.tables.specs.Sizes.{processes, threads_per_process, threads}
use Rattle.tables.specs.Tables.{thread_number, thread_of, arrivals, tables_ok}
use Rattle.tables.specs.Steps.{place_of, Places}
use Rattle.tables.proofs.Sound.{Sound, tables_sound, once, listed_waiting, arrivals_fit}
use Rattle.views.specs.Views.{Views, Small}
use Rattle.views.proofs.Ordering.{views_places, views_small}

-- a thread that has a place is one of the list
has_place : (t : ℕ) (l : List ℕ) → not (eqb (place_of t l) 0) ≡ elem t l
has_place t l = cases (elem t l)
    (λ e. rw (e, ne_eqb (place_of t l) 0 (λ z. omega (arith, place_first t l e))))
    (λ e. rw (e, place_absent t l e))

-- The threads of process p are read.
module _ (r : ℕ → Thread) (place : List ℕ) (p : ℕ) where
  abbrev Column : List ℕ → (ℕ → ℕ) → Type 0
  Column l f = (j : ℕ) → j < threads_per_process → get_or l j 0 ≡ f (thread_number p j)

  pub record Viewing (at uaddr bitset priority : List ℕ) : Type 0 where
    pub places : Column at (λ t. get_or place t 0)
    pub addresses : Column uaddr (λ t. (r t).uaddr)
    pub masks : Column bitset (λ t. (r t).bitset)
    pub priorities : Column priority (λ t. (r t).priority)

  pub viewing_all : (s : State) → Sound s → ((t : ℕ) → t < threads → r t ≡ thread_of s t) → p < processes → Places place (arrivals s)
      → (at uaddr bitset priority : List ℕ) → Viewing at uaddr bitset priority
      → Views p s (record { place = at; uaddr = uaddr; bitset = bitset; priority = priority })
  viewing_all s sound same own is at uaddr bitset priority g =
      record {
        asleep = λ j l. ap (λ k. not (eqb k 0)) (stands j l) ∙ has_place (thread_number p j) (arrivals s) ∙ listed_waiting s sound (thread_number p j);
        few = λ j l. omega (arith, stands j l, place_most (thread_number p j) (arrivals s), arrivals_fit s sound);
        rising = views_places p s (record { place = at; uaddr = uaddr; bitset = bitset; priority = priority }) (λ t. place_of t (arrivals s)) stands
            (rising_places (arrivals s) (occurs_distinct (arrivals s) (once s sound)));
        addresses = λ j l. g.addresses j l ∙ ap (λ (x : Thread). x.uaddr) (same (thread_number p j) (low j l));
        masks = λ j l. g.masks j l ∙ ap (λ (x : Thread). x.bitset) (same (thread_number p j) (low j l));
        priorities = λ j l. g.priorities j l ∙ ap (λ (x : Thread). x.priority) (same (thread_number p j) (low j l));
      }
    where
      low : (j : ℕ) → j < threads_per_process → thread_number p j < threads
      low j l = omega arith

      stands : (j : ℕ) → j < threads_per_process → get_or at j 0 ≡ place_of (thread_number p j) (arrivals s)
      stands j l = g.places j l ∙ is (thread_number p j) (low j l)

  -- and its numbers are small
  pub viewing_small : (s : State) → tables_ok s ≡ true → ((t : ℕ) → t < threads → r t ≡ thread_of s t) → p < processes → Places place (arrivals s)
      → (at uaddr bitset priority : List ℕ) → Viewing at uaddr bitset priority
      → Small (record { place = at; uaddr = uaddr; bitset = bitset; priority = priority })
  viewing_small s ok same own is at uaddr bitset priority g =
      views_small p s (record { place = at; uaddr = uaddr; bitset = bitset; priority = priority }) ok
      (viewing_all s (tables_sound s ok) same own is at uaddr bitset priority g)
