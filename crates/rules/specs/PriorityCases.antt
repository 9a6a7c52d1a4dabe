-- Cases of requests (vi) and (vii), each run from the fresh state over zero words, in a table each. proofs/Theorems.antt has their statements,
-- `priorities_of_cases` and `orders_of_cases`.
use Rattle.std.specs.Prelude.{cond, List, [], ◌∷◌, ◌++◌, map, ℕ, suc, replicate, ℤ, eqb}
use Rattle.tables.specs.declared.Thread.{Thread}
use Rattle.rules.specs.declared.event.Event.{Event}
use Rattle.rules.specs.declared.event.Event.TheVariants.{Clock, Interrupt, SetPriority}
use Rattle.tables.specs.Sizes.{memory_words}
use Rattle.tables.specs.Tables.{thread_of, arrivals}
use Rattle.rules.specs.Answers.{Outcome, answer_numbers}
use Rattle.rules.specs.Events.{step}
use Rattle.rules.specs.Before.{step_by_arrival}
use Rattle.rules.specs.History.{start, final}
use Rattle.rules.specs.Cases.{address, other, wait_for, wait_until, wait_mask, by_waker, asleep, number, minus, told}

-- a thread's number, and its priority
pub record Ranked : Type 0 where
  pub number : ℕ
  pub priority : ℕ

abbrev rank : ℕ → ℕ → Ranked
rank t n = record { number = t; priority = n }

-- What happens; then the answers, and each thread whose priority is not 0.
pub record Prioritised : Type 0 where
  pub happens : List Event
  pub answers : List (List ℤ)
  pub priorities : List Ranked

abbrev line : List Event → List (List ℤ) → List Ranked → Prioritised
line events numbers ranks = record { happens = events; answers = numbers; priorities = ranks }

abbrev pub prioritised : List Prioritised
prioritised =
    -- "0 at the start"
    line (wait_for 0 address 0 ∷ []) (asleep ∷ []) []
    -- "0 to 31": the last that is set stands, 0 too; what is above 31 is refused and sets nothing
    ∷ line (SetPriority 0 3 31 ∷ SetPriority 0 2 1 ∷ SetPriority 0 3 30 ∷ SetPriority 1 0 7 ∷ SetPriority 1 0 0 ∷ SetPriority 0 2 32 ∷ SetPriority 0 1 255 ∷ [])
    (number 0 ∷ number 0 ∷ number 0 ∷ number 0 ∷ number 0 ∷ minus 22 ∷ minus 22 ∷ []) (rank 2 1 ∷ rank 3 30 ∷ [])
    -- "It is allowed for a sleeper"; and whatever becomes of the sleep, the priority is kept: woken, moved,
    ∷ line (SetPriority 0 0 5 ∷ wait_for 0 address 0 ∷ wait_for 1 address 0 ∷ SetPriority 0 1 6 ∷ by_waker 4 address 1 1 other 0 ∷ [])
    (number 0 ∷ asleep ∷ asleep ∷ number 0 ∷ number 2 ∷ []) (rank 0 5 ∷ rank 1 6 ∷ [])
    -- timed out, interrupted
    ∷ line (SetPriority 0 2 7 ∷ wait_until 2 0 10 ∷ wait_for 3 address 0 ∷ SetPriority 0 3 8 ∷ Clock 10 ∷ Interrupt 0 3 ∷ [])
    (number 0 ∷ asleep ∷ asleep ∷ number 0 ∷ number 1 ∷ number 1 ∷ []) (rank 2 7 ∷ rank 3 8 ∷ [])
    ∷ []

-- what the rules give: of the records from number t on, those whose priority is not 0
abbrev pub ranked_from : ℕ → List Thread → List Ranked
ranked_from t [] = []
ranked_from t (r ∷ rs) = cond (eqb r.priority 0) [] (rank t r.priority ∷ []) ++ ranked_from (suc t) rs

abbrev pub prioritised_as : Prioritised → Prioritised
prioritised_as r =
    let w = start (replicate memory_words 0) in
    line r.happens (told r.happens w) (ranked_from 0 (final r.happens w).state.threads)

-- Request (vii): threads are asleep and have priorities; a call; then its answer and who sleeps on, in list order, with the address, by the rules now and
-- by those before.
pub record Choice : Type 0 where
  pub happens : List Event
  pub call : Event
  pub now : List ℤ × List (ℕ × ℕ)
  pub before : List ℤ × List (ℕ × ℕ)

abbrev choice : List Event → Event → List ℤ × List (ℕ × ℕ) → List ℤ × List (ℕ × ℕ) → Choice
choice events call now before = record { happens = events; call = call; now = now; before = before }

-- thread i sleeps at a, with the priority n
abbrev ranks : ℕ → ℕ → ℕ → List Event
ranks i a n = wait_for i a 0 ∷ SetPriority 0 i n ∷ []

abbrev four : List Event
four = ranks 0 address 1 ++ ranks 1 address 3 ++ ranks 2 address 2 ++ ranks 3 address 3

abbrev pub choices : List Choice
choices =
    -- WAKE of 1 passes the first over for a higher one, and of two that are equal takes the first
    choice (ranks 0 address 1 ++ ranks 1 address 5 ++ ranks 2 address 5) (by_waker 1 address 1 0 0 0)
    (number 1, (0, address) ∷ (2, address) ∷ []) (number 1, (1, address) ∷ (2, address) ∷ [])
    -- "in any tables whose priorities are all equal .. as before"
    ∷ choice (ranks 0 address 5 ++ ranks 1 address 5) (by_waker 1 address 1 0 0 0)
    (number 1, (1, address) ∷ []) (number 1, (1, address) ∷ [])
    -- WAKE_BITSET: among those whose mask shares a bit, though another has the highest priority
    ∷ choice (wait_mask 0 1 ∷ wait_mask 1 2 ∷ wait_mask 2 3 ∷ SetPriority 0 0 31 ∷ SetPriority 0 1 1 ∷ SetPriority 0 2 2 ∷ []) (by_waker 10 address 1 0 0 2)
    (number 1, (0, address) ∷ (1, address) ∷ []) (number 1, (0, address) ∷ (2, address) ∷ [])
    -- CMP_REQUEUE: "Requeued threads join the list's end in the order in which they were taken."
    ∷ choice four (by_waker 4 address 1 2 other 0)
    (number 3, (0, address) ∷ (3, other) ∷ (2, other) ∷ []) (number 3, (3, address) ∷ (1, other) ∷ (2, other) ∷ [])
    -- REQUEUE
    ∷ choice four (by_waker 3 address 2 1 other 0)
    (number 2, (0, address) ∷ (2, other) ∷ []) (number 2, (3, address) ∷ (2, other) ∷ [])
    -- WAKE_OP: at its first word and at its second,
    ∷ choice (ranks 0 address 0 ++ ranks 1 address 1 ++ ranks 2 other 0 ++ ranks 3 other 1) (by_waker 5 other 1 1 address 0)
    (number 2, (0, address) ∷ (2, other) ∷ []) (number 2, (1, address) ∷ (3, other) ∷ [])
    -- which may be one
    ∷ choice four (by_waker 5 address 1 1 address 0)
    (number 2, (0, address) ∷ (2, address) ∷ []) (number 2, (2, address) ∷ (3, address) ∷ [])
    ∷ []

-- what a call is answered, and who sleeps on
abbrev pub sleep_on : Outcome → List ℤ × List (ℕ × ℕ)
sleep_on o = (answer_numbers o.answer, map (λ t. (t, (thread_of o.world.state t).uaddr)) (arrivals o.world.state))

abbrev pub chosen_as : Choice → Choice
chosen_as r =
    let w = final r.happens (start (replicate memory_words 0)) in
    choice r.happens r.call (sleep_on (step r.call w)) (sleep_on (step_by_arrival r.call w))
