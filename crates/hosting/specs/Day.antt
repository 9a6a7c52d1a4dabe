-- A short day of a display, and what a host in C hears of it, by the papers' numbers. proofs/Theorems.antt has its statement, `host_day`.
use Rattle.std.specs.Prelude.{List, [], ◌∷◌, ℕ, ℤ, pos, neg_ℤ}
use Rattle.rules.specs.declared.event.Event.{Event}
use Rattle.rules.specs.declared.event.Event.TheVariants.{Call, Store, Clock, Interrupt, Query, SetPriority}
use Rattle.hosting.specs.Hosts.{Heard}

-- thread (p, i) waits at address 8, where flag says whether a timeout is given, or wakes there
abbrev waits : ℕ → ℕ → ℕ → ℕ → ℕ → Event
waits p i v flag timeout = Call (record { process = p; index = i; op = 0; uaddr = 8; val = v; flag = flag; timeout = timeout; uaddr2 = 0; val3 = 0 })

abbrev wakes : ℕ → ℕ → ℕ → Event
wakes p i n = Call (record { process = p; index = i; op = 1; uaddr = 8; val = n; flag = 0; timeout = 0; uaddr2 = 0; val3 = 0 })

abbrev pub day : List Event
day =
    -- "Whole case: store (0, 8, 5); call (0,0) WAIT 8 val 5 no timeout; call (0,1) WAKE 8 val 1"
    Store 0 8 5
    ∷ waits 0 0 5 0 0
    ∷ wakes 0 1 1
    -- threads 1 and 3 fall asleep, the second until 100; another number than the word's is refused
    ∷ waits 0 1 5 0 0
    ∷ waits 0 3 5 1 100
    ∷ Query 0
    ∷ waits 0 0 4 0 0
    -- the deadline comes; an interrupt ends one sleep, and then finds nobody
    ∷ Clock 100
    ∷ Interrupt 0 1
    ∷ Interrupt 0 1
    -- there is no process 9, and time does not go back
    ∷ Query 9
    ∷ wakes 9 0 1
    ∷ Clock 99
    -- a cap that is too high, and two wrong arguments at once: the lower reason
    ∷ wakes 0 2 2147483648
    ∷ Call (record { process = 0; index = 2; op = 3; uaddr = 9; val = 1; flag = 0; timeout = 2147483648; uaddr2 = 12; val3 = 0 })
    -- "Answers in order: -6, -9, -3, -22 if above 31 (reason 8), else 0": a priority that is set, and three that are not
    ∷ SetPriority 0 7 31
    ∷ SetPriority 0 7 32
    ∷ SetPriority 0 8 32
    ∷ SetPriority 8 0 0
    ∷ []

-- a number, and the reason beside it in a report of one byte
abbrev says : ℤ → ℕ → Heard
says z reason = record { number = z; report = reason ∷ [] }

abbrev pub day_heard : List Heard
day_heard =
    -- "prints `0`, `asleep`, `1`", and "There "asleep" is 2147483647"
    says (pos 0) 0
    ∷ says (pos 2147483647) 0
    ∷ says (pos 1) 0
    ∷ says (pos 2147483647) 0
    ∷ says (pos 2147483647) 0
    -- bits 1 and 3, two of them, the lowest 1
    ∷ record { number = pos 0x01020A; report = [] }
    ∷ says (neg_ℤ (pos 11)) 0
    ∷ says (pos 1) 0
    ∷ says (pos 1) 0
    ∷ says (pos 0) 0
    -- "0, 0, 8"
    ∷ record { number = pos 0x080000; report = [] }
    ∷ says (neg_ℤ (pos 3)) 0
    ∷ says (neg_ℤ (pos 22)) 7
    ∷ says (neg_ℤ (pos 22)) 1
    ∷ says (neg_ℤ (pos 22)) 2
    ∷ says (pos 0) 0
    ∷ says (neg_ℤ (pos 22)) 8
    ∷ says (neg_ℤ (pos 3)) 0
    ∷ says (neg_ℤ (pos 3)) 0
    ∷ []
