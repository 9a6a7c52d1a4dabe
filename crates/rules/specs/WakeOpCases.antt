-- Cases of WAKE_OP's signed numbers, each beside what it was before request (ii): what it compares, what it stores, and whole calls, P8 among them.
-- proofs/Theorems.antt has a statement for each table.
use Rattle.std.specs.Prelude.{Bool, true, false, List, [], ◌∷◌, map, ℕ, replicate, ℤ, pos, neg_ℤ}
use Rattle.tables.specs.Sizes.{memory_words}
use Rattle.tables.specs.Tables.{word_at}
use Rattle.rules.specs.Answers.{Outcome, answer_numbers}
use Rattle.rules.specs.WakeOp.{new_word, compares, val3_of}
use Rattle.rules.specs.Events.{step}
use Rattle.rules.specs.Before.{new_word_unsigned, compares_unsigned, step_unsigned}
use Rattle.rules.specs.History.{start, final}
use Rattle.rules.specs.Cases.{address, wake_op_at, asleep_at_minus_one}

-- Of a cmparg and an old word, the six comparisons: =, not =, <, <=, >, >=.
pub record Compared : Type 0 where
  pub cmparg : ℤ
  pub old : ℕ
  pub now : List Bool
  pub before : List Bool

abbrev compared : ℤ → ℕ → List Bool → List Bool → Compared
compared z old now before = record { cmparg = z; old = old; now = now; before = before }

-- what the six say of an old word that is equal, above or below
abbrev equal : List Bool
equal = true ∷ false ∷ false ∷ true ∷ false ∷ true ∷ []

abbrev above : List Bool
above = false ∷ true ∷ false ∷ false ∷ true ∷ true ∷ []

abbrev below : List Bool
below = false ∷ true ∷ true ∷ true ∷ false ∷ false ∷ []

abbrev neg : ℕ → ℤ
neg n = neg_ℤ (pos n)

-- "Add cases at cmparg -2048, -1, 0 and 2047 and old words 2147483647 and 2147483648": beside them the word that is equal now, and the one that was
abbrev pub comparisons : List Compared
comparisons =
    compared (neg 2048) 2147483647 above above
    ∷ compared (neg 2048) 2147483648 below above
    ∷ compared (neg 2048) 4294965248 equal above
    ∷ compared (neg 2048) 2048 above equal
    ∷ compared (neg 1) 2147483647 above above
    ∷ compared (neg 1) 2147483648 below above
    ∷ compared (neg 1) 4294967295 equal above
    ∷ compared (neg 1) 4095 above equal
    ∷ compared (pos 0) 2147483647 above above
    ∷ compared (pos 0) 2147483648 below above
    ∷ compared (pos 0) 0 equal equal
    ∷ compared (pos 0) 4294967295 below above
    ∷ compared (pos 2047) 2147483647 above above
    ∷ compared (pos 2047) 2147483648 below above
    ∷ compared (pos 2047) 2047 equal equal
    ∷ compared (pos 2047) 2046 below below
    ∷ []

abbrev six : (ℕ → Bool) → List Bool
six holds = map holds (0 ∷ 1 ∷ 2 ∷ 3 ∷ 4 ∷ 5 ∷ [])

abbrev pub compared_as : Compared → Compared
compared_as r =
    compared r.cmparg r.old
    (six (λ cmp. compares (val3_of 0 (pos 0) cmp r.cmparg) r.old))
    (six (λ cmp. compares_unsigned (val3_of 0 (pos 0) cmp r.cmparg) r.old))

-- An operation by its number, with 8 added for the power of two, its oparg and the old word: the word that is stored.
pub record Stored : Type 0 where
  pub op : ℕ
  pub oparg : ℤ
  pub old : ℕ
  pub now : ℕ
  pub before : ℕ

abbrev stored : ℕ → ℤ → ℕ → ℕ → ℕ → Stored
stored op z old now before = record { op = op; oparg = z; old = old; now = now; before = before }

-- "A negative operand is taken modulo 2^32 for every operation. The power-of-two operand is still 2 to the power (oparg mod 32)."
abbrev pub operations : List Stored
operations =
    stored 0 (neg 1) 7 4294967295 4095
    ∷ stored 0 (neg 2048) 7 4294965248 2048
    ∷ stored 0 (pos 2047) 7 2047 2047
    ∷ stored 1 (neg 1) 0 4294967295 4095
    ∷ stored 1 (neg 1) 5 4 4100
    ∷ stored 1 (pos 1) 2147483647 2147483648 2147483648
    ∷ stored 2 (neg 2048) 4095 4294967295 4095
    ∷ stored 3 (neg 2) 8198 0 8192
    ∷ stored 4 (neg 1) 1 4294967294 4094
    ∷ stored 8 (neg 1) 7 2147483648 2147483648
    ∷ stored 9 (neg 32) 1 2 2
    ∷ stored 10 (neg 31) 3 3 3
    ∷ stored 11 (neg 2048) 3 2 2
    ∷ stored 12 (pos 2047) 1 2147483649 2147483649
    ∷ []

abbrev pub stored_as : Stored → Stored
stored_as r =
    let v = val3_of r.op r.oparg 0 (pos 0) in
    stored r.op r.oparg r.old (new_word v r.old) (new_word_unsigned v r.old)

-- A WAKE_OP on a word of all ones, at which a thread sleeps: the answer, and the word afterwards.
pub record Called : Type 0 where
  pub val3 : ℕ
  pub now : List ℤ × ℕ
  pub before : List ℤ × ℕ

abbrev called : ℕ → List ℤ × ℕ → List ℤ × ℕ → Called
called v now before = record { val3 = v; now = now; before = before }

abbrev leaves : ℕ → ℕ → List ℤ × ℕ
leaves n word = (pos n ∷ [], word)

abbrev pub calls : List Called
calls =
    -- P8: add 1, above 0
    called 0x14001000 (leaves 0 0) (leaves 1 0)
    -- add -1, below 0
    ∷ called 0x12FFF000 (leaves 1 4294967294) (leaves 0 4094)
    ∷ []

-- what an event is answered and the word that it leaves, by these rules
abbrev pub answer_and_word : Outcome → List ℤ × ℕ
answer_and_word o = (answer_numbers o.answer, word_at o.world 0 address)

abbrev pub called_as : Called → Called
called_as r =
    let w = final asleep_at_minus_one (start (replicate memory_words 0)) in
    called r.val3 (answer_and_word (step (wake_op_at r.val3) w)) (answer_and_word (step_unsigned (wake_op_at r.val3) w))
