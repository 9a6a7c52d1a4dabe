-- Laws of Boolean tests: going by cases, what a conjunction or a disjunction tells, a test as a number, and tests of two numbers.
use mathlib.Core.Path.{◌≡◌, refl, sym, ap, ◌∙◌}
use mathlib.Core.Logic.{◌⊎◌, ⊎_elim}
use Prim.Native.Nat.{ℕ, ◌*◌, ◌≤◌, ◌<◌}
use native.Mathlib.Nat.{one-mul, zero-mul}
use native.Mathlib.Omega.{arith}
use mathlib.Core.Bool.{Bool, true, false, ◌&&◌, ◌||◌, beq, true≢false, not, cond, and_assoc, and_comm}
use lib.Dec.{eqb, leb, ltb}
use borrow.Author.Tests.{eqb-true, eqb-false, eq-eqb, ne_eqb, ltb-true, ltb-false, lt-ltb, le-leb, lt-leb}
use Rattle.std.specs.Int.{from_bool}
use Rattle.lists.specs.Lists.{bit}

pub cases {ℓ} : {P : Type ℓ} (b : Bool) → (b ≡ true → P) → (b ≡ false → P) → P
cases true t f = t refl
cases false t f = f refl

pub clash {ℓ} : {P : Type ℓ} → (b : Bool) → b ≡ true → b ≡ false → P
clash b t f = absurd (true≢false (sym t ∙ f))

pub and_intro : {a b : Bool} → a ≡ true → b ≡ true → (a && b) ≡ true
and_intro p q = cc

pub and_left : (a b : Bool) → (a && b) ≡ true → a ≡ true
and_left true b e = refl
and_left false b e = e

pub and_right : (a b : Bool) → (a && b) ≡ true → b ≡ true
and_right true b e = e
and_right false b e = clash true refl (sym e)

-- the middle two of four exchanged
pub and_swap : (a b x y : Bool) → (a && x && (b && y)) ≡ (a && b && (x && y))
and_swap a b x y = simp and_assoc (ap (a &&◌) (sym (and_assoc x b y) ∙ ap (◌&& y) (and_comm x b) ∙ and_assoc b x y))

pub or_left : (a b : Bool) → (a || b) ≡ false → a ≡ false
or_left true b e = e
or_left false b e = refl

pub or_right : (a b : Bool) → (a || b) ≡ false → b ≡ false
or_right true b e = clash true refl e
or_right false b e = e

pub or_intro : {a b : Bool} → a ≡ false → b ≡ false → (a || b) ≡ false
or_intro p q = cc

pub beq_true : (a b : Bool) → beq a b ≡ true → a ≡ b
beq_true true true e = refl
beq_true true false e = sym e
beq_true false true e = e
beq_true false false e = refl

pub eq_beq : (a b : Bool) → a ≡ b → beq a b ≡ true
eq_beq true b e = cc
eq_beq false b e = cc

-- a sum, by its cases
pub by_cases {ℓ} : {A B : Type 0} {P : Type ℓ} → A ⊎ B → (A → P) → (B → P) → P
by_cases w f g = ⊎_elim f g w

-- what equates two numbers that differ is refuted
pub never {ℓ} : {P : Type ℓ} → ◌≡◌ {A = ℕ} 0 1 → P
never e = absurd (omega arith)

-- a test as a number
pub bit_le : (b : Bool) → bit b ≤ 1
bit_le true = omega arith
bit_le false = omega arith

-- as the program makes it one
pub from_bool_bit : (b : Bool) → from_bool b ≡ bit b
from_bool_bit true = refl
from_bool_bit false = refl

pub bit_true : (b : Bool) → 1 ≤ bit b → b ≡ true
bit_true true h = refl
bit_true false h = absurd (omega arith)

pub bit_injective : (a b : Bool) → bit a ≡ bit b → a ≡ b
bit_injective true true e = refl
bit_injective true false e = absurd (omega arith)
bit_injective false true e = absurd (omega arith)
bit_injective false false e = refl

-- a number or 0, as a sum of bits has it
pub bit_choice : (b : Bool) (n : ℕ) → cond b n 0 ≡ bit b * n
bit_choice true n = sym (one-mul n)
bit_choice false n = sym (zero-mul n)

-- tests of two numbers
pub eqb_refl : (t : ℕ) → eqb t t ≡ true
eqb_refl t = eq-eqb t t refl

pub eqb_sym : (a b : ℕ) → eqb a b ≡ eqb b a
eqb_sym a b = cases (eqb a b)
    (λ e. rw e (sym (eq-eqb b a (sym (eqb-true a b e)))))
    (λ e. rw e (sym (ne_eqb b a (λ d. eqb-false a b e (sym d)))))

pub not_ltb : (a b : ℕ) → not (ltb a b) ≡ leb b a
not_ltb a b = cases (ltb a b)
    (λ e. rw e (sym (lt-leb b a (ltb-true a b e))))
    (λ e. rw e (sym (le-leb b a (ltb-false a b e))))

-- two tests that agree
pub lt_same : (a b c d : ℕ) → (a < b → c < d) → (c < d → a < b) → ltb a b ≡ ltb c d
lt_same a b c d f g = cases (ltb c d)
    (λ e. rw e (lt-ltb a b (g (ltb-true c d e))))
    (λ e. rw e (cases (ltb a b) (λ t. let h = f (ltb-true a b t) in let k = ltb-false c d e in absurd (omega arith)) (λ t. t)))

-- numbers of which neither is below the other are equal
pub eqb_ordered : (a b : ℕ) → eqb a b ≡ (not (ltb a b) && not (ltb b a))
eqb_ordered a b = cases (ltb a b)
    (λ e. let h = ltb-true a b e in rw e (ne_eqb a b (λ q. omega arith)))
    (λ e. let h = ltb-false a b e in rw e (cases (ltb b a)
    (λ f. let k = ltb-true b a f in rw f (ne_eqb a b (λ q. omega arith)))
    (λ f. let k = ltb-false b a f in rw f (eq-eqb a b (omega arith)))))

pub lt_of_le_ne : (n t : ℕ) → n ≤ t → eqb n t ≡ false → n < t
lt_of_le_ne n t h e = let k = eqb-false n t e in omega arith
