-- Bits gathered by a bitwise or: the word that is left is 0, is divided by a power of two, or is below one, exactly if each number is.
use mathlib.Core.Path.{◌≡◌, refl, sym, ap, subst, ◌∙◌}
use mathlib.Core.Bool.{Bool, true, false, not, cond, ◌&&◌, beq, and-true, and-false}
use Prim.Native.Nat.{ℕ, ◌+◌, ◌%◌, ◌^◌, ◌≤◌, ◌<◌}
use native.Mathlib.Omega.{arith}
use lib.Bits.{bit_or, or_lt, or_mod, or_add_and, and_le_l, and_le_r}
use lib.Dec.{eqb, ltb}
use borrow.Author.Tests.{eqb-true, eqb-false, ne_eqb, ltb-true, ltb-false, lt-ltb, le-ltb}
use Rattle.lists.proofs.Tests.{cases, and_swap}
use Rattle.lists.proofs.Count.{Tested, tested_next}
use Rattle.tables.specs.Sizes.{bytes_per_process}
use Rattle.tables.specs.Tables.{aligned}
use Rattle.layout.specs.Check.{place_ok}

-- two numbers: neither is above their bits together
module _ (a b : ℕ) where
  or_left_le : a ≤ bit_or a b
  or_left_le = omega (arith, or_add_and a b, and_le_r a b)

  or_right_le : b ≤ bit_or a b
  or_right_le = omega (arith, or_add_and a b, and_le_l a b)

  or_none : eqb (bit_or a b) 0 ≡ (eqb a 0 && eqb b 0)
  or_none = cases (eqb a 0)
      (λ e. rw e (ap (λ n. eqb (bit_or n b) 0) (eqb-true a 0 e)))
      (λ e. rw e (let apart = eqb-false a 0 e in ne_eqb (bit_or a b) 0 (λ z. omega (arith, or_left_le))))

or_divided : (k a b : ℕ) → eqb (bit_or a b % 2 ^ k) 0 ≡ (eqb (a % 2 ^ k) 0 && eqb (b % 2 ^ k) 0)
or_divided k a b = ap (λ n. eqb n 0) (or_mod a b k) ∙ or_none (a % 2 ^ k) (b % 2 ^ k)

or_below : (k a b : ℕ) → ltb (bit_or a b) (2 ^ k) ≡ (ltb a (2 ^ k) && ltb b (2 ^ k))
or_below k a b = cases (ltb a (2 ^ k))
    (λ e. rw e (cases (ltb b (2 ^ k))
    (λ f. rw f (lt-ltb (bit_or a b) (2 ^ k) (or_lt k a b (ltb-true a (2 ^ k) e) (ltb-true b (2 ^ k) f))))
    (λ f. rw f (le-ltb (bit_or a b) (2 ^ k) (omega (arith, ltb-false b (2 ^ k) f, or_right_le a b))))))
    (λ e. rw e (le-ltb (bit_or a b) (2 ^ k) (omega (arith, ltb-false a (2 ^ k) e, or_left_le a b))))

-- What a loop over the addresses tests at its end: of the masks, and of the bits of the running threads' addresses and of all addresses.
abbrev pub gathered : Bool → ℕ → ℕ → Bool
gathered ok stray every = ok && eqb stray 0 && aligned every && ltb every bytes_per_process

-- both limits are powers of two, so that two tests are one
gathered_both : (ok good : Bool) (x s y a : ℕ) → gathered (ok && good) (bit_or x s) (bit_or y a) ≡ (gathered ok x y && gathered good s a)
gathered_both ok good x s y a =
    (λ j. ok && good && or_none x s j && or_divided 2 y a j && or_below 12 y a j)
    ∙ ap (λ t. t && (aligned y && aligned a) && (ltb y bytes_per_process && ltb a bytes_per_process)) (and_swap ok (eqb x 0) good (eqb s 0))
    ∙ ap (λ t. t && (ltb y bytes_per_process && ltb a bytes_per_process)) (and_swap (ok && eqb x 0) (aligned y) (good && eqb s 0) (aligned a))
    ∙ and_swap (ok && eqb x 0 && aligned y) (ltb y bytes_per_process) (good && eqb s 0 && aligned a) (ltb a bytes_per_process)

-- one thread more
pub gathered_next : (n : ℕ) (f : ℕ → Bool) (ok good : Bool) (x s y a i : ℕ) → Tested n f (gathered ok x y) i → i < n → gathered good s a ≡ f i
    → Tested n f (gathered (ok && good) (bit_or x s) (bit_or y a)) (i + 1)
gathered_next n f ok good x s y a i g more is =
    subst (λ t. Tested n f t (i + 1)) (sym (gathered_both ok good x s y a)) (tested_next n f (gathered ok x y) (gathered good s a) i g more is)

-- a is the alignment's test, l the limit's, z and m say that address and mask are 0
choose : (w a l z m : Bool) → (z ≡ true → (a && l) ≡ true) → (beq (not m) w && cond w true z && a && l) ≡ cond w (a && l && not m) (z && m)
choose true a l z false h = sym (and-true (a && l))
choose true a l z true h = sym (and-false (a && l))
choose false a l z false h = sym (and-false z)
choose false a l true true h = h refl
choose false a l false true h = refl

none_of : (w : Bool) (a : ℕ) → eqb (cond w 0 a) 0 ≡ cond w true (eqb a 0)
none_of true a = refl
none_of false a = refl

-- of one thread they are its rule
pub gathered_one : (w : Bool) (a m : ℕ) → gathered (beq (not (eqb m 0)) w) (cond w 0 a) a ≡ place_ok w a m
gathered_one w a m =
    ap (λ z. beq (not (eqb m 0)) w && z && aligned a && ltb a bytes_per_process) (none_of w a)
    ∙ choose w (aligned a) (ltb a bytes_per_process) (eqb a 0) (eqb m 0) (λ e. rw (eqb-true a 0 e))
