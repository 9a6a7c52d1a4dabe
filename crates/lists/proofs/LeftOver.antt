-- What is taken from a list, the first n elements that pass a test, and what is left over.
use mathlib.Core.Path.{◌≡◌, refl, sym, ap, ◌∙◌}
use mathlib.Core.Bool.{Bool}
use mathlib.Core.List.{List, [], ◌∷◌}
use Prim.Native.Nat.{ℕ, zero, suc, ◌+◌, ◌≤◌}
use native.Mathlib.Omega.{arith}
use lib.ListN.{length, take, drop}
use lib.Seq.{take-nil, drop-nil}
use lib.Dec.{eqb}
use Rattle.lists.specs.Lists.{filter, elem, without, left_over, bit}
use Rattle.lists.proofs.Tests.{cases, eqb_refl, eqb_sym}
use Rattle.lists.proofs.Filter.{filter_true}
use Rattle.lists.proofs.Occurs.{occurs, occurs_absent, occurs_take_le, occurs_filter_le}

-- In a list without repeats, the first n that pass, taken out as numbers, leave what is left over.
without_absent : (x : ℕ) (ts l : List ℕ) → occurs x l ≡ 0 → without (x ∷ ts) l ≡ without ts l
without_absent x ts [] h = refl
without_absent x ts (y ∷ ys) h =
    let ih = without_absent x ts ys (omega arith) in
    cases (eqb y x)
    (λ e. absurd (omega (arith, h, ap bit (eqb_sym x y ∙ e))))
    (λ e. cases (elem y ts) (λ d. cc) (λ d. cc))

pub without_taken : (f : ℕ → Bool) (l : List ℕ) (n : ℕ) → ((t : ℕ) → occurs t l ≤ 1) → without (take n (filter f l)) l ≡ left_over f n l
without_taken f [] n one = refl
without_taken f (x ∷ xs) zero one = filter_true (x ∷ xs)
without_taken f (x ∷ xs) (suc n) one =
    let none : occurs x xs ≡ 0 = omega (arith, one x, ap bit (eqb_refl x)) in
    let fewer : (t : ℕ) → occurs t xs ≤ 1 = λ t. omega (arith, one t) in
    cases (f x)
    (λ e. cc (without_taken f xs n fewer, without_absent x (take n (filter f xs)) xs none, eqb_refl x))
    (λ e. let same : filter f (x ∷ xs) ≡ filter f xs = rw e refl in ap (λ l. without (take (suc n) l) (x ∷ xs)) same ∙ rw e (cc (
      without_taken f xs (suc n) fewer,
      occurs_absent x (take (suc n) (filter f xs)) (omega (arith, none, occurs_take_le (suc n) x (filter f xs), occurs_filter_le f x xs)),
    )))

-- what is left over and what is taken make up the list
pub length_parts : (f : ℕ → Bool) (l : List ℕ) (n : ℕ) → length (left_over f n l) + length (take n (filter f l)) ≡ length l
length_parts f [] n = rw (take-nil n) (omega arith)
length_parts f (x ∷ xs) zero = omega arith
length_parts f (x ∷ xs) (suc n) = cases (f x)
    (λ e. rw e (omega (arith, length_parts f xs n)))
    (λ e. rw e (omega (arith, length_parts f xs (suc n))))

-- of what is left over, those that pass are the ones behind those that were taken
pub filter_left_over : (f : ℕ → Bool) (l : List ℕ) (n : ℕ) → filter f (left_over f n l) ≡ drop n (filter f l)
filter_left_over f [] n = sym (drop-nil n)
filter_left_over f (x ∷ xs) zero = refl
filter_left_over f (x ∷ xs) (suc n) = cases (f x)
    (λ e. cc (filter_left_over f xs n))
    (λ e. cc (filter_left_over f xs (suc n)))
