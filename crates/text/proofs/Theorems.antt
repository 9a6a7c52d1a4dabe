-- What is proved of the lines. Each theorem is stated here whole; specs/Text.antt has the words that the statements use. That the code writes
-- these lines is what put_line and put_refusal ensure, in the words of Puts.
use mathlib.Core.Path.{◌≡◌, refl, ap, sym, ◌∙◌, subst}
use mathlib.Core.Logic.{◌↔◌}
use mathlib.Core.Bool.{true}
use mathlib.Core.List.{List, [], ◌∷◌, ◌++◌, map, append_assoc}
use Prim.Native.Nat.{ℕ, ◌+◌, ◌-◌, ◌^◌, ◌≤◌, ◌<◌}
use native.Mathlib.Omega.{arith}
use lib.IntN.{ℤ, pos, negsuc, neg_ℤ, nat_abs}
use lib.ListN.{length, take, drop}
use lib.Seq.{sets-eq}
use Rattle.io.specs.Digits.{IsDigitCount}
use Rattle.lists.specs.Lists.{all}
use Rattle.lists.proofs.Tests.{never}
use Rattle.rules.specs.declared.answer.Errno.{Errno}
use Rattle.rules.specs.declared.answer.Errno.TheVariants.{ENXIO, EBADF, ESRCH, EBUSY, ENOSYS, EINVAL, EFAULT, EAGAIN, ETIMEDOUT}
use Rattle.rules.specs.declared.answer.Reason.TheVariants.{FirstCap}
use Rattle.rules.specs.declared.answer.Answer.{Answer}
use Rattle.rules.specs.declared.answer.Answer.TheVariants.{Asleep, Count, Refused, Waiting}
use Rattle.rules.specs.Answers.{◌because◌, plain, errno_number, answer_numbers}
use Rattle.text.specs.Text.{places_for, most_digits, decimal, value_from, is_digit, count_line, refusal_line, number_line, line_of, Spoken, Puts}
use Rattle.text.proofs.Decimal.{places_fewest, length_digits, digits_value, digits_digits}

-- The text of a number: digits, which stand for it, and none too many.
pub decimal_value : (n : ℕ) → n < 10 ^ 20 → (value_from 0 (decimal n) ≡ n) × (all is_digit (decimal n) ≡ true) × IsDigitCount 10 1 n (length (decimal n))
unfolding decimal
decimal_value n h =
    let k = places_for (most_digits - 1) n in
    let f = places_fewest (most_digits - 1) n h in
    (digits_value k n f.1, digits_digits k n, subst (IsDigitCount 10 1 n) (sym (length_digits k n)) f)

-- an error number negated is below 0
negated_line : (x : Errno) → refusal_line (errno_number x) ≡ number_line (neg_ℤ (pos (errno_number x)))
negated_line ENXIO = refl
negated_line EBADF = refl
negated_line ESRCH = refl
negated_line EBUSY = refl
negated_line ENOSYS = refl
negated_line EINVAL = refl
negated_line EFAULT = refl
negated_line EAGAIN = refl
negated_line ETIMEDOUT = refl

-- "one line an event: the number, or `asleep`": the number is the one that document 01 gives to the answer.
pub line_of_number : (a : Answer) (z : ℤ) → (a ≡ Asleep → ⊥) → answer_numbers a ≡ z ∷ [] → line_of a ≡ number_line z
unfolding line_of
line_of_number Asleep z awake h = absurd (awake refl)
line_of_number (Count n) z awake h = let e : pos n ≡ z = cc in ap number_line e
line_of_number (Refused x) z awake h = let e : neg_ℤ (pos (errno_number x.errno)) ≡ z = cc in negated_line x.errno ∙ ap number_line e
line_of_number (Waiting v) z awake h = never cc

-- `asleep`, `0`, `9`, `10`, `4294967295`, `-3`, `-22` whatever its reason, `-110`, byte by byte
pub the_lines : map line_of (Asleep ∷ Count 0 ∷ Count 9 ∷ Count 10 ∷ Count 4294967295 ∷ Refused (plain ESRCH) ∷ Refused (EINVAL because FirstCap) ∷ Refused (plain ETIMEDOUT) ∷ [])
    ≡ (97 ∷ 115 ∷ 108 ∷ 101 ∷ 101 ∷ 112 ∷ 10 ∷ [])
    ∷ (48 ∷ 10 ∷ [])
    ∷ (57 ∷ 10 ∷ [])
    ∷ (49 ∷ 48 ∷ 10 ∷ [])
    ∷ (52 ∷ 50 ∷ 57 ∷ 52 ∷ 57 ∷ 54 ∷ 55 ∷ 50 ∷ 57 ∷ 53 ∷ 10 ∷ [])
    ∷ (45 ∷ 51 ∷ 10 ∷ [])
    ∷ (45 ∷ 50 ∷ 50 ∷ 10 ∷ [])
    ∷ (45 ∷ 49 ∷ 49 ∷ 48 ∷ 10 ∷ [])
    ∷ []
unfolding line_of refusal_line count_line decimal
the_lines = refl

-- The numbers that have a line are those of at most 32 bits beside their sign.
pub spoken_exactly : (z : ℤ) → Spoken z ↔ (nat_abs z < 2 ^ 32)
spoken_exactly (pos n) = ((λ h. h), (λ h. h))
spoken_exactly (negsuc n) = ((λ h. h), (λ h. h))

-- A text that is put at a place stands there, and all before it and behind it is as it was.
pub text_stands : (room k : ℕ) (text before : List ℕ) (r : ℕ) (after : List ℕ) → Puts room k text before r after → k + room ≤ length before
    → (after ≡ take k before ++ (text ++ drop r before)) × (r ≡ k + length text)
text_stands room k text before r after p fits = (
  p.bytes
      ∙ sets-eq text before k (omega (arith, p.next, p.within))
      ∙ append_assoc (take k before) text (drop (k + length text) before)
      ∙ ap (λ (n : ℕ). take k before ++ (text ++ drop n before)) (sym p.next),
  p.next,
)
