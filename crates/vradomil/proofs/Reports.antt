-- A report of one byte, the reason: laid over the bytes that are lent for it, and made of an event's number.
use mathlib.Core.Path.{◌≡◌, refl, ap, ◌∙◌}
use mathlib.Core.Bool.{true, cond}
use mathlib.Core.List.{List, [], ◌∷◌, ◌++◌}
use Prim.Native.Nat.{ℕ, zero, suc, ◌^◌, ◌<◌}
use lib.ListN.{take}
use lib.IntN.{ℤ}
use lib.Signed.{mag}
use mir.Syntax.{w32}
use mir.Val.{to_z, of_z}
use mir.Facts.{to_z-of_z}
use Rattle.rules.specs.declared.event.Event.{Event}
use Rattle.rules.specs.declared.answer.Reason.{Reason}
use Rattle.std.specs.Prelude.{Option, None}
use Rattle.rules.specs.declared.answer.Answer.{Answer}
use Rattle.rules.specs.declared.answer.Answer.TheVariants.{Asleep, Count, Refused, Waiting}
use Rattle.tables.specs.Tables.{World}
use Rattle.rules.specs.Answers.{reason_number, reason_of, is_minus22}
use Rattle.rules.specs.Events.{step}
use Rattle.rules.proofs.Reasons.{refuses22, errno_22, reason_told}
use Rattle.vradomil.specs.Host.{host_number, report_bytes, laid_over}

pub none_taken : (n : ℕ) (l : List ℕ) → l ≡ take n [] ++ l
none_taken zero l = refl
none_taken (suc n) l = refl

-- A number that a host is given is -22 where the answer is.
number_22 : (a : Answer) → is_minus22 (host_number a) ≡ refuses22 a
number_22 Asleep = refl
number_22 (Count n) = refl
number_22 (Refused x) = errno_22 x.errno
number_22 (Waiting v) = refl

-- The report of an event, made of its number and of what is wrong where that is -22.
pub report_made : (e : Event) (w : World) {z : ℤ} {wrong : Option Reason} → z ≡ host_number (step e w).answer
    → (refuses22 (step e w).answer ≡ true → reason_of (step e w).answer ≡ wrong)
    → {r : Option Reason} → r ≡ cond (is_minus22 z) wrong None
    → (lent : List ℕ) → laid_over (reason_number r ∷ []) lent ≡ laid_over (report_bytes (step e w).answer) lent
report_made e w {wrong = wrong} number only is lent =
    ap (λ q. laid_over (reason_number q ∷ []) lent)
    (is ∙ ap (λ b. cond b wrong None) (ap is_minus22 number ∙ number_22 (step e w).answer) ∙ reason_told e w wrong only)

-- a number that an entry point answered is handed on as it was
pub handed_on : (z : ℤ) → mag z < 2 ^ 31 → to_z w32 (of_z w32 z) ≡ z
handed_on z fits = to_z-of_z {w = w32} {z = z} (record { sfits = fits })
