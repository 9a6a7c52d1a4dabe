-- Whom a call wants, as the tests of a thread ask it.
use mathlib.Core.Path.{◌≡◌, refl, ◌∙◌}
use mathlib.Core.Bool.{Bool, true, false, not, cond, ◌&&◌, ◌||◌}
use Prim.Native.Nat.{ℕ, ◌+◌}
use lib.ListN.{get_or}
use lib.Dec.{eqb}
use lib.Bits.{bit_and}
use Rattle.std.specs.Prelude.{Option, Some, None, is_some, is_none, unwrap_or, MatchOption}
use Rattle.std.specs.Option.{option_eq}
use Rattle.std.specs.Bool.{then_some}
use Rattle.lists.proofs.Tests.{eqb_sym}
use Rattle.views.specs.declared.View.{View}
use Rattle.views.specs.declared.Wanted.{Wanted}
use Rattle.views.specs.declared.Ordered.{Ordered}
use Rattle.views.specs.Views.{Candidates, own_key, key_at}

-- its mask
pub shares_is : (mask : Option ℕ) (b : ℕ) (r : Bool) → MatchOption mask (r ≡ true) (λ m. r ≡ not (eqb (bit_and b m) 0))
    → r ≡ (is_none mask || not (eqb (bit_and b (unwrap_or mask 0)) 0))
shares_is None b r e = e
shares_is (Some m) b r e = e

-- the second word
pub second_is : (second : Option ℕ) (a : ℕ) → option_eq eqb second (Some a) ≡ (is_some second && eqb a (unwrap_or second 0))
second_is None a = refl
second_is (Some a2) a = eqb_sym a2 a

-- the tests of the second word in either order
both_first : (may both same : Bool) → (may && (both && same)) ≡ (both && (may && same))
both_first true both same = refl
both_first false true same = refl
both_first false false same = refl

pub key_is : (v : View) (w : Wanted) (i k : ℕ) (shares second : Bool) → MatchOption w.mask (shares ≡ true) (λ m. shares ≡ not (eqb (bit_and (get_or v.bitset i 0) m) 0))
    → second ≡ option_eq eqb w.second (Some (get_or v.uaddr i 0))
    → k ≡ cond (not (eqb (get_or v.place i 0) 0) && shares && eqb (get_or v.uaddr i 0) w.uaddr) (32768 + own_key v i)
    (cond (not (eqb (get_or v.place i 0) 0) && shares && second) (own_key v i) 0)
    → k ≡ key_at v w.uaddr (unwrap_or w.second 0) (is_some w.second) (is_none w.mask) (unwrap_or w.mask 0) i
key_is v w i k shares second m s is =
    is ∙ rw (
      shares_is w.mask (get_or v.bitset i 0) shares m,
      s,
      second_is w.second (get_or v.uaddr i 0),
      both_first (not (eqb (get_or v.place i 0) 0) && (is_none w.mask || not (eqb (bit_and (get_or v.bitset i 0) (unwrap_or w.mask 0)) 0))) (is_some w.second)
          (eqb (get_or v.uaddr i 0) (unwrap_or w.second 0)),
    )

-- of two words that may count and of a mask that may
pub wants_are : (v : View) (a a2 m : ℕ) (two masked : Bool) (r : Ordered)
    → Candidates v a (unwrap_or (then_some two a2) 0) (is_some (then_some two a2)) (is_none (then_some masked m)) (unwrap_or (then_some masked m) 0) r
    → Candidates v a a2 two (not masked) m r
wants_are v a a2 m true true r is = record { few = is.few; first = is.first; taken = is.taken }
wants_are v a a2 m true false r is = record { few = is.few; first = is.first; taken = is.taken }
wants_are v a a2 m false true r is = record { few = is.few; first = is.first; taken = is.taken }
wants_are v a a2 m false false r is = record { few = is.few; first = is.first; taken = is.taken }
