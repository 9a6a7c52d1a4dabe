-- What the check tells of bytes that pass: each sleeper stands at its place in the arrival list, and nobody else has one.
use mathlib.Core.Path.{◌≡◌, refl, ap, ◌∙◌}
use mathlib.Core.Bool.{true, false}
use mathlib.Core.List.{List}
use Prim.Native.Nat.{ℕ, ◌-◌, ◌<◌}
use lib.ListN.{get_or}
use Rattle.std.specs.Prelude.{Some}
use Rattle.arrivals.proofs.Places.{place_absent, place_names}
use Rattle.tables.specs.Sizes.{threads}
use Rattle.tables.specs.Tables.{thread_of, arrivals}
use Rattle.tables.proofs.Sound.{Sound, tables_sound, listed_waiting, listed_below}
use Rattle.layout.specs.Layout.{state_at}
use Rattle.layout.specs.Check.{Checked}

module _ (b place : List ℕ) (h : Checked b (Some place)) where
  rules : Sound (state_at b)
  rules = tables_sound (state_at b) (h.held refl).sound

  pub seen_place : (t : ℕ) → (thread_of (state_at b) t).waiting ≡ true → get_or (arrivals (state_at b)) (get_or place t 0 - 1) 0 ≡ t
  seen_place t w =
      let l = arrivals (state_at b) in
      let there = listed_waiting (state_at b) rules t ∙ w in
      ap (λ p. get_or l (p - 1) 0) (h.places place refl t (listed_below (state_at b) rules t there)) ∙ place_names t l there

  pub seen_nowhere : (t : ℕ) → t < threads → (thread_of (state_at b) t).waiting ≡ false → get_or place t 0 ≡ 0
  seen_nowhere t low w = h.places place refl t low ∙ place_absent t (arrivals (state_at b)) (listed_waiting (state_at b) rules t ∙ w)
