-- An event that is passed to its entry point: what each kind of entry point ensures is what the theorems take for known.
use mathlib.Core.Path.{◌≡◌, refl, sym, ap, subst₂, ◌∙◌}
use mathlib.Core.List.{List}
use Prim.Native.Nat.{ℕ, ◌^◌, ◌<◌}
use lib.IntN.{ℤ, pos}
use lib.Signed.{mag}
use mir.Syntax.{w64}
use mir.Val.{hbits, to_z, of_z}
use mir.Facts.{to_z-of_z}
use Rattle.rules.specs.declared.event.Event.{Event}
use Rattle.rules.specs.declared.event.Event.TheVariants.{Query}
use Rattle.vradomil.specs.Host.{seen, host_number, Shows}
use Rattle.hosting.proofs.Hosting.{shown}
use Rattle.hosting.specs.Hosts.{Hosted}

-- a signed number of 64 bits is read back as it was stored
pub wide : (z : ℤ) → mag z < 2 ^ hbits w64 → to_z w64 (of_z w64 z) ≡ z
wide z h = to_z-of_z {w = w64} {z = z} (record { sfits = h })

-- what the entry point of a panel query ensures
pub by_query : {p n : ℕ} {b m lent : List ℕ} → Shows p b n → Hosted (Query p) b m lent (pos n) b m lent
by_query {p} {n} {b} {m} h =
    record { number = ap pos h.number ∙ ap host_number (sym (shown p (seen b m))); tables = refl; words = refl; report = refl; fits = h.fits }

-- an event that was matched on, with the number that came back
pub of_event : {e d : Event} {b m lent b1 m1 told : List ℕ} {r z : ℤ} → e ≡ d → z ≡ r → Hosted d b m lent r b1 m1 told → Hosted e b m lent z b1 m1 told
of_event {b = b} {m} {lent} {b1} {m1} {told} is same h = subst₂ (λ x y. Hosted x b m lent y b1 m1 told) (sym is) (sym same) h
