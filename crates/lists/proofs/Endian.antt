-- The library's little-endian bytes of a number are those of specs/LittleEndian.antt, at every width.
use mathlib.Core.Path.{◌≡◌, refl, sym, ap, ◌∙◌}
use mathlib.Core.List.{◌∷◌}
use Prim.Native.Nat.{ℕ, zero, suc, ◌/◌, ◌%◌, ◌^◌}
use native.Mathlib.Nat.{pow-suc, div-one, div-div-eq-div-mul}
use Rattle.std.specs.Int.{Width, byte_len, byte_at, bytes_low_first, to_le_bytes}
use Rattle.lists.specs.LittleEndian.{bytes}

byte_is : (i v : ℕ) → byte_at i v ≡ v / 256 ^ i % 256
byte_is zero v = ap (◌% 256) (sym (div-one v))
byte_is (suc i) v = refl

low_first : (i k v : ℕ) → bytes_low_first i k v ≡ bytes k (v / 256 ^ i)
low_first i zero v = refl
low_first i (suc k) v =
    let above : v / 256 ^ suc i ≡ v / 256 ^ i / 256 = ap (v /◌) (pow-suc 256 i) ∙ sym (div-div-eq-div-mul v (256 ^ i) 256) in
    λ j. byte_is i v j ∷ (low_first (suc i) k v ∙ ap (bytes k) above) j

pub to_le : (w : Width) (v : ℕ) → to_le_bytes w v ≡ bytes (byte_len w) v
to_le w v = low_first 0 (byte_len w) v ∙ ap (bytes (byte_len w)) (div-one v)
