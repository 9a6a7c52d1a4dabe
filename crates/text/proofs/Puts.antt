-- Texts written one behind the other.
use mathlib.Core.Path.{◌≡◌, refl, ap, ◌∙◌, subst}
use mathlib.Core.List.{List, [], ◌∷◌, ◌++◌}
use Prim.Native.Nat.{ℕ, ◌+◌, ◌≤◌}
use native.Mathlib.Omega.{arith}
use native.Mathlib.Numerals.{add-one}
use lib.ListN.{length, set, length-append}
use lib.Seq.{sets}
use borrow.Rule.Slice.PartMut.{put_mid}
use Rattle.lists.proofs.Stores.{sets_append, sets_copied}
use Rattle.text.specs.Text.{Puts}

-- a text copied over the bytes from k on
pub puts_copied : (text before part : List ℕ) (k m : ℕ) → m ≡ length text → k + length text ≤ length before → part ≡ text
    → Puts (length text) k text before (k + length text) (put_mid k m before part)
puts_copied text before part k m all room copied =
    record {
      next = refl;
      within = omega arith;
      bytes = sets_copied before text part k m copied all room;
    }

-- a text behind a text
pub puts_append : {room more k : ℕ} {text next before : List ℕ} {j r : ℕ} {mid after : List ℕ} → Puts room k text before j mid → Puts more j next mid r after
    → Puts (room + more) k (text ++ next) before r after
puts_append {k = k} {text = text} {next = next} {before = before} h g =
    record {
      next = rw (length-append text next) (omega (arith, h.next, g.next));
      within = omega (arith, h.within, g.within);
      bytes = g.bytes ∙ (λ i. sets (h.bytes i) (h.next i) next) ∙ sets_append before k text next;
    }

-- one byte behind a text
pub puts_then : (room k : ℕ) (text before : List ℕ) (j v : ℕ) (mid : List ℕ) → Puts room k text before j mid
    → Puts (room + 1) k (text ++ (v ∷ [])) before (j + 1) (set mid j v)
puts_then room k text before j v mid h = puts_append h (record { next = refl; within = omega arith; bytes = refl })

-- one byte before a text
pub puts_after : (room k v : ℕ) (text before : List ℕ) (r : ℕ) (after : List ℕ) → Puts room (k + 1) text (set before k v) r after
    → Puts (room + 1) k (v ∷ text) before r after
puts_after room k v text before r after h =
    record {
      next = omega (arith, h.next);
      within = omega (arith, h.within);
      bytes = h.bytes ∙ ap (λ j. sets (set before k v) j text) (add-one k);
    }

pub puts_same : {room k : ℕ} {text other before : List ℕ} {r : ℕ} {after : List ℕ} → text ≡ other → Puts room k text before r after → Puts room k other before r after
puts_same {room = room} {k = k} {before = before} {r = r} {after = after} e h = subst (λ t. Puts room k t before r after) e h

-- the same, with other room
pub puts_within : {room k : ℕ} {text before : List ℕ} {r : ℕ} {after : List ℕ} (other : ℕ) → r ≤ k + other → Puts room k text before r after → Puts other k text before r after
puts_within other w h = record { next = h.next; within = w; bytes = h.bytes }

-- nothing is written
pub puts_nothing : (room : ℕ) {k : ℕ} {before : List ℕ} → Puts room k [] before k before
puts_nothing room = record { next = omega arith; within = omega arith; bytes = refl }
