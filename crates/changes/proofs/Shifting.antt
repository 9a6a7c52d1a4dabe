-- A loop takes the entry at a place out of a list where it lies: those in front of it are stored as they are, and each of those behind it
-- one place on. The last that it stores is the byte behind the list.
use mathlib.Core.Path.{◌≡◌, refl, sym, ap, ◌∙◌}
use mathlib.Core.Bool.{cond}
use mathlib.Core.List.{List, [], ◌∷◌, ◌++◌, append_assoc}
use Prim.Native.Nat.{ℕ, ◌+◌, ◌-◌, ◌≤◌, ◌<◌}
use native.Mathlib.Omega.{arith}
use lib.ListN.{length, take, drop, get_or, set, length-drop}
use lib.Seq.{sets, length-take-le, take-append-le, drop-append-le, get_or-take, get_or-drop, drop-drop, drop-set-lt, set-set}
use lib.Dec.{ltb}
use Rattle.lists.proofs.Loops.{take_next, length_snoc}
use Rattle.lists.proofs.Stores.{Storing, storing_next, storing_all, sets_append}
use Rattle.lists.proofs.Padded.{length_out, get_d_out}

-- n bytes from a place on, without the one at the place p, from 1
abbrev part : List ℕ → ℕ → ℕ → List ℕ
part b at n = take n (drop at b)

abbrev out : List ℕ → ℕ → List ℕ
out l p = take (p - 1) l ++ drop p l

same_behind : (x y : List ℕ) (k m : ℕ) → drop k x ≡ drop k y → get_or x (k + m) 0 ≡ get_or y (k + m) 0
same_behind x y k m e = sym (get_or-drop k x m 0) ∙ ap (λ l. get_or l m 0) e ∙ get_or-drop k y m 0

pub length_closed : (l : List ℕ) (p z : ℕ) → 1 ≤ p → p ≤ length l → length (take (p - 1) l ++ (drop p l ++ (z ∷ []))) ≡ length l
length_closed l p z first last =
    ap length (sym (append_assoc (take (p - 1) l) (drop p l) (z ∷ []))) ∙ length_snoc (out l p) z ∙ length_out l p first last

pub record Shifting (b₀ : List ℕ) (at n p : ℕ) (b : List ℕ) (i : ℕ) : Type 0 where
  pub storing : Storing b₀ (out (part b₀ at (n + 1)) p) at b i
  pub behind : drop (at + i) b ≡ drop (at + i) b₀

module _ (b₀ : List ℕ) (at n p : ℕ) where
  module _ (first : 1 ≤ p) (last : p ≤ n) (fits : at + n < length b₀) where
    -- the list, and with the byte behind it
    abbrev list : List ℕ
    list = part b₀ at n

    abbrev more : List ℕ
    more = part b₀ at (n + 1)

    abbrev past : ℕ
    past = get_or b₀ (at + n) 0

    size : length list ≡ n
    size = length-take-le n (drop at b₀) (omega (arith, length-drop at b₀))

    size_more : length more ≡ n + 1
    size_more = length-take-le (n + 1) (drop at b₀) (omega (arith, length-drop at b₀))

    stores : length (out more p) ≡ n
    stores = omega (arith, size_more, length_out more p first (omega (arith, size_more)))

    more_is : more ≡ list ++ (past ∷ [])
    more_is = take_next (drop at b₀) n 0 (omega (arith, length-drop at b₀)) ∙ ap (λ x. list ++ (x ∷ [])) (get_or-drop at b₀ n 0)

    out_more : out more p ≡ out list p ++ (past ∷ [])
    out_more =
        ap (λ l. out l p) more_is
        ∙ (λ j. take-append-le (p - 1) list (past ∷ []) (omega (arith, size)) j ++ drop-append-le p list (past ∷ []) (omega (arith, size)) j)
        ∙ sym (append_assoc (take (p - 1) list) (drop p list) (past ∷ []))

    more_at : (j : ℕ) → j ≤ n → get_or more j 0 ≡ get_or b₀ (at + j) 0
    more_at j high = get_or-take (n + 1) (drop at b₀) j 0 (omega arith) ∙ get_or-drop at b₀ j 0

    -- what is read was not stored yet
    read : (b : List ℕ) (i : ℕ) → Shifting b₀ at n p b i → (j q : ℕ) → i ≤ j → j ≤ n → q ≡ at + j → get_or b q 0 ≡ get_or more j 0
    read b i g j q low high place =
        let here : q ≡ at + i + (j - i) = omega arith in
        let there : at + i + (j - i) ≡ at + j = omega arith in
        rw (here, same_behind b b₀ (at + i) (j - i) g.behind, there) (sym (more_at j high))

    pub shifting_next : (b : List ℕ) (i v : ℕ) → Shifting b₀ at n p b i → i < n
        → v ≡ cond (ltb (i + 1) p) (get_or b (at + i) 0) (get_or b (at + i + 1) 0) → Shifting b₀ at n p (set b (at + i) v) (i + 1)
    shifting_next b i v g on is =
        let here = read b i g i (at + i) (omega arith) (omega arith) refl in
        let there = read b i g (i + 1) (at + i + 1) (omega arith) (omega arith) (omega arith) in
        let one : at + (i + 1) ≡ at + i + 1 = omega arith in
        let new : v ≡ get_or (out more p) i 0 =
        is ∙ (λ j. cond (ltb (i + 1) p) (here j) (there j)) ∙ sym (get_d_out more p first (omega (arith, size_more)) 0 i) in
        record {
          storing = storing_next b₀ (out more p) at b i v 0 g.storing (omega (arith, stores)) new;
          behind = drop-set-lt (at + (i + 1)) b (at + i) v (omega arith) ∙ ap (λ x. drop x b) one ∙ sym (drop-drop 1 (at + i) b)
              ∙ ap (drop 1) g.behind ∙ drop-drop 1 (at + i) b₀ ∙ ap (λ x. drop x b₀) (sym one);
        }

    -- another byte laid over the last
    pub shifting_all : (b : List ℕ) (i : ℕ) → Shifting b₀ at n p b i → n ≤ i → (q z : ℕ) → q + 1 ≡ at + n
        → set b q z ≡ sets b₀ at (take (p - 1) (take n (drop at b₀)) ++ (drop p (take n (drop at b₀)) ++ (z ∷ [])))
    shifting_all b i g end q z place =
        let l = out list p in
        let stored : b ≡ sets b₀ at (l ++ (past ∷ [])) =
        storing_all b₀ (out more p) at b i g.storing (omega (arith, stores)) ∙ ap (sets b₀ at) out_more in
        let here : q ≡ at + length l = omega (arith, length_out list p first (omega (arith, size)), size) in
        (λ j. set (stored j) (here j) z)
        ∙ ap (λ x. set x (at + length l) z) (sym (sets_append b₀ at l (past ∷ [])))
        ∙ set-set (sets b₀ at l) (at + length l) past z
        ∙ sets_append b₀ at l (z ∷ [])
        ∙ ap (sets b₀ at) (append_assoc (take (p - 1) list) (drop p list) (z ∷ []))
