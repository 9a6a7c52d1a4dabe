-- The list functions that the rules of the kernel are written with. filter, all, elem, distinct and count_below are what the library
-- means by filter, "each element", membership, no element twice, and a count: proofs/Library.antt.
use Rattle.std.specs.Prelude.{◌≡◌, Bool, true, false, not, cond, ◌&&◌, ◌||◌, List, [], ◌∷◌, ◌++◌, ℕ, suc, zero, ◌+◌, ◌-◌, length, replicate, eqb, leb, ltb}

module _ {ℓ} {A : Type ℓ} where
  -- the elements that pass the test, in their order
  abbrev pub filter : (A → Bool) → List A → List A
  filter f [] = []
  filter f (x ∷ xs) = cond (f x) (x ∷ filter f xs) (filter f xs)

  -- every element passes the test
  abbrev pub all : (A → Bool) → List A → Bool
  all f [] = true
  all f (x ∷ xs) = f x && all f xs

  -- each element changed by its place, which is counted from 0
  abbrev pub update : (ℕ → A → A) → List A → List A
  update f [] = []
  update f (x ∷ xs) = f zero x ∷ update (λ i. f (suc i)) xs

  -- the list, and then the filler up to n elements
  abbrev pub pad_to : ℕ → A → List A → List A
  pad_to n z xs = xs ++ replicate (n - length xs) z

  -- f 0, f 1, .. up to n elements
  abbrev pub tabulate : ℕ → (ℕ → A) → List A
  tabulate zero f = []
  tabulate (suc n) f = f zero ∷ tabulate n (λ i. f (suc i))

  -- what is left of the list when the first n elements that pass the test are taken out
  abbrev pub left_over : (A → Bool) → ℕ → List A → List A
  left_over f n [] = []
  left_over f zero (x ∷ xs) = x ∷ xs
  left_over f (suc n) (x ∷ xs) = cond (f x) (left_over f n xs) (x ∷ left_over f (suc n) xs)

-- the number stands in the list
abbrev pub elem : ℕ → List ℕ → Bool
elem t [] = false
elem t (x ∷ xs) = eqb t x || elem t xs

-- u stands in the list, and t behind it
abbrev pub StandsBefore : ℕ → ℕ → List ℕ → Type 0
StandsBefore u t l = (earlier : List ℕ) × (later : List ℕ) × (l ≡ earlier ++ u ∷ later) × (elem t later ≡ true)

-- the list without the numbers of ts, the others in their order
abbrev pub without : List ℕ → List ℕ → List ℕ
without ts l = filter (λ t. not (elem t ts)) l

-- no number stands in the list twice
abbrev pub distinct : List ℕ → Bool
distinct [] = true
distinct (x ∷ xs) = not (elem x xs) && distinct xs

-- every number below n passes the test
unfoldable pub every_below : ℕ → (ℕ → Bool) → Bool
every_below zero f = true
every_below (suc n) f = every_below n f && f n

abbrev pub bit : Bool → ℕ
bit true = 1
bit false = 0

-- how many numbers below n pass the test
unfoldable pub count_below : ℕ → (ℕ → Bool) → ℕ
count_below zero f = 0
count_below (suc n) f = count_below n f + bit (f n)

-- each element stands so to each later one
abbrev pub pairwise : {A : Type 0} → (A → A → Bool) → List A → Bool
pairwise r [] = true
pairwise r (x ∷ xs) = all (r x) xs && pairwise r xs

-- no element stands behind one of a lower number
abbrev pub falling : {A : Type 0} → (A → ℕ) → List A → Bool
falling f [] = true
falling f (x ∷ xs) = all (λ y. leb (f y) (f x)) xs && falling f xs

-- the list by a number of each element: first those of n and above, then those of n - 1, .. and last those of 0; those of one number in their order
unfoldable pub from_highest : {A : Type 0} → (A → ℕ) → ℕ → List A → List A
from_highest f zero l = l
from_highest f (suc n) l = filter (λ t. ltb n (f t)) l ++ from_highest f n (filter (λ t. leb (f t) n) l)
