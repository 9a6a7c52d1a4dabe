-- Laws of filter and all.
use mathlib.Core.Path.{◌≡◌, refl, sym, ◌∙◌}
use mathlib.Core.Bool.{Bool, true, false, ◌&&◌, and_comm}
use mathlib.Core.List.{List, [], ◌∷◌, ◌++◌}
use Prim.Native.Nat.{ℕ, suc, zero, ◌≤◌, ◌<◌}
use native.Mathlib.Omega.{arith}
use lib.ListN.{length, take, drop, get_or, replicate}
use lib.Dec.{eqb}
use borrow.Author.Tests.{eqb-true, eq-eqb}
use Rattle.lists.specs.Lists.{filter, all}
use Rattle.lists.proofs.Tests.{cases, and_intro, and_left, and_right}

module _ {A : Type 0} where
  pub filter_append : (f : A → Bool) (l m : List A) → filter f (l ++ m) ≡ filter f l ++ filter f m
  filter_append f [] m = refl
  filter_append f (x ∷ xs) m = let ih = filter_append f xs m in cases (f x) (λ e. cc) (λ e. cc)

  -- one filter after another is their conjunction
  pub filter_filter : (f g : A → Bool) (l : List A) → filter f (filter g l) ≡ filter (λ x. f x && g x) l
  filter_filter f g [] = refl
  filter_filter f g (x ∷ xs) =
      let ih = filter_filter f g xs in
      cases (g x) (λ e. cases (f x) (λ d. cc) (λ d. cc)) (λ e. cases (f x) (λ d. cc) (λ d. cc))

  -- a test that holds only where h does may be tried after h
  pub filter_within : (f g h : A → Bool) → ((x : A) → h x ≡ true → f x ≡ g x) → ((x : A) → h x ≡ false → g x ≡ false)
      → (l : List A) → filter f (filter h l) ≡ filter g l
  filter_within f g h same none [] = refl
  filter_within f g h same none (x ∷ xs) =
      let ih = filter_within f g h same none xs in
      cases (h x) (λ e. cc (same x e)) (λ e. cc (none x e))

  -- tests that agree on the elements
  pub filter_alike : (f g h : A → Bool) → ((x : A) → h x ≡ true → f x ≡ g x) → (l : List A) → all h l ≡ true → filter f l ≡ filter g l
  filter_alike f g h same [] a = refl
  filter_alike f g h same (x ∷ xs) a =
      cc (same x (and_left (h x) (all h xs) a), filter_alike f g h same xs (and_right (h x) (all h xs) a))

  filter_ext : (f g : A → Bool) (l : List A) → ((x : A) → f x ≡ g x) → filter f l ≡ filter g l
  filter_ext f g [] h = refl
  filter_ext f g (x ∷ xs) h = cc (h x, filter_ext f g xs h)

  pub filter_comm : (f g : A → Bool) (l : List A) → filter f (filter g l) ≡ filter g (filter f l)
  filter_comm f g l = filter_filter f g l ∙ filter_ext (λ x. f x && g x) (λ x. g x && f x) l (λ x. and_comm (f x) (g x)) ∙ sym (filter_filter g f l)

  pub filter_true : (l : List A) → filter (λ x. true) l ≡ l
  filter_true [] = refl
  filter_true (x ∷ xs) = cc (filter_true xs)

  pub length_filter : (f : A → Bool) (l : List A) → length (filter f l) ≤ length l
  length_filter f [] = omega arith
  length_filter f (x ∷ xs) = let ih = length_filter f xs in cases (f x) (λ e. rw e (omega arith)) (λ e. rw e (omega arith))

  -- a list whose elements all pass
  pub filter_all : (f : A → Bool) (l : List A) → all f l ≡ true → filter f l ≡ l
  filter_all f [] h = refl
  filter_all f (x ∷ xs) h = cc (and_left (f x) (all f xs) h, filter_all f xs (and_right (f x) (all f xs) h))

  pub filter_none : (f g : A → Bool) → ((x : A) → g x ≡ true → f x ≡ false) → (l : List A) → all g l ≡ true → filter f l ≡ []
  filter_none f g h [] a = refl
  filter_none f g h (x ∷ xs) a = cc (h x (and_left (g x) (all g xs) a), filter_none f g h xs (and_right (g x) (all g xs) a))

  pub all_filter : (f : A → Bool) (l : List A) → all f (filter f l) ≡ true
  all_filter f [] = refl
  all_filter f (x ∷ xs) = let ih = all_filter f xs in cases (f x) (λ e. cc) (λ e. cc)

  -- what all elements pass, all of some of them pass
  pub all_filtered : (f g : A → Bool) (l : List A) → all f l ≡ true → all f (filter g l) ≡ true
  all_filtered f g [] h = refl
  all_filtered f g (x ∷ xs) h =
      let ih = all_filtered f g xs (and_right (f x) (all f xs) h) in
      let k = and_left (f x) (all f xs) h in
      cases (g x) (λ e. cc) (λ e. cc)

  pub all_take : (f : A → Bool) (n : ℕ) (l : List A) → all f l ≡ true → all f (take n l) ≡ true
  all_take f zero l h = refl
  all_take f (suc n) [] h = refl
  all_take f (suc n) (x ∷ xs) h = and_intro (and_left (f x) (all f xs) h) (all_take f n xs (and_right (f x) (all f xs) h))

  pub all_drop : (f : A → Bool) (n : ℕ) (l : List A) → all f l ≡ true → all f (drop n l) ≡ true
  all_drop f zero l h = h
  all_drop f (suc n) [] h = refl
  all_drop f (suc n) (x ∷ xs) h = all_drop f n xs (and_right (f x) (all f xs) h)

  pub all_append : (f : A → Bool) (l m : List A) → all f l ≡ true → all f m ≡ true → all f (l ++ m) ≡ true
  all_append f [] m h k = k
  all_append f (x ∷ xs) m h k = and_intro (and_left (f x) (all f xs) h) (all_append f xs m (and_right (f x) (all f xs) h) k)

  pub all_weaken : (f g : A → Bool) → ((x : A) → f x ≡ true → g x ≡ true) → (l : List A) → all f l ≡ true → all g l ≡ true
  all_weaken f g h [] a = refl
  all_weaken f g h (x ∷ xs) a = and_intro (h x (and_left (f x) (all f xs) a)) (all_weaken f g h xs (and_right (f x) (all f xs) a))

  pub all_both : (f g h : A → Bool) → ((x : A) → f x ≡ true → g x ≡ true → h x ≡ true) → (l : List A) → all f l ≡ true → all g l ≡ true → all h l ≡ true
  all_both f g h both [] a b = refl
  all_both f g h both (x ∷ xs) a b = and_intro
      (both x (and_left (f x) (all f xs) a) (and_left (g x) (all g xs) b))
      (all_both f g h both xs (and_right (f x) (all f xs) a) (and_right (g x) (all g xs) b))

  -- a test of all elements and one at each place
  pub all_get_d : (f : A → Bool) (d : A) (l : List A) → ((t : ℕ) → f (get_or l t d) ≡ true) → all f l ≡ true
  all_get_d f d [] h = refl
  all_get_d f d (x ∷ xs) h = and_intro (h 0) (all_get_d f d xs (λ t. h (suc t)))

  pub get_d_all : (f : A → Bool) (d : A) (l : List A) → f d ≡ true → all f l ≡ true → (t : ℕ) → f (get_or l t d) ≡ true
  get_d_all f d [] k h t = k
  get_d_all f d (x ∷ xs) k h zero = and_left (f x) (all f xs) h
  get_d_all f d (x ∷ xs) k h (suc t) = get_d_all f d xs k (and_right (f x) (all f xs) h) t

  -- the same, of the places that there are
  pub all_at : (f : A → Bool) (d : A) (l : List A) → ((t : ℕ) → t < length l → f (get_or l t d) ≡ true) → all f l ≡ true
  all_at f d [] h = refl
  all_at f d (x ∷ xs) h = and_intro (h 0 (omega arith)) (all_at f d xs (λ t e. h (suc t) (omega arith)))

  pub at_all : (f : A → Bool) (d : A) (l : List A) → all f l ≡ true → (t : ℕ) → t < length l → f (get_or l t d) ≡ true
  at_all f d [] h t e = absurd (omega arith)
  at_all f d (x ∷ xs) h zero e = and_left (f x) (all f xs) h
  at_all f d (x ∷ xs) h (suc t) e = at_all f d xs (and_right (f x) (all f xs) h) t (omega arith)

-- a list of one number only
pub all_replicate : (z : ℕ) (l : List ℕ) → all (λ x. eqb x z) l ≡ true → l ≡ replicate (length l) z
all_replicate z [] h = refl
all_replicate z (x ∷ xs) h =
    cc (eqb-true x z (and_left (eqb x z) (all (λ x. eqb x z) xs) h), all_replicate z xs (and_right (eqb x z) (all (λ x. eqb x z) xs) h))

pub replicate_all : (z n : ℕ) → all (λ x. eqb x z) (replicate n z) ≡ true
replicate_all z zero = refl
replicate_all z (suc n) = and_intro (eq-eqb z z refl) (replicate_all z n)

pub get_d_replicated : {A : Type 0} (n t : ℕ) (d : A) → get_or (replicate n d) t d ≡ d
get_d_replicated zero t d = refl
get_d_replicated (suc n) zero d = refl
get_d_replicated (suc n) (suc t) d = get_d_replicated n t d
