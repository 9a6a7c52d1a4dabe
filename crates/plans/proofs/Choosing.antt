-- Threads written down one by one: the first n of a table, and m from a place on.
use mathlib.Core.Path.{◌≡◌, sym, ap, ◌∙◌}
use mathlib.Core.Bool.{cond}
use mathlib.Core.List.{List, ◌++◌}
use Prim.Native.Nat.{ℕ, ◌+◌, ◌-◌, ◌<◌}
use native.Mathlib.Omega.{arith}
use lib.ListN.{length, get_or, length-append, get_or-append}
use lib.Seq.{get_or-append-add, ext_get_or}
use lib.Dec.{ltb}
use borrow.Author.Tests.{ltb-true, ltb-false}
use Rattle.lists.specs.Lists.{tabulate}
use Rattle.lists.proofs.Tests.{cases}
use Rattle.lists.proofs.Tabulate.{length_tabulate, get_d_tabulate}

module _ (n from m : ℕ) (f : ℕ → ℕ) (l : List ℕ) (long : length l ≡ n + m)
    (is : (t : ℕ) → t < n + m → get_or l t 0 ≡ f (cond (ltb t n) t (from + (t - n)))) where
  abbrev one : List ℕ
  one = tabulate n f

  abbrev two : List ℕ
  two = tabulate m (λ k. f (from + k))

  sum : length (one ++ two) ≡ n + m
  sum = omega (arith, length-append one two, length_tabulate n f, length_tabulate m (λ k. f (from + k)))

  at : (t : ℕ) → t < length l → get_or l t 0 ≡ get_or (one ++ two) t 0
  at t h =
      is t (omega (arith, long)) ∙ cases (ltb t n)
      (λ e.
      let first = ltb-true t n e in
      rw e (sym (get_or-append one two 0 t (omega (arith, length_tabulate n f)) ∙ get_d_tabulate n f t 0 first)))
      (λ e.
      let next = ltb-false t n e in
      let there : t ≡ length one + (t - n) = omega (arith, length_tabulate n f) in
      rw e (sym (ap (λ j. get_or (one ++ two) j 0) there ∙ get_or-append-add one two (t - n) 0 ∙ get_d_tabulate m (λ k. f (from + k)) (t - n) 0 (omega (arith, long)))))

  pub chosen_all : l ≡ one ++ two
  chosen_all = ext_get_or 0 l (one ++ two) (long ∙ sym sum) at
