-- Whom a plan takes are those whom the rules take, and what it leaves is what they leave.
use mathlib.Core.Path.{◌≡◌, refl, sym, ap, subst, subst₂, ◌∙◌}
use mathlib.Core.Bool.{Bool, true, false, not, cond, ◌&&◌, ◌||◌}
use mathlib.Core.List.{List, [], ◌++◌, append-nil}
use Prim.Native.Nat.{ℕ, ◌+◌, ◌-◌, ◌≤◌, min}
use native.Mathlib.Omega.{arith}
use lib.ListN.{length, take, drop, length-append}
use lib.Seq.{take-add, take-append-le, drop-append_seam}
use lib.Dec.{eqb}
use borrow.Author.Tests.{eqb-true, eq-eqb}
use Rattle.lists.specs.Lists.{elem, without, left_over, tabulate}
use Rattle.lists.proofs.Tests.{cases, clash, and_left, and_right}
use Rattle.lists.proofs.Filter.{filter_true, filter_all}
use Rattle.lists.proofs.Occurs.{occurs, elem_all, all_elem}
use Rattle.lists.proofs.LeftOver.{without_taken, filter_left_over}
use Rattle.lists.proofs.Tabulate.{length_tabulate, tabulate_part, tabulate_first}
use Rattle.tables.specs.declared.State.{State}
use Rattle.tables.specs.Editions.{present}
use Rattle.tables.specs.Tables.{World, tables_ok}
use Rattle.tables.proofs.Sound.{Sound, tables_sound, once}
use Rattle.rules.specs.declared.event.Command.{Command}
use Rattle.rules.specs.declared.event.Call.{Call}
use Rattle.rules.specs.declared.event.Uses.{Uses}
use Rattle.rules.specs.Commands.{command_of, uses}
use Rattle.rules.specs.WakeOp.{compares}
use Rattle.rules.specs.Calls.{second_cap, matches, candidates_in, candidates, released_in, released, moved_in, moved, old_word, released_second}
use Rattle.rules.proofs.Chosen.{candidate_at, candidates_pass, candidates_listed, released_pass, at_first}
use Rattle.views.specs.declared.View.{View}
use Rattle.views.specs.declared.Ordered.{Ordered}
use Rattle.views.specs.Views.{Views, may_take, by_rank, Candidates}
use Rattle.plans.specs.declared.Takes.{Takes}
use Rattle.plans.proofs.Uses.{moves_second}
use Rattle.plans.specs.Plans.{Takes-of}
use Rattle.plans.proofs.Parts.{AtOneWord, AtTwoWords, one_word, two_words}

-- a list without its first n is what is left behind them
without_take : (l : List ℕ) (n : ℕ) → ((t : ℕ) → occurs t l ≤ 1) → without (take n l) l ≡ drop n l
without_take l n single =
    ap (λ m. without (take n m) l) (sym (filter_true l))
    ∙ without_taken (λ t. true) l n single
    ∙ sym (filter_true (left_over (λ t. true) n l))
    ∙ filter_left_over (λ t. true) l n
    ∙ ap (drop n) (filter_true l)

without_others : (ts l : List ℕ) → ((t : ℕ) → elem t l ≡ true → elem t ts ≡ false) → without ts l ≡ l
without_others ts l apart = filter_all (λ t. not (elem t ts)) l (all_elem (λ t. not (elem t ts)) l (λ t e. ap not (apart t e)))

-- the sleepers that the view shows are those that the rules may take
view_candidates : (c : Call) (s : State) (a : ℕ) (u : Uses) → u ≡ uses (command_of c.op)
    → may_take c.process a (not u.mask) c.val3 s ≡ candidates (matches (command_of c.op) c) c.process a s
unfolding candidates_in
view_candidates c s a u is = ap (λ (x : Uses). may_take c.process a (not x.mask) c.val3 s) is

module _ (c : Call) (w : World) (g : Sound w.state) where
  abbrev k : Command
  k = command_of c.op

  abbrev at : ℕ → List ℕ
  at a = candidates (matches k c) c.process a w.state

  single : (a t : ℕ) → occurs t (at a) ≤ 1
  single a t = omega (arith, candidates_listed present (matches k c) c.process a w.state t, once w.state g t)

  -- a sleeper of one word is none of another
  apart : eqb c.uaddr c.uaddr2 ≡ false → (t : ℕ) → elem t (at c.uaddr2) ≡ true → elem t (released k c w.state) ≡ false
  apart differ t e = cases (elem t (released k c w.state))
      (λ d.
      let here = candidate_at present (matches k c) c.process c.uaddr w.state t (elem_all (at_first present k c w.state) (released k c w.state) (released_pass present k c w.state) t d) in
      let there = candidate_at present (matches k c) c.process c.uaddr2 w.state t (elem_all _ (at c.uaddr2) (candidates_pass present (matches k c) c.process c.uaddr2 w.state) t e) in
      clash (eqb c.uaddr c.uaddr2) (eq-eqb c.uaddr c.uaddr2 (sym here ∙ there)) differ)
      (λ d. d)

  -- whom a WAKE_OP releases at the second word
  module _ (holds : Bool) (is : (uses k).second ≡ true → (uses k).moves ≡ false → compares c.val3 (old_word c w) ≡ holds) where
    second_same : (uses k).second ≡ true → (uses k).moves ≡ false → (holds && not (eqb c.uaddr c.uaddr2)) ≡ false
        → take (cond holds (second_cap c) 0) (drop c.val (at c.uaddr)) ≡ released_second k c w
    unfolding released_second released_in
    second_same d m one = cases holds
        (λ e.
        let same : c.uaddr ≡ c.uaddr2 = cases (eqb c.uaddr c.uaddr2) (λ q. eqb-true c.uaddr c.uaddr2 q) (λ q. clash (holds && not (eqb c.uaddr c.uaddr2)) (rw (e, q)) one) in
        rw (is d m, e) (ap (take (second_cap c)) (sym (without_take (at c.uaddr) c.val (single c.uaddr)) ∙ ap (λ a. without (take c.val (at c.uaddr)) (at a)) same)))
        (λ e. rw (is d m, e))

    second_other : (uses k).second ≡ true → (uses k).moves ≡ false → holds ≡ true → eqb c.uaddr c.uaddr2 ≡ false → take (second_cap c) (at c.uaddr2) ≡ released_second k c w
    unfolding released_second
    second_other d m e differ = rw (is d m, e) (ap (take (second_cap c)) (sym (without_others (released k c w.state) (at c.uaddr2) (apart differ))))

    -- at one word
    module _ (cap2 : ℕ) (limit : cap2 ≡ cond ((uses k).second && ((uses k).moves || holds)) (second_cap c) 0) (r : Takes) where
      released_one : ((uses k).second && not (uses k).moves && holds && not (eqb c.uaddr c.uaddr2)) ≡ false
          → cond (uses k).moves (take c.val (at c.uaddr)) (take (c.val + cap2) (at c.uaddr))
          ≡ released k c w.state ++ cond ((uses k).second && not (uses k).moves) (released_second k c w) []
      unfolding released_in
      released_one one = cases (uses k).moves
          (λ m. rw (m, moves_second k m) (sym (append-nil (take c.val (at c.uaddr)))))
          (λ m. cases (uses k).second
          (λ d. rw (m, d) (ap (λ n. take (c.val + n) (at c.uaddr)) (limit ∙ rw (m, d)) ∙ take-add c.val (cond holds (second_cap c) 0) (at c.uaddr)
          ∙ ap (take c.val (at c.uaddr) ++◌) (second_same d m (rw (m, d) at one))))
          (λ d. rw (m, d) (ap (λ n. take (c.val + n) (at c.uaddr)) (limit ∙ rw (m, d)) ∙ take-add c.val 0 (at c.uaddr))))

      moved_one : cond (uses k).moves (take cap2 (drop c.val (at c.uaddr))) [] ≡ cond (uses k).moves (moved k c w.state) []
      unfolding moved_in
      moved_one = cases (uses k).moves
          (λ m.
          let cap : cap2 ≡ second_cap c = limit ∙ rw (m, moves_second k m) in
          rw m (ap (λ n. take n (drop c.val (at c.uaddr))) cap))
          (λ m. rw m)

      takes_one : ((uses k).second && not (uses k).moves && holds && not (eqb c.uaddr c.uaddr2)) ≡ false
          → AtOneWord (at c.uaddr) c.val cap2 (uses k).moves r → Takes-of c w r
      takes_one one t = record { released = t.released ∙ released_one one; moved = t.moved ∙ moved_one }

      takes_two : ((uses k).second && not (uses k).moves && holds && not (eqb c.uaddr c.uaddr2)) ≡ true
          → AtTwoWords (at c.uaddr) c.val (at c.uaddr2) cap2 r → Takes-of c w r
      unfolding released_in
      takes_two two t =
          let last = and_right ((uses k).second && not (uses k).moves && holds) (not (eqb c.uaddr c.uaddr2)) two in
          let front = and_left ((uses k).second && not (uses k).moves && holds) (not (eqb c.uaddr c.uaddr2)) two in
          let true_for = and_right ((uses k).second && not (uses k).moves) holds front in
          let wake_op = and_left ((uses k).second && not (uses k).moves) holds front in
          let second = and_left (uses k).second (not (uses k).moves) wake_op in
          let stays : (uses k).moves ≡ false = cases (uses k).moves (λ m. clash (not (uses k).moves) (and_right (uses k).second (not (uses k).moves) wake_op) (ap not m)) (λ m. m) in
          let differ : eqb c.uaddr c.uaddr2 ≡ false = cases (eqb c.uaddr c.uaddr2) (λ e. clash (not (eqb c.uaddr c.uaddr2)) last (ap not e)) (λ e. e) in
          let cap : cap2 ≡ second_cap c = limit ∙ rw (second, stays, true_for) in
          record {
            released = t.released ∙ ap (take c.val (at c.uaddr) ++◌) (ap (λ n. take n (at c.uaddr2)) cap ∙ (unfold released_in in second_other second stays true_for differ)) ∙ rw (second, stays);
            moved = ap (λ n. take n (drop r.released r.taken)) t.moved ∙ rw stays;
          }

-- What is taken by rank: the first of the first word and, from a rank on, the next of it or the first of the second.
module _ (c : Call) (w : World) (sound : tables_ok w.state ≡ true) (v : View) (views : Views c.process w.state v) (holds : Bool)
    (is : (uses (command_of c.op)).second ≡ true → (uses (command_of c.op)).moves ≡ false → compares c.val3 (old_word c w) ≡ holds) where
  -- whether two words count
  abbrev pub two : Uses → Bool
  two u = u.second && not u.moves && holds && not (eqb c.uaddr c.uaddr2)

  abbrev by : Ordered → ℕ → ℕ
  by o = by_rank c.process o.rank

  abbrev pub Chooses : Uses → Type 0
  Chooses u =
      (o : Ordered) → Candidates v c.uaddr c.uaddr2 (two u) (not u.mask) c.val3 o → (cap2 n from rest m away : ℕ)
      → cap2 ≡ cond (u.second && (u.moves || holds)) (second_cap c) 0 → n ≡ min o.n c.val → from ≡ cond (two u) o.n n → rest ≡ cond (two u) o.m (o.n - n)
      → m ≡ min rest cap2 → away ≡ cond u.moves m 0 → (who : List ℕ) → take (n + m) who ≡ tabulate n (by o) ++ tabulate m (λ k. by o (from + k))
      → Takes-of c w (record { taken = who; released = n + (m - away); moved = away })

  abbrev u : Uses
  u = uses (command_of c.op)

  abbrev sleepers : ℕ → List ℕ
  sleepers a = may_take c.process a (not u.mask) c.val3 w.state

  right : Chooses u
  right o shows cap2 n from rest m away limit first start left next some who is-who = cases (two u) both alone
    where
      here : List ℕ
      here = sleepers c.uaddr

      size : o.n ≡ length here
      size = shows.first c.process w.state sound views

      first_is : tabulate n (by o) ≡ take n (tabulate (o.n + o.m) (by o))
      first_is = tabulate_first (o.n + o.m) n (by o) (omega arith)

      alone : two u ≡ false → Takes-of c w (record { taken = who; released = n + (m - away); moved = away })
      alone e =
          let table : tabulate (o.n + o.m) (by o) ≡ here = shows.taken c.process w.state sound views ∙ rw e (append-nil here) in
          let from_is : from ≡ n = start ∙ rw e in
          let rest_is : rest ≡ o.n - n = left ∙ rw e in
          let next_is : tabulate m (λ k. by o (from + k)) ≡ take m (drop n here) =
          tabulate_part (o.n + o.m) from m (by o) (omega arith) ∙ (λ i. take m (drop (from_is i) (table i))) in
          takes_one c w (tables_sound w.state sound) holds is cap2 limit (record { taken = who; released = n + (m - away); moved = away }) e
          (subst (λ l. AtOneWord l c.val cap2 u.moves (record { taken = who; released = n + (m - away); moved = away })) (view_candidates c w.state c.uaddr u refl)
          (one_word here who c.val cap2 u.moves n m away (omega (arith, size)) (omega (arith, size)) some
          (is-who ∙ (λ i. (first_is ∙ ap (take n) table) i ++ next_is i))))

      both : two u ≡ true → Takes-of c w (record { taken = who; released = n + (m - away); moved = away })
      both e =
          let there = sleepers c.uaddr2 in
          let table : tabulate (o.n + o.m) (by o) ≡ here ++ there = shows.taken c.process w.state sound views ∙ rw e in
          let all : o.n + o.m ≡ length here + length there = sym (length_tabulate (o.n + o.m) (by o)) ∙ ap length table ∙ length-append here there in
          let from_is : from ≡ length here = start ∙ rw e size in
          let rest_is : rest ≡ length there = left ∙ rw e (omega (arith, size, all)) in
          let stays = and_right u.second (not u.moves) (and_left (u.second && not u.moves) holds (and_left (u.second && not u.moves && holds) (not (eqb c.uaddr c.uaddr2)) e)) in
          let none : away ≡ 0 = some ∙ cases u.moves (λ q. clash (not u.moves) stays (ap not q)) (λ q. rw q) in
          let next_is : tabulate m (λ k. by o (from + k)) ≡ take m there =
          tabulate_part (o.n + o.m) from m (by o) (omega (arith, all)) ∙ (λ i. take m (drop (from_is i) (table i))) ∙ ap (take m) (drop-append_seam here there) in
          takes_two c w (tables_sound w.state sound) holds is cap2 limit (record { taken = who; released = n + (m - away); moved = away }) e
          (subst₂ (λ l k. AtTwoWords l c.val k cap2 (record { taken = who; released = n + (m - away); moved = away }))
          (view_candidates c w.state c.uaddr u refl) (view_candidates c w.state c.uaddr2 u refl)
          (two_words here there who c.val cap2 n m away (omega (arith, size)) (omega arith) none
          (is-who ∙ (λ i. (first_is ∙ ap (take n) table ∙ take-append-le n here there (omega (arith, size))) i ++ next_is i))))

  pub chooses : (x : Uses) → x ≡ u → Chooses x
  chooses x e = subst Chooses (sym e) right
