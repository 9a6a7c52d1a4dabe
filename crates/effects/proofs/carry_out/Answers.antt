use mathlib.Core.Path.{◌≡◌, sym, ap, ◌∙◌}
use Prim.Native.Nat.{ℕ, ◌+◌, ◌-◌, ◌≤◌}
use native.Mathlib.Omega.{arith}
use borrow.Author.Rules.{rules}
use borrow.Author.Tests.{lt-ltb}
use mathlib.Core.List.{List, ◌++◌}
use lib.ListN.{length, take, drop, length-append}
use lib.Seq.{length-take-le, take-add, take-take, take_all}
use Rattle.std.proofs.lemmas.List.{drop-take}
use lib.Dec.{ltb}
use Rattle.lists.specs.Lists.{all, elem, distinct}
use Rattle.lists.proofs.Occurs.{all_elem, elem_all}
use Rattle.commands.proofs.Places.{thread_there}
use Rattle.tables.specs.declared.LastAnswer.TheVariants.{Woken}
use Rattle.tables.specs.Sizes.{threads_per_process, threads}
use Rattle.tables.specs.Tables.{world, arrivals, end_sleeps, move_sleeps}
use Rattle.tables.proofs.Sound.{tables_sound, listed_below}
use Rattle.plans.specs.declared.Take.{Take}
use Rattle.plans.specs.Plans.{carried}
use Rattle.plans.proofs.Carried.{taken_from, carried_answer, carried_state, carried_words}
use Rattle.effects.proofs.carry_out.Goals as goal
use Rattle.effects.proofs.carry_out.Goals.{After-put_word, After-entries-taken}

pub returns-in-Sleep : goal.returns-in-Sleep
unfolding carried
returns-in-Sleep c =
    let g = c.requires.0.ready in
    let at = thread_there _ _ c.thread_index-t.ensures g.process g.index in
    (rw (c.in-Sleep.is, c.fall_asleep-state.ensures, at), rw c.in-Sleep.is)

room : (c : After-put_word) → c.in-Take.d.released + c.in-Take.d.moved ≤ length c.in-Take.d.taken
room c =
    let few = (c.requires.1.1.fits c.in-Take.d c.in-Take.is).few in
    let long : length c.in-Take.d.taken ≡ threads_per_process = search rules in
    omega arith

pub shared_ref_as_front-entries : goal.shared_ref_as_front-entries
shared_ref_as_front-entries c = omega (arith, room (goal.at.shared_ref_as_front-entries c).After-put_word)

pub entries-taken-requires : goal.entries-taken-requires
entries-taken-requires c =
    let s = c.args.s in
    let d = c.in-Take.d in
    let l = take (d.released + d.moved) d.taken in
    let f = c.requires.1.1.fits d c.in-Take.is in (
      omega (arith, f.few, length-take-le (d.released + d.moved) d.taken (room (goal.at.entries-taken-requires c).After-put_word)),
      all_elem (λ t. ltb t threads) l (λ t e. lt-ltb t threads (listed_below s (tables_sound s c.requires.0.ready.tables) t (elem_all (λ x. elem x (arrivals s)) l f.each t e))),
    )

pub overflow_add-d : goal.overflow_add-d
overflow_add-d c = let few = (c.requires.1.1.fits c.in-Take.d c.in-Take.is).few in omega arith

-- those that end and those that move are those of the plan
module _ (c : After-entries-taken) where
  abbrev d : Take
  d = c.in-Take.d

  abbrev l : List ℕ
  l = c.entries-taken.result

  abbrev ms : List ℕ
  ms = take (d.released + d.moved - d.released) (drop d.released l)

  same : take (d.released + d.moved) l ≡ take (d.released + d.moved) d.taken
  same =
      ap (λ n. take n l) (sym (length-take-le (d.released + d.moved) d.taken (room (goal.at.After-entries-taken c).After-put_word))) ∙ c.entries-taken.ensures

  moved : ms ≡ take d.moved (drop d.released l)
  moved = let more : d.released + d.moved - d.released ≡ d.moved = omega arith in rw more

  ended_are : take d.released l ≡ take d.released d.taken
  ended_are =
      let n = d.released + d.moved in
      sym (take-take d.released n l (omega arith)) ∙ ap (take d.released) same ∙ take-take d.released n d.taken (omega arith)

  moved_are : ms ≡ take d.moved (drop d.released d.taken)
  moved_are = moved ∙ sym (drop-take d.released d.moved l) ∙ ap (drop d.released) same ∙ drop-take d.released d.moved d.taken

  both : take d.released l ++ ms ≡ take (d.released + d.moved) d.taken
  both = ap (take d.released l ++◌) moved ∙ sym (take-add d.released d.moved l) ∙ same

  few : length (take d.released l) + length ms ≤ threads
  few =
      let some = (c.requires.1.1.fits d c.in-Take.is).few in
      omega (arith, length-append (take d.released l) ms, ap length both, length-take-le (d.released + d.moved) d.taken (room (goal.at.After-entries-taken c).After-put_word))

  whole : take (length (take d.released l) + length ms) (take d.released l ++ ms) ≡ take (d.released + d.moved) d.taken
  whole = take_all (length (take d.released l) + length ms) (take d.released l ++ ms) (omega (arith, length-append (take d.released l) ms)) ∙ both

pub take-next-requires : goal.take-next-requires
take-next-requires c =
    let f = c.requires.1.1.fits c.in-Take.d c.in-Take.is in
    let h = (goal.at.take-next-requires c).After-entries-taken in
    (c.requires.0.ready.tables, record { places = c.requires.1.0; few = few h; each = ap (all _) (whole h) ∙ f.each; apart = ap distinct (whole h) ∙ f.apart })

pub returns-in-Take : goal.returns-in-Take
returns-in-Take c =
    let d = c.in-Take.d in
    let w = world c.args.s c.args.words.now in
    let h = (goal.at.returns-in-Take c).After-entries-taken in
    let state = c.take-next.ensures ∙ (λ i. move_sleeps c.args.c.uaddr2 (moved_are h i) (end_sleeps Woken (ended_are h i) c.args.s)) ∙ sym (carried_state c.args.c d w) in
    rw c.in-Take.is (
      c.counted.ensures ∙ (λ i. record { answer = sym (carried_answer c.args.c d w) i; state = state i }),
      c.put_word.ensures (taken_from c.args.c d c.args.s) ∙ sym (carried_words c.args.c d w),
    )
