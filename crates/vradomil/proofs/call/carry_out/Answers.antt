use mathlib.Core.Path.{◌≡◌, refl, sym, ap, ◌∙◌}
use Prim.Native.Nat.{◌+◌, ◌-◌, ◌≤◌}
use native.Mathlib.Omega.{arith}
use borrow.Author.Rules.{rules}
use lib.ListN.{length, take, drop}
use Rattle.lists.specs.Lists.{all, distinct}
use Rattle.tables.specs.declared.LastAnswer.TheVariants.{Woken}
use Rattle.tables.specs.Sizes.{threads_per_process, memory_words}
use Rattle.tables.specs.Tables.{world, thread_number, end_sleeps, move_sleeps}
use Rattle.rules.specs.Answers.{Outcome}
use Rattle.layout.specs.Layout.{state_at, tables_bytes, words_at, words_bytes}
use Rattle.layout.proofs.Exact.{words_exact}
use Rattle.commands.proofs.Places.{thread_there}
use Rattle.plans.specs.declared.Take.{Take}
use Rattle.plans.specs.Plans.{released_of, moved_of}
use Rattle.plans.proofs.Carried.{taken_from, carried_asleep, carried_answer, carried_state, carried_words, taken_many, taken_all}
use Rattle.vradomil.specs.Host.{host_number}
use Rattle.vradomil.proofs.Steps.{leaves_by}
use Rattle.vradomil.proofs.call.carry_out.Goals as goal
use Rattle.vradomil.proofs.call.carry_out.Goals.{After-column_of-at}

pub returns-in-Sleep : goal.returns-in-Sleep
returns-in-Sleep c =
    let a = c.args in
    let d = c.in-Sleep.d in
    let m = a.words.now in
    let w = world (state_at a.b.now) (words_at m) in
    let at = thread_there _ _ c.thread_index-t.ensures c.requires.0.granted.ready.process c.requires.0.granted.ready.index in
    let is = sym (carried_asleep a.c d w) in
    rw c.in-Sleep.is (
      leaves_by _ _ _ _ is (record {
        number = refl;
        small = omega arith;
        bytes = c.fall_asleep.ensures ∙ rw at;
      }),
      words_exact memory_words m c.requires.0.long c.fits-words ∙ ap (λ (o : Outcome). words_bytes o.world.words) is,
    )

-- those that end and those that move are those of the plan
module _ (c : After-column_of-at) where
  abbrev d : Take
  d = c.in-Take.d

  room : d.released + d.moved ≤ length d.taken
  room = let few = (c.requires.1.fits d c.in-Take.is).few in let long : length d.taken ≡ threads_per_process = search rules in omega arith

  moved_are : take (d.released + d.moved - d.released) (drop d.released d.taken) ≡ moved_of d
  moved_are = let more : d.released + d.moved - d.released ≡ d.moved = omega arith in rw more

pub overflow_add-d : goal.overflow_add-d
overflow_add-d c = let few = (c.requires.1.fits c.in-Take.d c.in-Take.is).few in omega arith

pub shared_ref_as_front-take : goal.shared_ref_as_front-take
shared_ref_as_front-take c = omega (arith, room (goal.at.shared_ref_as_front-take c).After-column_of-at)

pub slice_bounds-take-end-in-Take : goal.slice_bounds-take-end-in-Take
slice_bounds-take-end-in-Take c = omega (arith, room (goal.at.slice_bounds-take-end-in-Take c).After-column_of-at)

pub take-requires : goal.take-requires
take-requires c =
    let d = c.in-Take.d in
    let f = c.requires.1.fits d c.in-Take.is in
    let h = (goal.at.take-requires c).After-column_of-at in
    let whole = taken_all d (room h) in
    let p = c.args.c.process in (
      c.requires.0.held,
      rw (moved_are h) (record {
        process = p;
        column = λ i h. c.column_of-at.ensures i h ∙ c.requires.0.places (thread_number p i) (omega (arith, c.requires.0.granted.ready.process));
        few = omega (arith, f.few, taken_many d (room h));
        own = ap (all _) whole ∙ f.own;
        each = ap (all _) whole ∙ f.each;
        apart = ap distinct whole ∙ f.apart;
      }),
    )

pub returns-in-Take : goal.returns-in-Take
returns-in-Take c =
    let d = c.in-Take.d in
    let s = state_at c.args.b.now in
    let w = world s (words_at c.args.words.now) in
    let moved = moved_are (goal.at.returns-in-Take c).After-column_of-at in
    rw c.in-Take.is (
      record {
        number = ap host_number (sym (carried_answer c.args.c d w));
        small = omega (arith, (c.requires.1.fits d c.in-Take.is).small);
        bytes = c.take.ensures ∙ ap (λ ms. tables_bytes (move_sleeps c.args.c.uaddr2 ms (end_sleeps Woken (released_of d) s))) moved ∙ ap tables_bytes (sym (carried_state c.args.c d w));
      },
      c.put_word.ensures (taken_from c.args.c d (state_at c.args.b.now)) ∙ ap words_bytes (sym (carried_words c.args.c d w)),
    )
