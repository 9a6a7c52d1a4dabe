use mathlib.Core.Path.{◌≡◌, ◌∙◌}
use Prim.Native.Nat.{◌+◌, ◌<◌}
use native.Mathlib.Omega.{arith}
use borrow.Author.Rules.{rules}
use lib.ListN.{get_or}
use Rattle.lists.proofs.Tests.{from_bool_bit}
use Rattle.tables.proofs.Sound.{tables_sound, few}
use Rattle.layout.specs.Layout.{list_at, state_at}
use Rattle.layout.proofs.Reading.{count_read}
use Rattle.changes.specs.Change.{is_due}
use Rattle.changes.proofs.Due.{due_read}
use Rattle.changes.proofs.Sifting.{sifting_start, sifting_behind, sifting_read, sifting_next, sifting_all}
use Rattle.changes.proofs.sift.Goals as goal

pub loop-i-init : goal.loop-i-init
loop-i-init c =
    let b = c.args.b.now in
    let s = state_at b in
    let all : c.u64_at-count.result ≡ s.count = c.u64_at-count.ensures.0 ∙ count_read b in
    record {
      room = omega (arith, all, few s (tables_sound s c.requires.sound));
      all = all;
      sifting = sifting_start (is_due c.args.time s) s c.requires.sound b c.args.who.now c.requires.bytes (search rules);
    }

pub loop-i-preserved : goal.loop-i-preserved
loop-i-preserved c =
    let b = c.args.b.now in
    let s = state_at b in
    let f = is_due c.args.time s in
    let l = c.loop-i in
    let g = l.invariant.sifting in
    let on : l.i < s.count = omega (arith, l.invariant.all) in
    let x = get_or l.b (list_at + l.i) 0 in
    let here = sifting_read f s c.requires.sound l.b l.who l.n l.w l.i g on in
    let behind = sifting_behind f s c.requires.sound l.b l.who l.n l.w l.i g b c.requires.bytes in
    let hit : c.is_due-hit.result ≡ f x = c.is_due-hit.ensures ∙ due_read b c.requires l.b behind c.args.time l.i x on here in
    record {
      room = l.invariant.room;
      all = l.invariant.all;
      sifting = rw (c.from-w.ensures, from_bool_bit, c.from-n.ensures, from_bool_bit, c.either.ensures)
          (sifting_next f s c.requires.sound l.b l.who l.n l.w l.i g on x here c.is_due-hit.result hit);
    }

pub returns : goal.returns
returns c =
    let s = state_at c.args.b.now in
    let l = c.loop-i in
    sifting_all (is_due c.args.time s) s c.requires.sound l.b l.who l.n l.w l.i l.invariant.sifting (omega (arith, l.invariant.all)) _ c.put_u64.ensures
