use mathlib.Core.Path.{◌≡◌, ap, ◌∙◌}
use mathlib.Core.Bool.{Bool}
use Prim.Native.Nat.{◌+◌, ◌*◌, ◌%◌}
use native.Mathlib.Omega.{arith}
use lib.ListN.{set}
use Rattle.std.specs.Prelude.{is_some, unwrap_or}
use lib.Seq.{sets}
use Rattle.lists.specs.Lists.{bit}
use Rattle.lists.proofs.Tests.{bit_le}
use Rattle.lists.specs.LittleEndian.{bytes}
use Rattle.tables.specs.Sizes.{word_bytes}
use Rattle.tables.specs.Tables.{stored_deadline}
use Rattle.layout.specs.Layout.{time_bytes, waiting_at, timed_at, uaddr_at, bitset_at, deadline_at}
use Rattle.changes.proofs.Writing.{sleep_put}
use Rattle.changes.proofs.put_sleep.Goals as goal

flag_fits : (x : Bool) → bit x ≡ bit x % 256
flag_fits x = omega (arith, bit_le x)

pub returns : goal.returns
returns c =
    λ s w is.
    let b = c.args.b.now in
    let i = c.args.i in
    let sleep = c.args.sleep in
    let has = is_some sleep.deadline in
    let due = stored_deadline has (unwrap_or sleep.deadline 0) in
    let waiting = c.from.ensures ∙ flag_fits c.args.waiting in
    let timed = c.from-2.ensures ∙ ap bit c.is_some.ensures ∙ flag_fits has in
    c.put_u64.ensures
    ∙ ap (λ n. sets c.put_u32-2.new.b (deadline_at + time_bytes * i) (bytes time_bytes n)) c.stored_deadline.ensures
    ∙ ap (λ x. sets x (deadline_at + time_bytes * i) (bytes time_bytes due))
    (c.put_u32-2.ensures
    ∙ ap (λ x. sets x (bitset_at + word_bytes * i) (bytes word_bytes sleep.bitset))
    (c.put_u32.ensures
    ∙ ap (λ x. sets x (uaddr_at + word_bytes * i) (bytes word_bytes sleep.uaddr))
    (λ j. set (set b (waiting_at + i) (waiting j)) (timed_at + i) (timed j))))
    ∙ sleep_put s w i c.requires c.args.waiting sleep.uaddr sleep.bitset has due b is
