use Rattle.std.proofs.Common.{◌+◌, ◌-◌, arith}
use Rattle.std.specs.Int.{w32}
use Rattle.lists.specs.LittleEndian.{bytes}
use Rattle.lists.proofs.Endian.{to_le}
use Rattle.lists.proofs.Stores.{sets_copied}
use Rattle.numbers.proofs.put_u32.Goals as goal

pub returns : goal.returns
returns c =
    let k = c.args.k in
    sets_copied c.args.b.now (bytes 4 c.args.v) c.copy_from_slice.new.self k (k + 4 - k)
    (cc (to_le w32 c.args.v)) (omega arith) c.requires
