use Rattle.std.proofs.Common.{◌+◌, ◌-◌, arith}
use Rattle.std.specs.Int.{w64}
use Rattle.lists.specs.LittleEndian.{bytes}
use Rattle.lists.proofs.Endian.{to_le}
use Rattle.lists.proofs.Stores.{sets_copied}
use Rattle.numbers.proofs.put_u64.Goals as goal

pub returns : goal.returns
returns c =
    let k = c.args.k in
    sets_copied c.args.b.now (bytes 8 c.args.v) c.copy_from_slice.new.self k (k + 8 - k)
    (cc (to_le w64 c.args.v)) (omega arith) c.requires
