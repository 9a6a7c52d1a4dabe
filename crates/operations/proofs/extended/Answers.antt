use Rattle.rules.proofs.WakeOp.{high_word}
use Rattle.operations.proofs.extended.Goals as goal

pub returns-else-arg : goal.returns-else-arg
returns-else-arg c = high_word c.args.arg c.if-arg.false c.ranges.arg.fits
