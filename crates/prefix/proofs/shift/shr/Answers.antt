use Rattle.std.proofs.Common.{arith}
use Rattle.prefix.proofs.Shifts.{shr_any}
use Rattle.prefix.proofs.shift.shr.Goals as goal

pub returns : goal.returns
returns c = rw (c.unbounded_shr.ensures, c.from.ensures) (shr_any c.args.word c.args.n (omega arith))
