use Rattle.prefix.proofs.Shifts.{shl_any}
use Rattle.prefix.proofs.shift.shl.Goals as goal

pub returns : goal.returns
returns c = rw (c.unbounded_shl.ensures, c.from.ensures) (shl_any c.args.word c.args.n)
