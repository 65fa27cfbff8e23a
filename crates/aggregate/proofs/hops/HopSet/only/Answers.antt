use Rattle.std.proofs.Common.{refl, arith}
use Rattle.aggregate.proofs.Members.{only_has}
use Rattle.aggregate.proofs.hops.HopSet.only.Goals as goal

pub returns : goal.returns
returns c = only_has _ c.args.hop (omega arith) refl
