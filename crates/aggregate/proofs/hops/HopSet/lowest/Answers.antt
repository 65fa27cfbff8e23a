use Rattle.std.proofs.Common.{arith}
use Rattle.aggregate.proofs.Members.{lowest_some}
use Rattle.aggregate.proofs.hops.HopSet.lowest.Goals as goal

pub returns-then-word-ne0 : goal.returns-then-word-ne0
returns-then-word-ne0 c = lowest_some c.args.self.now c.loop-i.i (omega arith) (omega arith) c.loop-i.invariant
