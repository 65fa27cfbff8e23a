use Rattle.std.proofs.Common.{arith}
use Rattle.aggregate.proofs.Members.{empty_is, four}
use Rattle.aggregate.proofs.hops.HopSet.is_empty.Goals as goal

pub returns : goal.returns
returns c = empty_is c.args.self.now _ _ _ _ (four c.args.self.now.words (omega arith)) (omega arith) (omega arith) (omega arith) (omega arith)
