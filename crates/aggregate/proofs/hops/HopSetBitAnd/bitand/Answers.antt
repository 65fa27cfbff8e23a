use Rattle.std.proofs.Common.{rules, arith}
use Rattle.aggregate.proofs.Members.{meet_has}
use Rattle.aggregate.proofs.hops.HopSetBitAnd.bitand.Goals as goal

pub returns : goal.returns
returns c = meet_has c.args.self c.args.other _ (omega arith) (omega arith) (omega arith) (λ i h. let e = c.from_fn.ensures.items.at i 0 h in search rules)
