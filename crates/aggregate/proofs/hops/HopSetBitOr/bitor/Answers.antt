use Rattle.std.proofs.Common.{rules, arith}
use Rattle.aggregate.proofs.Members.{union_has}
use Rattle.aggregate.proofs.hops.HopSetBitOr.bitor.Goals as goal

pub returns : goal.returns
returns c = union_has c.args.self c.args.other _ (omega arith) (omega arith) (omega arith) (λ i h. let e = c.from_fn.ensures.items.at i 0 h in search rules)
