use Rattle.std.proofs.Common.{rules, arith}
use Rattle.aggregate.proofs.Members.{select_has}
use Rattle.aggregate.proofs.hops.HopSet.or_if.Goals as goal

pub returns : goal.returns
returns c = select_has c.args.self c.args.other _ (omega arith) (omega arith) (omega arith) c.args.replaced (λ i h. let e = c.from_fn.ensures.items.at i 0 h in search rules)
