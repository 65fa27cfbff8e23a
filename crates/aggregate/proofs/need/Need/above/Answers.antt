use Rattle.std.proofs.Common.{arith}
use Rattle.std.proofs.lemmas.Grind.{common_steps}
use Rattle.aggregate.proofs.Keeping.{lifted_keeps}
use Rattle.aggregate.proofs.need.Need.above.Goals as goal

pub returns-then-bits-eq0-clause-keeps : goal.returns-then-bits-eq0-clause-keeps
returns-then-bits-eq0-clause-keeps c = lifted_keeps c.args.bits c.args.hop c.args.self.now _ (grind (arith, common_steps))

pub returns-then-not-reaches-clause-keeps : goal.returns-then-not-reaches-clause-keeps
returns-then-not-reaches-clause-keeps c = lifted_keeps c.args.bits c.args.hop c.args.self.now _ (grind (arith, common_steps))

pub returns-clause-keeps : goal.returns-clause-keeps
returns-clause-keeps c = lifted_keeps c.args.bits c.args.hop c.args.self.now _ (grind (arith, common_steps))
