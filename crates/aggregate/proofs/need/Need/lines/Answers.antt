use Rattle.std.proofs.Common.{arith}
use Rattle.std.proofs.lemmas.Grind.{common_steps}
use Rattle.aggregate.proofs.Keeping.{with_keeps}
use Rattle.aggregate.proofs.need.Need.lines.Goals as goal

pub returns-clause-needed : goal.returns-clause-needed
returns-clause-needed c = with_keeps c.args.self.now c.args.hop _ (grind (arith, common_steps))
