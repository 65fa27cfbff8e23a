use Rattle.std.proofs.Common.{arith}
use Rattle.std.proofs.lemmas.Grind.{common_steps}
use Rattle.fewest.specs.declared.along.Along.TheVariants.{Nothing, Top, Sides}
use Rattle.aggregate.proofs.Keeping.{along_lines}
use Rattle.aggregate.proofs.need.Need.along.Goals as goal

pub returns-then-bits-eq0-clause-lines : goal.returns-then-bits-eq0-clause-lines
returns-then-bits-eq0-clause-lines c = along_lines c.args.self.now c.args.bits c.args.hop c.args.given Nothing (grind (arith, common_steps))

pub returns-then-aside-clause-lines : goal.returns-then-aside-clause-lines
returns-then-aside-clause-lines c = along_lines c.args.self.now c.args.bits c.args.hop c.args.given Sides (grind (arith, common_steps))

pub returns-else-aside-clause-lines : goal.returns-else-aside-clause-lines
returns-else-aside-clause-lines c = along_lines c.args.self.now c.args.bits c.args.hop c.args.given Top (grind (arith, common_steps))
