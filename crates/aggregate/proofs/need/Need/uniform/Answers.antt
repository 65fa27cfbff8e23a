use Rattle.std.proofs.Common.{rules}
use Rattle.aggregate.proofs.Keeping.{uniform_keeps}
use Rattle.aggregate.proofs.need.Need.uniform.Goals as goal

pub returns-clause-keeps : goal.returns-clause-keeps
returns-clause-keeps c = uniform_keeps c.args.hop _ (search rules)
