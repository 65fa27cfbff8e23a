use Rattle.std.proofs.Common.{◌≡◌, ◌+◌, cond, arith}
use Rattle.std.proofs.lemmas.Grind.{common_steps}
use Rattle.aggregate.specs.Model.{capped}
use Rattle.aggregate.proofs.Keeping.{joined_keeps, joined_by}
use Rattle.aggregate.proofs.need.Need.join.Goals as goal

pub returns-clause-keeps : goal.returns-clause-keeps
returns-clause-keeps c =
    let count : c.saturating_add.result ≡ capped (c.args.self.now.count + c.args.other.now.count + cond c.is_empty-apart.result 1 0) = grind (arith, common_steps) in
    joined_keeps c.args.self.now c.args.other.now _
    (joined_by c.args.self.now c.args.other.now _ c.bitand-shared.result c.bitor.result _ c.bitand-shared.ensures c.bitor.ensures c.is_empty-apart.ensures count c.or_if.ensures)
