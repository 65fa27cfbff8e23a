use Rattle.std.proofs.Common.{◌∙◌}
use Rattle.prefix.specs.Model.{bits}
use Rattle.table.proofs.Held.{stands, lacks, gives}
use Rattle.table.proofs.table.Table.get.Goals as goal

pub returns-in_err-i : goal.returns-in_err-i
returns-in_err-i c = c.from_residual.ensures ∙ (lacks c.args.self.now (bits c.args.prefix) _ c.search.ensures c.in_err-i.ensures.value).0

pub returns : goal.returns
returns c = gives c.args.self.now (bits c.args.prefix) _ (stands c.args.self.now (bits c.args.prefix) _ c.in_ok-i.i c.search.ensures c.in_ok-i.ensures.value) _ c.index.ensures
