use Rattle.std.proofs.Common.{refl}
use Rattle.prefix.specs.Bits.{begins, same, before}
use Rattle.table.specs.Tables.{find, has, holds, without, insert}
use Rattle.fewest.specs.Trees.{tree_at, first, hops, all_to}
use Rattle.fewest.specs.Needs.{lowest_over, need}
use Rattle.fewest.specs.Prescribed.{beneath, best_of, prescribed}
use Rattle.cases.proofs.rows.fewest_cases_hold.Goals as goal

pub returns : goal.returns
unfolding begins same before find has holds without insert tree_at first hops all_to lowest_over need beneath best_of prescribed
returns c = ((refl, refl), ((refl, refl), ((refl, refl), ((refl, refl), ((refl, refl), ((refl, refl), ((refl, refl), ((refl, refl), tt))))))))
