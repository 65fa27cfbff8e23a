use Rattle.std.proofs.Common.{refl}
use Rattle.prefix.specs.Bits.{begins}
use Rattle.table.specs.Tables.{find}
use Rattle.fewest.specs.Trees.{tree_at, first, goes, hops, all_to}
use Rattle.fewest.specs.Needs.{need, lowest_over}
use Rattle.fewest.specs.Prescribed.{beneath, best_of, prescribed}
use Rattle.fewest.specs.Edges.{edge, sides_before, sides_after}
use Rattle.fewest.proofs.laws.fewest_by_example.Goals as goal

pub returns : goal.returns
unfolding begins find tree_at first goes hops all_to need lowest_over beneath best_of prescribed edge sides_before sides_after
returns c = record {
  trees = (refl, refl, refl, refl, refl, refl, refl, refl, refl, refl, refl, refl, refl, refl, refl, refl, refl, refl, refl, refl, refl, refl, refl, refl);
  edges = (refl, refl, refl, refl, refl, refl, refl, refl, refl, refl, refl);
}
