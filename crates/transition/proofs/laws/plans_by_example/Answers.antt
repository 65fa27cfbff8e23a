use Rattle.std.proofs.Common.{refl}
use Rattle.prefix.specs.Bits.{begins, same, before}
use Rattle.table.specs.Tables.{find, has, holds, without, insert}
use Rattle.transition.specs.Writes.{written_all}
use Rattle.transition.specs.Plans.{insert_by, sorted_by, heads, in_turn, among}
use Rattle.transition.proofs.laws.plans_by_example.Goals as goal

pub returns : goal.returns
unfolding begins same before find has holds without insert written_all insert_by sorted_by heads in_turn among
returns c = (refl, refl, refl, refl, refl, refl, refl, refl, refl, refl, refl, refl, refl, refl, refl, refl, refl, refl, refl, refl, refl, refl, refl, refl, refl, refl)
