use Rattle.std.proofs.Common.{refl}
use Rattle.prefix.specs.Bits.{begins, same, before}
use Rattle.table.specs.Tables.{find, has, holds, without, insert}
use Rattle.transition.specs.Writes.{written_all}
use Rattle.transition.specs.Plans.{insert_by, sorted_by}
use Rattle.cases.specs.Cases.{Goes}
use Rattle.cases.proofs.rows.worked_cases_hold.Goals as goal

pub returns : goal.returns
unfolding begins same before find has holds without insert written_all insert_by sorted_by Goes
returns c = (
  (refl, refl, ((refl, (refl, (refl, (refl, (refl, tt))))), ((refl, (refl, (refl, (refl, (refl, tt))))), tt))),
  (
    (refl, refl, ((refl, (refl, (refl, (refl, (refl, tt))))), ((refl, (refl, (refl, (refl, (refl, tt))))), tt))),
    ((refl, refl, ((refl, (refl, (refl, (refl, (refl, tt))))), ((refl, (refl, (refl, (refl, (refl, tt))))), ((refl, (refl, (refl, (refl, (refl, tt))))), tt)))), tt),
  ),
)
