use Rattle.std.proofs.Common.{None, arith}
use Rattle.std.proofs.lemmas.Grind.{common_steps}
use Rattle.fewest.specs.Laws.{Chooses}
use Rattle.aggregate.specs.Model.{among}
use Rattle.aggregate.proofs.Keeping.{lowest_chooses, chosen_lines}
use Rattle.aggregate.proofs.choice.choose.Goals as goal

pub returns-then-reaches-clause-lines : goal.returns-then-reaches-clause-lines
returns-then-reaches-clause-lines c = chosen_lines c.args.low.now c.args.high.now c.args.given None (grind (arith, common_steps))

pub returns-else-reaches : goal.returns-else-reaches
returns-else-reaches c =
    let value : Chooses (among c.args.low.now) (among c.args.high.now) c.args.given c.lowest.result =
    lowest_chooses c.args.low.now c.args.high.now c.bitand.result c.args.given _ c.lowest.ensures c.bitand.ensures (grind (arith, common_steps)) in
    record { value = value; lines = chosen_lines c.args.low.now c.args.high.now c.args.given _ value }
