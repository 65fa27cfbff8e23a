use Rattle.fewest.proofs.Rivals.{none_fewer}
use Rattle.fewest.proofs.Right.{short_is_shortest}
use Rattle.fewest.proofs.laws.none_has_fewer.Goals as goal

pub returns : goal.returns
returns c = record { rival = none_fewer; shortest = short_is_shortest }
