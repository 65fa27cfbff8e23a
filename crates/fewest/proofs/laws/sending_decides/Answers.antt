use Rattle.fewest.proofs.Rivals.{sending_decides_lem}
use Rattle.fewest.proofs.Shapes.{shape_is_free}
use Rattle.fewest.proofs.laws.sending_decides.Goals as goal

pub returns : goal.returns
returns c = record { tables = sending_decides_lem; trees = shape_is_free }
