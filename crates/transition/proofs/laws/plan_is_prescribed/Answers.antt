use Rattle.transition.proofs.Turns.{plan_is, by_difference}
use Rattle.transition.proofs.Ending.{plan_count}
use Rattle.transition.proofs.laws.plan_is_prescribed.Goals as goal

pub returns : goal.returns
returns c = record { only = plan_is; difference = by_difference; count = plan_count }
