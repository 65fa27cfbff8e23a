use Rattle.transition.proofs.Smoothness.{plan_is_smooth_lem}
use Rattle.transition.proofs.laws.plan_is_smooth.Goals as goal

pub returns : goal.returns
returns c = plan_is_smooth_lem
