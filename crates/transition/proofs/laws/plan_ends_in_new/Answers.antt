use Rattle.transition.proofs.Ending.{ends, ends_rising}
use Rattle.transition.proofs.laws.plan_ends_in_new.Goals as goal

pub returns : goal.returns
returns c = record { lines = ends; table = ends_rising }
