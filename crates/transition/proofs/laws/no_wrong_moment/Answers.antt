use Rattle.transition.proofs.Moments.{no_wrong_moment_lem, once_new, look_ups_once}
use Rattle.transition.proofs.laws.no_wrong_moment.Goals as goal

pub returns : goal.returns
returns c = record { moments = no_wrong_moment_lem; once = once_new; lookups = look_ups_once }
