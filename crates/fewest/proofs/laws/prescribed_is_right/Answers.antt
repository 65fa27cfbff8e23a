use Rattle.fewest.proofs.Forks.{best_is}
use Rattle.fewest.proofs.Right.{sends_as, keeps_sound, in_order, hops_among, count_is}
use Rattle.fewest.proofs.laws.prescribed_is_right.Goals as goal

pub returns : goal.returns
returns c = record { sends = sends_as; sound = keeps_sound; order = in_order; hops = hops_among; count = count_is; best = best_is }
