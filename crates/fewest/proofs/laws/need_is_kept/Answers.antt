use Rattle.fewest.proofs.Kept as kept
use Rattle.fewest.proofs.laws.need_is_kept.Goals as goal

pub returns : goal.returns
returns c = record { least = kept.least_is; determined = kept.determined; uniform = kept.uniform_kept; meet = kept.meet_is; joined = kept.joined; chosen = kept.chosen }
