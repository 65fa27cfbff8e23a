use Rattle.table.specs.Model.{entries}
use Rattle.transition.proofs.Held.{Counting}
use Rattle.transition.proofs.transition.Transition.differing.Given as goal

abbrev pub invariant-loop-route : goal.invariant-loop-route
invariant-loop-route l = Counting (entries l.self.old.now) l.route-items l.route-index l.changed l.fresh
