use Rattle.std.proofs.Common.{arith}
use Rattle.std.proofs.lemmas.Grind.{common_steps}
use Rattle.std.proofs.lemmas.Bool.Decides.{nat_tests}
use Rattle.prefix.specs.Model.{bits}
use Rattle.table.specs.Model.{entries}
use Rattle.table.specs.Routes.{entry_of}
use Rattle.transition.proofs.Held.{held_by}
use Rattle.transition.proofs.Lines.{has_at}
use Rattle.transition.proofs.transition.Transition.differing.Goals as goal
use Rattle.transition.proofs.transition.Transition.differing.Goals.{in-Some, in-Some-2, in-None}

pub loop-route-preserved : goal.loop-route-preserved
loop-route-preserved c =
    let t = c.args.self.old.now in
    let r = c.route-item.result in
    let held = held_by (entry_of r) t in
    let had = has_at (bits r.prefix) (entries t) in
    elim c.match-get.branch [
      | in-Some w ↦ grind (arith, common_steps, nat_tests)
      | in-Some-2 w ↦ grind (arith, common_steps, nat_tests)
      | in-None w ↦ grind (arith, common_steps, nat_tests)
    ]
