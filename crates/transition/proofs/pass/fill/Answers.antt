use Rattle.std.proofs.Common.{◌∙◌}
use Rattle.table.specs.Model.{entries}
use Rattle.transition.proofs.Filling.{within_turn, turn_begins, all_places, all_turns}
use Rattle.transition.proofs.pass.fill.Goals as goal

pub routes-init : goal.routes-init
routes-init g c =
    let p = g.P.Pass in
    rw (turn_begins 33 p.writing (p.wants (entries c.args.other.now)) c.routes-routes.result.now p.length_at c.lengths.turn c.lengths-test.true) at c.lengths.invariant

pub returns-after-lengths : goal.returns-after-lengths
returns-after-lengths g c =
    let p = g.P.Pass in
    all_turns p.first p.writing (p.wants (entries c.args.other.now)) p.length_at g.met.P.Pass.through c.args.table.now c.routes-routes.result.now c.routes-routes.ensures
    c.lengths.out c.lengths.n (c.lengths.auto.out ∙ c.requires) c.lengths.turn c.lengths-test.false c.lengths.invariant

pub returns-then-n-out : goal.returns-then-n-out
returns-then-n-out g c =
    let p = g.P.Pass in
    all_places p.first p.writing (p.wants (entries c.args.other.now)) p.length_at g.met.P.Pass.through c.args.table.now c.routes-routes.result.now c.routes-routes.ensures
    c.routes.out c.routes.n (c.routes.auto.out ∙ c.lengths.auto.out ∙ c.requires)
    (within_turn 33 p.writing (p.wants (entries c.args.other.now)) c.routes-routes.result.now p.length_at c.lengths.turn c.routes.route-index) c.routes.invariant c.if-n-out.true
