use Rattle.table.specs.Model.{entries}
use Rattle.transition.proofs.Filling.{Filled, at_turn, within_turn}
use Rattle.transition.proofs.pass.fill.Given as goal

abbrev pub invariant-routes : goal.invariant-routes
invariant-routes g l =
    let p = g.P.Pass in
    let wants = p.wants (entries l.other) in
    Filled (at_turn 33 p.writing wants l.routes p.length_at 0) l.out l.n (within_turn 33 p.writing wants l.routes p.length_at l.turn l.route-index)

abbrev pub invariant-lengths : goal.invariant-lengths
invariant-lengths g l =
    let p = g.P.Pass in
    let wants = p.wants (entries l.other) in
    Filled (at_turn 33 p.writing wants l.routes p.length_at 0) l.out l.n (at_turn 33 p.writing wants l.routes p.length_at l.turn)
