use Rattle.std.proofs.Common.{◌≡◌, suc, true, false, [], ◌∷◌, refl, ap, ◌∙◌, arith, rules}
use Rattle.prefix.specs.Bits.{Bits}
use Rattle.prefix.specs.Model.{bits}
use Rattle.table.specs.Examples.{line}
use Rattle.table.proofs.Places.{key_short}
use Rattle.fewest.specs.declared.along.Along.TheVariants.{Nothing, Top, Sides}
use Rattle.fewest.specs.Edges.{along}
use Rattle.aggregate.specs.Model.{among}
use Rattle.aggregate.specs.Routes.{edge_len, side_at}
use Rattle.aggregate.proofs.Sides.{nothing_routed, top_routed, sides_routed, two_lines, along_sides}
use Rattle.aggregate.proofs.edge.Edge.routes.Goals as goal

pub returns-in-Nothing : goal.returns-in-Nothing
returns-in-Nothing c =
    let is : Nothing ≡ along (edge_len c.args.self) c.args.self.hop (among c.args.need.now) c.args.given = search rules in
    let k = nothing_routed (bits c.args.self.node) c.args.self.from c.args.self.hop c.args.given c.args.need.now _ is refl refl refl in
    record { value = k.value; lines = k.lines }

pub returns-in-Top : goal.returns-in-Top
returns-in-Top c =
    let is : Top ≡ along (edge_len c.args.self) c.args.self.hop (among c.args.need.now) c.args.given = search rules in
    let k = top_routed (bits c.args.self.node) c.args.self.from c.args.self.hop c.args.given c.args.need.now _ is (ap (λ (q : Bits). line q c.args.self.hop ∷ []) c.cut.ensures.value) refl refl in
    record { value = k.value; lines = k.lines }

pub returns-in-Sides : goal.returns-in-Sides
returns-in-Sides c =
    let is : Sides ≡ along (edge_len c.args.self) c.args.self.hop (among c.args.need.now) c.args.given = search rules in
    let few = along_sides (edge_len c.args.self) c.args.self.hop (among c.args.need.now) c.args.given is in
    let next : c.saturating_add-inner.result ≡ suc c.args.self.from = omega (arith, few.0, key_short c.args.self.node) in
    let k = sides_routed (bits c.args.self.node) c.args.self.from c.args.self.hop c.args.given c.args.need.now _ is
    (two_lines c.other_side.result c.other_side-in-Sides.result _ _ c.other_side.ensures (c.other_side-in-Sides.ensures ∙ ap (side_at true c.args.self.hop (bits c.args.self.node)) next))
    (two_lines c.other_side-in-Sides-2.result c.other_side-in-Sides-3.result _ _ (c.other_side-in-Sides-2.ensures ∙ ap (side_at false c.args.self.hop (bits c.args.self.node)) next) c.other_side-in-Sides-3.ensures)
    refl in
    record { value = k.value; lines = k.lines }
