-- What the routes along an edge mean, as lines. Assumes nothing.
use Rattle.std.specs.Prelude.{◌≡◌, ℕ, ◌-◌, Bool, if◌then◌else◌, List, [], ◌∷◌, ◌++◌, length, take, drop, Some, None, Option}
use Rattle.prefix.specs.Bits.{Bits}
use Rattle.prefix.specs.Model.{bits}
use Rattle.table.specs.declared.route.Route.{Route}
use Rattle.table.specs.Routes.{entry_of}
use Rattle.table.specs.Tables.{Entries}
use Rattle.fewest.specs.declared.along.Along.{Along}
use Rattle.fewest.specs.Trees.{Tree}
use Rattle.fewest.specs.Prescribed.{beneath, prescribed}
use Rattle.fewest.specs.Edges.{edge, onward, sides_before, sides_after, lines_before, lines_after}
use Rattle.aggregate.specs.declared.edge.Edge.{Edge}
use Rattle.aggregate.specs.declared.edge.EdgeRoutes.{EdgeRoutes}

-- how many bits of its own an edge has
abbrev pub edge_len : Edge → ℕ
edge_len e = length (bits e.node) - e.from

-- the lines of routes that are there or not
abbrev pub line_of : Option Route → Entries
line_of None = []
line_of (Some r) = entry_of r ∷ []

abbrev pub lines_of : List (Option Route) → Entries
lines_of [] = []
lines_of (o ∷ os) = line_of o ++ lines_of os

-- the lines on the other sides of some bits that come before them, or those that come after them
abbrev pub sides : Bool → ℕ → Bits → Entries
sides earlier x bs = (if earlier then sides_before x bs else sides_after x bs)

-- those on the other side of the bit of p at a place
abbrev pub side_at : Bool → ℕ → Bits → ℕ → Entries
side_at earlier x p i = beneath (take i p) (sides earlier x (take 1 (drop i p)))

-- the routes along the edge that ends at p and has all but the first `from` bits of it, if c is written along it for one who comes with h: the lines
-- of the definition, under the bits above the edge
pub record Brought (p : Bits) (from x h : ℕ) (c : Along) (r : EdgeRoutes) : Type 0 where
  pub earlier : lines_of r.before ≡ beneath (take from p) (lines_before c x (drop from p))
  pub later : lines_of r.after ≡ beneath (take from p) (lines_after c x (drop from p))
  pub on : r.onward ≡ onward c x h

-- so the prescribed lines of the whole edge are these routes, and between them those of the tree at its end
pub record Surrounds (p : Bits) (from x h : ℕ) (r : EdgeRoutes) (t : Tree) : Type 0 where
  pub whole : beneath (take from p) (prescribed (edge x (drop from p) t) h) ≡ lines_of r.before ++ (beneath p (prescribed t r.onward) ++ lines_of r.after)
