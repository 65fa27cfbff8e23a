-- Edges: ways of some bits down to a tree, on whose other sides all addresses go to one next hop. What they do to need and which lines they
-- bring is known without going along them bit by bit. Assumes nothing.
use Rattle.std.specs.Prelude.{ℕ, zero, suc, Bool, true, false, if◌then◌else◌, not, ◌&&◌, ◌||◌, [], ◌∷◌, ◌++◌, ◌==◌}
use Rattle.prefix.specs.Bits.{Bits}
use Rattle.table.specs.Examples.{line}
use Rattle.table.specs.Tables.{Entries}
use Rattle.fewest.specs.declared.along.Along.{Along}
use Rattle.fewest.specs.declared.along.Along.TheVariants.{Nothing, Top, Sides}
use Rattle.fewest.specs.Trees.{Tree, Leaf, Fork}
use Rattle.fewest.specs.Needs.{need, least}
use Rattle.fewest.specs.Prescribed.{beneath}

-- a tree at the end of some bits, bit by bit, where all addresses that part from them go to x
unfoldable pub edge : ℕ → Bits → Tree → Tree
edge x [] t = t
edge x (false ∷ bs) t = Fork (edge x bs t) (Leaf x)
edge x (true ∷ bs) t = Fork (Leaf x) (edge x bs t)

-- NEED AT THE UPPER END of an edge of n bits

-- the lowest: with no bit that of the tree, else what the tree needs with x
abbrev pub least_above : ℕ → ℕ → Tree → ℕ
least_above zero x t = least t
least_above (suc n) x t = need t x

-- the next hops that reach it, where s says which reach the lowest of the tree: with one bit x alone if it is one of these, else these and x;
-- with more bits x alone
abbrev pub reach_above : ℕ → ℕ → (ℕ → Bool) → ℕ → Bool
reach_above zero x s k = s k
reach_above (suc zero) x s k = (if s x then k == x else s k || k == x)
reach_above (suc (suc n)) x s k = k == x

-- THE LINES ALONG an edge, for one who comes to its upper end with h

-- whether the lines stand on the other sides: with one bit, unless x reaches the lowest need of the tree and h does not; with two bits only if
-- h reaches it and x does not; with more bits never
abbrev pub aside : ℕ → Bool → Bool → Bool
aside zero x h = false
aside (suc zero) x h = not x || h
aside (suc (suc zero)) x h = not x && h
aside (suc (suc (suc n))) x h = false

-- what is written along n bits, where s says which next hops reach the lowest need of the tree: nothing, if there are no bits or one comes with x;
-- else a line with x on each other side, or a line with x at the upper end
abbrev pub along : ℕ → ℕ → (ℕ → Bool) → ℕ → Along
along n x s h = (if n == 0 || h == x then Nothing else (if aside n (s x) (s h) then Sides else Top))

-- what one goes on with at the tree
abbrev pub onward : Along → ℕ → ℕ → ℕ
onward Nothing x h = h
onward Top x h = x
onward Sides x h = h

-- the lines on the other sides that come before the bits of the edge in the order of tables,
unfoldable pub sides_before : ℕ → Bits → Entries
sides_before x [] = []
sides_before x (false ∷ bs) = beneath (false ∷ []) (sides_before x bs)
sides_before x (true ∷ bs) = line (false ∷ []) x ∷ beneath (true ∷ []) (sides_before x bs)

-- and those that come after them
unfoldable pub sides_after : ℕ → Bits → Entries
sides_after x [] = []
sides_after x (false ∷ bs) = beneath (false ∷ []) (sides_after x bs) ++ (line (true ∷ []) x ∷ [])
sides_after x (true ∷ bs) = beneath (true ∷ []) (sides_after x bs)

-- the lines along an edge that come before those of the tree,
abbrev pub lines_before : Along → ℕ → Bits → Entries
lines_before Nothing x bs = []
lines_before Top x bs = line [] x ∷ []
lines_before Sides x bs = sides_before x bs

-- and those that come after them
abbrev pub lines_after : Along → ℕ → Bits → Entries
lines_after Nothing x bs = []
lines_after Top x bs = []
lines_after Sides x bs = sides_after x bs
