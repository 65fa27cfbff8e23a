-- Where addresses go, as a tree of all their beginnings, for any width. Assumes nothing.
use Rattle.std.specs.Prelude.{ℕ, zero, suc, Bool, true, false, ◌&&◌, List, [], ◌∷◌, ◌++◌, ◌==◌}
use Rattle.std.specs.List.{list_any}
use Rattle.prefix.specs.Bits.{Bits}
use Rattle.table.specs.Tables.{Entries, sends}

-- where the addresses go that begin with some bits: all to one next hop, or as the trees for the next bit 0 and for the next bit 1 say
pub data Tree : Type 0 where
  Leaf : (hop : ℕ) → Tree
  Fork : (low high : Tree) → Tree

-- the tree of the addresses that begin with b and have v bits more, where f says of each address where it goes
unfoldable pub tree_at : ℕ → (Bits → ℕ) → Bits → Tree
tree_at zero f b = Leaf (f b)
tree_at (suc v) f b = Fork (tree_at v f (b ++ (false ∷ []))) (tree_at v f (b ++ (true ∷ [])))

-- the tree of a table, for addresses of w bits
abbrev pub tree_of : ℕ → Entries → Tree
tree_of w t = tree_at w (sends t) []

-- the next hop of the lowest address
unfoldable pub first : Tree → ℕ
first (Leaf x) = x
first (Fork l r) = first l

-- where a tree sends an address, by its bits after the beginning; with too few of them it is taken to go on with zeros
unfoldable pub goes : Tree → Bits → ℕ
goes (Leaf x) a = x
goes (Fork l r) [] = first l
goes (Fork l r) (false ∷ a) = goes l a
goes (Fork l r) (true ∷ a) = goes r a

-- the next hops to which addresses go, from the lowest address on
unfoldable pub hops : Tree → List ℕ
hops (Leaf x) = x ∷ []
hops (Fork l r) = hops l ++ hops r

-- whether a next hop is in a list
abbrev pub elem : ℕ → List ℕ → Bool
elem k xs = list_any (λ x. k == x) xs

-- whether all addresses go to x
unfoldable pub all_to : ℕ → Tree → Bool
all_to x (Leaf y) = y == x
all_to x (Fork l r) = all_to x l && all_to x r

-- whether all addresses go to one next hop: then it is that of the lowest
abbrev pub uniform : Tree → Bool
uniform t = all_to (first t) t

-- a tree is no deeper than v bits
abbrev pub Fits : ℕ → Tree → Type 0
Fits v (Leaf x) = Unit {0}
Fits zero (Fork l r) = ⊥
Fits (suc v) (Fork l r) = Fits v l × Fits v r
