-- The definitions on small trees and tables. Assumes nothing.
use Rattle.std.specs.Prelude.{◌≡◌, true, false, [], ◌∷◌}
use Rattle.table.specs.Examples.{line}
use Rattle.table.specs.Tables.{Entries}
use Rattle.fewest.specs.declared.along.Along.TheVariants.{Nothing, Top, Sides}
use Rattle.fewest.specs.Trees.{Tree, Leaf, Fork, tree_of, goes, hops, uniform}
use Rattle.fewest.specs.Needs.{need, fewest, least, reaches, meet}
use Rattle.fewest.specs.Prescribed.{beneath, best, short}
use Rattle.fewest.specs.Edges.{edge, along, lines_before, lines_after}

-- 00 to 1, 01 to 2, 1 to 1
abbrev pub mixed : Entries
mixed = line (false ∷ false ∷ []) 1 ∷ line (false ∷ true ∷ []) 2 ∷ line (true ∷ []) 1 ∷ []

-- its tree, for addresses of two bits
abbrev pub mixed_tree : Tree
mixed_tree = Fork (Fork (Leaf 1) (Leaf 2)) (Fork (Leaf 1) (Leaf 1))

-- trees and needs
abbrev pub Small : Type 0
Small =
    (tree_of 2 mixed ≡ mixed_tree) ×
    (goes mixed_tree (false ∷ true ∷ []) ≡ 2) ×
    (hops mixed_tree ≡ 1 ∷ 2 ∷ 1 ∷ 1 ∷ []) ×
    (uniform mixed_tree ≡ false) ×
    (uniform (Fork (Leaf 1) (Leaf 1)) ≡ true) ×
    -- one next hop: no line with it, one with another
    (need (Leaf 1) 1 ≡ 0) ×
    (need (Leaf 1) 2 ≡ 1) ×
    (need (Fork (Leaf 1) (Leaf 1)) 2 ≡ 1) ×
    -- 1 and 2: one line with either of them, two with any other
    (need (Fork (Leaf 1) (Leaf 2)) 1 ≡ 1) ×
    (need (Fork (Leaf 1) (Leaf 2)) 2 ≡ 1) ×
    (need (Fork (Leaf 1) (Leaf 2)) 0 ≡ 2) ×
    -- so the lowest is one, and 1 and 2 reach it; beside a half that goes to 1 they meet at 1
    (least (Fork (Leaf 1) (Leaf 2)) ≡ 1) ×
    (reaches (Fork (Leaf 1) (Leaf 2)) 2 ≡ true) ×
    (reaches (Fork (Leaf 1) (Leaf 2)) 0 ≡ false) ×
    (meet (Fork (Leaf 1) (Leaf 2)) (Leaf 1) ≡ true) ×
    (meet (Leaf 1) (Leaf 2) ≡ false) ×
    (best (Fork (Leaf 1) (Leaf 2)) (Leaf 1) ≡ 1) ×
    (fewest 2 mixed ≡ 2) ×
    (short 2 mixed ≡ line [] 1 ∷ line (false ∷ true ∷ []) 2 ∷ []) ×
    -- one more bit below changes nothing
    (short 3 mixed ≡ line [] 1 ∷ line (false ∷ true ∷ []) 2 ∷ []) ×
    -- nothing wanted, nothing written; what drops needs no line unless it stands under another
    (short 2 [] ≡ []) ×
    (short 2 (line [] 0 ∷ []) ≡ []) ×
    (short 2 (line [] 1 ∷ line (false ∷ []) 0 ∷ []) ≡ line (true ∷ []) 1 ∷ []) ×
    (beneath (true ∷ []) mixed ≡ line (true ∷ false ∷ false ∷ []) 1 ∷ line (true ∷ false ∷ true ∷ []) 2 ∷ line (true ∷ true ∷ []) 1 ∷ [])

-- ways of one, two and three bits down to a place that drops, where all else goes to 1
abbrev pub SmallEdges : Type 0
SmallEdges =
    (edge 1 (false ∷ true ∷ []) (Leaf 0) ≡ Fork (Fork (Leaf 1) (Leaf 0)) (Leaf 1)) ×
    (along 1 1 (reaches (Leaf 0)) 0 ≡ Sides) ×
    (along 2 1 (reaches (Leaf 0)) 0 ≡ Sides) ×
    (along 3 1 (reaches (Leaf 0)) 0 ≡ Top) ×
    (along 3 1 (reaches (Leaf 0)) 1 ≡ Nothing) ×
    (lines_before Sides 1 (true ∷ false ∷ []) ≡ line (false ∷ []) 1 ∷ []) ×
    (lines_after Sides 1 (true ∷ false ∷ []) ≡ line (true ∷ true ∷ []) 1 ∷ []) ×
    (lines_after Sides 1 (false ∷ false ∷ []) ≡ line (false ∷ true ∷ []) 1 ∷ line (true ∷ []) 1 ∷ []) ×
    (short 3 (line [] 1 ∷ line (false ∷ []) 0 ∷ []) ≡ line (true ∷ []) 1 ∷ []) ×
    (short 3 (line [] 1 ∷ line (false ∷ false ∷ []) 0 ∷ []) ≡ line (false ∷ true ∷ []) 1 ∷ line (true ∷ []) 1 ∷ []) ×
    (short 3 (line [] 1 ∷ line (false ∷ false ∷ false ∷ []) 0 ∷ []) ≡ line [] 1 ∷ line (false ∷ false ∷ false ∷ []) 0 ∷ [])
