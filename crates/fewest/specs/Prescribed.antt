-- Which of the shortest tables: the prescribed one. Assumes nothing.
use Rattle.std.specs.Prelude.{ℕ, ◌+◌, Bool, true, false, if◌then◌else◌, ◌&&◌, ◌||◌, List, [], ◌∷◌, ◌++◌, ◌==◌, nat_le, nat_lt}
use Rattle.prefix.specs.Bits.{Bits}
use Rattle.table.specs.Examples.{line}
use Rattle.table.specs.Tables.{Entries}
use Rattle.fewest.specs.Trees.{Tree, Leaf, Fork, tree_of, first, hops, uniform}
use Rattle.fewest.specs.Needs.{need, lowest_over}

-- lines put under some bits
unfoldable pub beneath : Bits → Entries → Entries
beneath p [] = []
beneath p (e ∷ es) = line (p ++ e.prefix) e.hop ∷ beneath p es

-- the lines of both halves, those of the first put under 0 and those of the second under 1
abbrev pub forked : Entries → Entries → Entries
forked s t = beneath (false ∷ []) s ++ beneath (true ∷ []) t

-- a line for all addresses with x, unless they go to x anyway
abbrev pub single : ℕ → ℕ → Entries
single x h = (if x == h then [] else line [] x ∷ [])

-- what both halves need with k
abbrev pub below : Tree → Tree → ℕ → ℕ
below l r k = need l k + need r k

-- the lowest of these numbers, over the next hops to which an address goes
abbrev pub lowest_below : Tree → Tree → ℕ
lowest_below l r = lowest_over (below l r) (below l r (first l)) (hops (Fork l r))

-- x is better than k: f is lower at x, or as low, and x is the lower of the two
abbrev pub better : (ℕ → ℕ) → ℕ → ℕ → Bool
better f x k = nat_lt (f x) (f k) || (f x == f k && nat_lt x k)

-- the best of k and of a list
unfoldable pub best_of : (ℕ → ℕ) → ℕ → List ℕ → ℕ
best_of f k [] = k
best_of f k (x ∷ xs) = (if better f x (best_of f k xs) then x else best_of f k xs)

-- the lowest next hop, of those to which an address goes, that gives the lowest number (`BestIs` in Laws)
abbrev pub best : Tree → Tree → ℕ
best l r = best_of (below l r) (first l) (hops (Fork l r))

-- THE PRESCRIBED LINES for a tree to whose root one comes with h.
-- If all addresses go to one next hop x: a line with x, if x is not h. Else, if what both halves need with h is as low as the other number of
-- `need`, no line here, and on to both halves with h. Else a line here with the best next hop, and on to both halves with that
unfoldable pub prescribed : Tree → ℕ → Entries
prescribed (Leaf x) h = single x h
prescribed (Fork l r) h =
    if uniform (Fork l r) then single (first (Fork l r)) h
    else if nat_le (below l r h) (1 + lowest_below l r) then forked (prescribed l h) (prescribed r h)
    else line [] (best l r) ∷ forked (prescribed l (best l r)) (prescribed r (best l r))

-- the prescribed table for what a table sends where
abbrev pub short : ℕ → Entries → Entries
short w t = prescribed (tree_of w t) 0
