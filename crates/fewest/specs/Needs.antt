-- How few lines a part of the addresses needs. Assumes nothing.
use Rattle.std.specs.Prelude.{ℕ, ◌+◌, min, Bool, if◌then◌else◌, ◌&&◌, List, [], ◌∷◌, ◌==◌}
use Rattle.std.specs.List.{list_any}
use Rattle.table.specs.Tables.{Entries}
use Rattle.fewest.specs.Trees.{Tree, Leaf, Fork, tree_of, first, hops, uniform}

-- where all addresses go to x and without a line would go to h: no line if these are the same, else one
abbrev pub unlike : ℕ → ℕ → ℕ
unlike x h = (if x == h then 0 else 1)

-- the lowest of n and of the values of f over a list
unfoldable pub lowest_over : (ℕ → ℕ) → ℕ → List ℕ → ℕ
lowest_over f n [] = n
lowest_over f n (x ∷ xs) = min (f x) (lowest_over f n xs)

-- NEED: the number of lines needed at and below a place, the root of the tree, if without them addresses there went to h.
-- If all addresses go to one next hop: none if that is h, else one. Otherwise the lower of two numbers: what both halves need with h;
-- and one more than the lowest that both halves need with k, over all next hops k to which an address goes
unfoldable pub need : Tree → ℕ → ℕ
need (Leaf x) h = unlike x h
need (Fork l r) h =
    (if uniform (Fork l r)
    then unlike (first (Fork l r)) h
    else min (need l h + need r h) (1 + lowest_over (λ k. need l k + need r k) (need l (first l) + need r (first l)) (hops (Fork l r))))

-- the fewest lines for what a table sends where: with no line at all addresses are dropped, that is, go to 0
abbrev pub fewest : ℕ → Entries → ℕ
fewest w t = need (tree_of w t) 0

-- AS IT IS KEPT

-- the lowest need over the next hops to which addresses go; it is the lowest over all (`LeastIs` in Laws)
abbrev pub least : Tree → ℕ
least t = lowest_over (need t) (need t (first t)) (hops t)

-- whether a next hop reaches it
abbrev pub reaches : Tree → ℕ → Bool
reaches t h = need t h == least t

-- whether a next hop reaches the lowest need of both halves
abbrev pub both : Tree → Tree → ℕ → Bool
both l r k = reaches l k && reaches r k

-- whether two halves meet: some next hop does
abbrev pub meet : Tree → Tree → Bool
meet l r = list_any (both l r) (hops l)
