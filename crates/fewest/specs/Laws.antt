-- What holds of need and of the prescribed table, for any table and any width; each statement is a theorem. Assumes nothing.
use Rattle.std.specs.Prelude.{◌≡◌, ℕ, suc, ◌+◌, ◌≤◌, Bool, true, false, if◌then◌else◌, ◌&&◌, ◌||◌, [], ◌∷◌, ◌++◌, length, ◌==◌, Option, Some, None}
use Rattle.std.specs.List.{list_any}
use Rattle.prefix.specs.Bits.{Bits, Address, begins}
use Rattle.table.specs.Examples.{line}
use Rattle.table.specs.Tables.{Entries, sends, SendSame, every, sound, rising}
use Rattle.fewest.specs.declared.along.Along.{Along}
use Rattle.fewest.specs.Trees.{Tree, Fork, Fits, tree_at, goes, hops, elem, all_to, uniform}
use Rattle.fewest.specs.Needs.{need, fewest, least, reaches, both, meet}
use Rattle.fewest.specs.Prescribed.{beneath, forked, below, lowest_below, best, prescribed, short}
use Rattle.fewest.specs.Edges.{edge, least_above, reach_above, along, onward, lines_before, lines_after}

-- THE TREE OF BEGINNINGS

-- the tree of the addresses that begin with b says where each of them goes
abbrev pub TreeSends : Type 0
TreeSends = (v : ℕ) (f : Bits → ℕ) (b a : Bits) → Address v a → goes (tree_at v f b) a ≡ f (b ++ a)

-- its next hops are those to which one of them goes
abbrev pub TreeHops : Type 0
TreeHops = (v : ℕ) (f : Bits → ℕ) (b : Bits) (k : ℕ) →
    (elem k (hops (tree_at v f b)) ≡ true → (a : Bits) × Address v a × (f (b ++ a) ≡ k)) ×
    ((a : Bits) → Address v a → f (b ++ a) ≡ k → elem k (hops (tree_at v f b)) ≡ true)

-- it is uniform exactly if any two of them go to the same
abbrev pub TreeUniform : Type 0
TreeUniform = (v : ℕ) (f : Bits → ℕ) (b : Bits) →
    (uniform (tree_at v f b) ≡ true → (a c : Bits) → Address v a → Address v c → f (b ++ a) ≡ f (b ++ c)) ×
    (((a c : Bits) → Address v a → Address v c → f (b ++ a) ≡ f (b ++ c)) → uniform (tree_at v f b) ≡ true)

-- THE PRESCRIBED TABLE

-- it sends every address as the table does,
abbrev pub SendsAs : Type 0
SendsAs = (w : ℕ) (t : Entries) → SendSame w t (short w t)

-- is sound if that is,
abbrev pub KeepsSound : Type 0
KeepsSound = (w : ℕ) (t : Entries) → sound w t ≡ true → sound w (short w t) ≡ true

-- is in the order of tables,
abbrev pub InOrder : Type 0
InOrder = (w : ℕ) (t : Entries) → rising (short w t) ≡ true

-- whether some line has this next hop
abbrev pub has_hop : ℕ → Entries → Bool
has_hop k t = list_any (λ e. k == e.hop) t

-- has no next hops but 0 and those of the table,
abbrev pub HopsAmong : Type 0
HopsAmong = (w : ℕ) (t : Entries) → every (λ e. (e.hop == 0) || has_hop e.hop t) (short w t) ≡ true

-- and has as many lines as are needed, if without them addresses are dropped
abbrev pub CountIs : Type 0
CountIs = (w : ℕ) (t : Entries) → length (short w t) ≡ fewest w t

-- NONE FEWER: every table that sends the same has at least as many lines, whatever lines, next hops and lengths it has
abbrev pub NoneFewer : Type 0
NoneFewer = (w : ℕ) (t u : Entries) → SendSame w t u → fewest w t ≤ length u

-- a table is one of the shortest that send as t does
pub record Shortest (w : ℕ) (t s : Entries) : Type 0 where
  pub same : SendSame w t s
  pub fewest_lines : (u : Entries) → SendSame w t u → length s ≤ length u

-- so the prescribed table is
abbrev pub ShortIsShortest : Type 0
ShortIsShortest = (w : ℕ) (t : Entries) → Shortest w t (short w t)

-- where addresses go alone decides: two tables that send the same have the same prescribed table, line for line
abbrev pub SendingDecides : Type 0
SendingDecides = (w : ℕ) (t u : Entries) → SendSame w t u → (fewest w t ≡ fewest w u) × (short w t ≡ short w u)

-- and the shape of the tree does not matter: any tree no deeper than w that sends as the table does
abbrev pub ShapeIsFree : Type 0
ShapeIsFree = (w : ℕ) (u : Entries) (t : Tree) → Fits w t → ((a : Bits) → Address w a → goes t a ≡ sends u a) →
    (fewest w u ≡ need t 0) × (short w u ≡ prescribed t 0)

-- the best next hop at a fork is one to which an address goes, gives the lowest number, and is the lowest that does
abbrev pub BestIs : Type 0
BestIs = (l r : Tree) →
    (elem (best l r) (hops (Fork l r)) ≡ true) ×
    (below l r (best l r) ≡ lowest_below l r) ×
    ((k : ℕ) → elem k (hops (Fork l r)) ≡ true → lowest_below l r ≤ below l r k) ×
    ((k : ℕ) → elem k (hops (Fork l r)) ≡ true → below l r k ≡ lowest_below l r → best l r ≤ k)

-- NEED AS IT IS KEPT

-- the lowest need is the lowest over all next hops, and some next hop reaches it; those that do are next hops to which an address goes
abbrev pub LeastIs : Type 0
LeastIs = (t : Tree) →
    ((h : ℕ) → least t ≤ need t h) ×
    ((h : ℕ) × (reaches t h ≡ true)) ×
    ((h : ℕ) → reaches t h ≡ true → elem h (hops t) ≡ true)

-- it and the next hops that reach it determine need: for others it is one more
abbrev pub Determined : Type 0
Determined = (t : Tree) (h : ℕ) → need t h ≡ (if reaches t h then least t else suc (least t))

-- where all addresses go to x: none is needed, and x alone reaches that
abbrev pub UniformKept : Type 0
UniformKept = (x : ℕ) (t : Tree) → all_to x t ≡ true → (least t ≡ 0) × ((k : ℕ) → reaches t k ≡ (k == x))

-- two halves meet exactly if some next hop reaches the lowest need of both
abbrev pub MeetIs : Type 0
MeetIs = (l r : Tree) →
    (meet l r ≡ true → (k : ℕ) × (both l r k ≡ true)) ×
    (meet l r ≡ false → (k : ℕ) → both l r k ≡ false)

-- how both come from the two halves: where they meet, the sum, and what they share; else one more than the sum, and all of both
abbrev pub Joined : Type 0
Joined = (l r : Tree) →
    (meet l r ≡ true → (least (Fork l r) ≡ least l + least r) × ((k : ℕ) → reaches (Fork l r) k ≡ both l r k)) ×
    (meet l r ≡ false → (least (Fork l r) ≡ least l + least r + 1) × ((k : ℕ) → reaches (Fork l r) k ≡ (reaches l k || reaches r k)))

-- the choice at a fork to which one comes with h, where s and u say which next hops reach the lowest need of its halves: no line, if none
-- reaches both or h reaches one; or a line with the lowest that reaches both, if h reaches neither
abbrev pub Chooses : (ℕ → Bool) → (ℕ → Bool) → ℕ → Option ℕ → Type 0
Chooses s u h None = (k : ℕ) → (s k && u k) ≡ true → (s h || u h) ≡ true
Chooses s u h (Some k) = ((s k && u k) ≡ true) × ((j : ℕ) → (s j && u j) ≡ true → k ≤ j) × ((s h || u h) ≡ false)

-- the lines at and below a fork by such a choice, from those of its halves
abbrev pub lines_by : Option ℕ → ℕ → (ℕ → Entries) → (ℕ → Entries) → Entries
lines_by None h s u = forked (s h) (u h)
lines_by (Some k) h s u = line [] k ∷ forked (s k) (u k)

-- there is such a choice at every fork, and by it the lines are the prescribed ones
abbrev pub Chosen : Type 0
Chosen = (l r : Tree) (h : ℕ) →
    ((c : Option ℕ) × Chooses (reaches l) (reaches r) h c) ×
    ((c : Option ℕ) → Chooses (reaches l) (reaches r) h c → prescribed (Fork l r) h ≡ lines_by c h (prescribed l) (prescribed r))

-- EDGES

-- an edge sends the addresses that begin with its bits as the tree at its end does, and all others to x; and it is as deep as both together
abbrev pub EdgeSends : Type 0
EdgeSends = (x : ℕ) (bs : Bits) (t : Tree) →
    ((a : Bits) → goes (edge x bs t) (bs ++ a) ≡ goes t a) ×
    ((a : Bits) → length bs ≤ length a → begins bs a ≡ false → goes (edge x bs t) a ≡ x) ×
    ((v : ℕ) → Fits v t → Fits (length bs + v) (edge x bs t))

-- what an edge does to need
abbrev pub EdgeKept : Type 0
EdgeKept = (x : ℕ) (bs : Bits) (t : Tree) →
    (least (edge x bs t) ≡ least_above (length bs) x t) × ((k : ℕ) → reaches (edge x bs t) k ≡ reach_above (length bs) x (reaches t) k)

-- the lines of a tree at the end of an edge: those along the edge, and those of the tree between them
abbrev pub between : Along → ℕ → ℕ → Bits → (ℕ → Entries) → Entries
between c x h bs s = lines_before c x bs ++ (beneath bs (s (onward c x h)) ++ lines_after c x bs)

-- which lines an edge brings, and what one goes on with at the tree
abbrev pub EdgeLines : Type 0
EdgeLines = (x : ℕ) (bs : Bits) (t : Tree) (h : ℕ) → prescribed (edge x bs t) h ≡ between (along (length bs) x (reaches t) h) x h bs (prescribed t)
