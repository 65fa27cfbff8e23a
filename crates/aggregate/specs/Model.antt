-- What the needs of the code mean. Assumes nothing.
use Rattle.std.specs.Prelude.{◌≡◌, ℕ, zero, suc, ◌+◌, ◌-◌, ◌^◌, min, Bool, true, false, if◌then◌else◌, ◌&&◌, ◌||◌, ◌==◌}
use Rattle.fewest.specs.Trees.{Tree}
use Rattle.fewest.specs.Needs.{least, reaches}
use Rattle.fewest.specs.Edges.{reach_above}
use Rattle.aggregate.specs.declared.need.Need.{Need}
use Rattle.aggregate.specs.Sets.{has}

-- a number as the code counts it: up to the highest that 32 bits hold, and no further. No table has so many lines
abbrev pub capped : ℕ → ℕ
capped n = min n (2 ^ 32 - 1)

-- whether a next hop reaches the count of a need
abbrev pub among : Need → ℕ → Bool
among n k = has n.hops k

-- A NEED IS KEPT for a tree: its count is the lowest need of the tree, and its set has the next hops that reach that
pub record Keeps (n : Need) (t : Tree) : Type 0 where
  pub number : n.count ≡ capped (least t)
  pub members : (k : ℕ) → among n k ≡ reaches t k

-- what a need says for one who comes with h
abbrev pub need_with : Need → ℕ → ℕ
need_with n h = (if among n h then n.count else capped (n.count + 1))

-- the need where all addresses go to x
pub record UniformTo (x : ℕ) (n : Need) : Type 0 where
  pub number : n.count ≡ 0
  pub members : (k : ℕ) → among n k ≡ (k == x)

-- the need of two halves: where their sets meet, the sum, and what both have; else one more, and what either has
pub record JoinedTo (a b n : Need) : Type 0 where
  pub meeting : (k : ℕ) → (among a k && among b k) ≡ true → (n.count ≡ capped (a.count + b.count)) × ((j : ℕ) → among n j ≡ (among a j && among b j))
  pub apart : ((k : ℕ) → (among a k && among b k) ≡ false) → (n.count ≡ capped (a.count + b.count + 1)) × ((j : ℕ) → among n j ≡ (among a j || among b j))

-- the count at the upper end of an edge of so many bits, whose other sides go to x
abbrev pub count_above : ℕ → ℕ → Need → ℕ
count_above zero x a = a.count
count_above (suc n) x a = need_with a x

-- and the need there
pub record LiftedTo (n x : ℕ) (a r : Need) : Type 0 where
  pub number : r.count ≡ count_above n x a
  pub members : (k : ℕ) → among r k ≡ reach_above n x (among a) k
