-- Sets of next hops, as four words of 64 bits, by their members. Assumes nothing.
use Rattle.std.specs.Prelude.{◌≡◌, ℕ, ◌/◌, ◌%◌, ◌≤◌, ◌==◌, Bool, true, false, Some, None, Option, slice_index}
use Rattle.std.specs.Int.{bit_at}
use Rattle.aggregate.specs.declared.hops.HopSet.{HopSet}

-- whether a next hop is in a set: its bit in its word is 1
abbrev pub has : HopSet → ℕ → Bool
has s k = bit_at (slice_index s.words (k / 64)) (k % 64) == 1

-- the lowest of a set, or none where it is empty
abbrev pub Lowest : HopSet → Option ℕ → Type 0
Lowest s None = (k : ℕ) → has s k ≡ false
Lowest s (Some m) = (has s m ≡ true) × ((k : ℕ) → has s k ≡ true → m ≤ k)

-- whether a set is empty
abbrev pub Empty : HopSet → Bool → Type 0
Empty s true = (k : ℕ) → has s k ≡ false
Empty s false = (k : ℕ) × (has s k ≡ true)
