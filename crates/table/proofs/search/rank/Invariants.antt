use Rattle.std.proofs.Common.{◌≡◌, ℕ, ◌-◌, ◌<◌, ◌≤◌, true, false, map, length}
use Rattle.prefix.specs.Bits.{before}
use Rattle.prefix.specs.Model.{bits}
use Rattle.table.specs.Routes.{entry_of}
use Rattle.table.specs.Search.{prefix_at}
use Rattle.table.proofs.search.rank.Given as goal

-- what is below `low` comes no later than the key, and what is from `high` on comes after it
abbrev pub invariant-loop-low : goal.invariant-loop-low
invariant-loop-low l =
    (l.low ≤ l.high) × (l.high ≤ length l.networks)
    × ((k : ℕ) → k < l.low → before (bits l.key) (prefix_at (map entry_of l.routes) k) ≡ false)
    × ((k : ℕ) → l.high ≤ k → k < length (map entry_of l.routes) → before (bits l.key) (prefix_at (map entry_of l.routes) k) ≡ true)

abbrev pub decreases-loop-low : goal.decreases-loop-low
decreases-loop-low l = l.high - l.low
