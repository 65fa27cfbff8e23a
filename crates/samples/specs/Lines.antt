-- Lines written short, and tables of them. Assumes nothing.
use Rattle.std.specs.Prelude.{ℕ, List, [], take}
use Rattle.std.specs.List.{fold}
use Rattle.prefix.specs.Model.{address_bits}
use Rattle.table.specs.Tables.{Entry, Entries, put}

-- the line for addresses that begin with the first bits of one
abbrev pub line_of : ℕ × ℕ × ℕ → Entry
line_of (address, len, hop) = record { prefix = take len (address_bits address); hop = hop }

-- lines put into a table one after the other, from none
abbrev pub filled : List (ℕ × ℕ × ℕ) → Entries
filled lines = fold (λ t l. put (line_of l) t) [] lines
