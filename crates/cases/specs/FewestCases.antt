-- The worked cases of the fewest lines, at few bits: the rows of one table. Assumes nothing.
use Rattle.std.specs.Prelude.{◌≡◌, ℕ, true, false, List, [], ◌∷◌, length}
use Rattle.std.specs.List.{AllByRecursion}
use Rattle.table.specs.Tables.{Entries}
use Rattle.table.specs.Examples.{line}
use Rattle.fewest.specs.Needs.{fewest}
use Rattle.fewest.specs.Prescribed.{short}

-- one worked case: the prescribed table for a wanted one, at so many bits
pub record Aggregation : Type 0 where
  pub width : ℕ
  pub wanted : Entries
  pub written : Entries

-- a case, written short
abbrev pub aggregated : ℕ → Entries → Entries → Aggregation
aggregated w t u = record { width = w; wanted = t; written = u }

-- what a case says: that table is prescribed, and it has the fewest lines
abbrev pub Shortens : Aggregation → Type 0
Shortens c = (short c.width c.wanted ≡ c.written) × (fewest c.width c.wanted ≡ length c.written)

-- the cases
abbrev pub fewest_rows : List Aggregation
fewest_rows =
    -- A: both halves to 1: one line
    aggregated 1 (line (false ∷ []) 1 ∷ line (true ∷ []) 1 ∷ []) (line [] 1 ∷ []) ∷
    -- B: a quarter to 2, all else to 1: a longer line under a shorter one
    aggregated 2 (line (false ∷ false ∷ []) 1 ∷ line (false ∷ true ∷ []) 2 ∷ line (true ∷ []) 1 ∷ []) (line [] 1 ∷ line (false ∷ true ∷ []) 2 ∷ []) ∷
    -- C: a quarter dropped, all else to 1: no line for all addresses, since without it there are as few
    aggregated 2 (line (false ∷ false ∷ []) 1 ∷ line (false ∷ true ∷ []) 0 ∷ line (true ∷ []) 1 ∷ []) (line (false ∷ false ∷ []) 1 ∷ line (true ∷ []) 1 ∷ []) ∷
    -- D: lines under lines with one next hop: one line
    aggregated 2 (line [] 3 ∷ line (false ∷ []) 3 ∷ line (false ∷ true ∷ []) 3 ∷ []) (line [] 3 ∷ []) ∷
    -- E: four quarters to 1, 2, 1, 2: three lines, with the lower next hop for all addresses
    aggregated 2 (line (false ∷ false ∷ []) 1 ∷ line (false ∷ true ∷ []) 2 ∷ line (true ∷ false ∷ []) 1 ∷ line (true ∷ true ∷ []) 2 ∷ [])
    (line [] 1 ∷ line (false ∷ true ∷ []) 2 ∷ line (true ∷ true ∷ []) 2 ∷ []) ∷
    -- one half dropped under a line for all: the line stands on the other half,
    aggregated 3 (line [] 1 ∷ line (false ∷ []) 0 ∷ []) (line (true ∷ []) 1 ∷ []) ∷
    -- one quarter: lines stand on the other quarter of its half and on the other half,
    aggregated 3 (line [] 1 ∷ line (false ∷ false ∷ []) 0 ∷ []) (line (false ∷ true ∷ []) 1 ∷ line (true ∷ []) 1 ∷ []) ∷
    -- one eighth: the line for all stays, and the eighth is dropped by a line of its own
    aggregated 3 (line [] 1 ∷ line (false ∷ false ∷ false ∷ []) 0 ∷ []) (line [] 1 ∷ line (false ∷ false ∷ false ∷ []) 0 ∷ []) ∷ []

-- every row holds
abbrev pub AllShorten : Type 0
AllShorten = AllByRecursion Shortens fewest_rows
