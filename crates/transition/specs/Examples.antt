-- The definitions on small tables. Assumes nothing.
use Rattle.std.specs.Prelude.{◌≡◌, true, false, List, [], ◌∷◌}
use Rattle.table.specs.Examples.{line}
use Rattle.table.specs.Tables.{Entries, sends}
use Rattle.transition.specs.Writes.{Writing, Put, Drop, written_all, moment, works, grows}
use Rattle.transition.specs.Plans.{changed, fresh, longest_first, shortest_first, sorted_by, plan, together, crowded, in_turn, among}

-- three lines
abbrev pub older : Entries
older = line [] 1 ∷ line (false ∷ []) 2 ∷ line (true ∷ []) 3 ∷ []

-- one of them kept, one with another next hop, one gone, and two new ones
abbrev pub newer : Entries
newer = line [] 1 ∷ line (false ∷ []) 4 ∷ line (false ∷ true ∷ []) 5 ∷ line (true ∷ false ∷ []) 6 ∷ []

-- the writes from one to the other
abbrev pub course : List Writing
course = Put (line (false ∷ true ∷ []) 5) ∷ Put (line (true ∷ false ∷ []) 6) ∷ Put (line (false ∷ []) 4) ∷ Drop (true ∷ []) ∷ []

-- what the definitions give for these
abbrev pub Small : Type 0
Small =
    (changed older newer ≡ line (false ∷ []) 4 ∷ line (false ∷ true ∷ []) 5 ∷ line (true ∷ false ∷ []) 6 ∷ []) ×
    (fresh older newer ≡ line (false ∷ true ∷ []) 5 ∷ line (true ∷ false ∷ []) 6 ∷ []) ×
    (fresh newer older ≡ line (true ∷ []) 3 ∷ []) ×
    (together older newer ≡ 5) ×
    (together newer older ≡ 5) ×
    (crowded older newer ≡ false) ×
    (sorted_by longest_first newer ≡ line (false ∷ true ∷ []) 5 ∷ line (true ∷ false ∷ []) 6 ∷ line (false ∷ []) 4 ∷ line [] 1 ∷ []) ×
    (sorted_by shortest_first newer ≡ line [] 1 ∷ line (false ∷ []) 4 ∷ line (false ∷ true ∷ []) 5 ∷ line (true ∷ false ∷ []) 6 ∷ []) ×
    (plan older newer ≡ course) ×
    (in_turn course ≡ true) ×
    -- a drop before a put has not its turn
    (in_turn (Drop (true ∷ []) ∷ Put (line [] 1) ∷ []) ≡ false) ×
    (among (Drop (true ∷ [])) course ≡ true) ×
    (among (Put (line (false ∷ []) 2)) course ≡ false) ×
    -- after two of the writes, and after all
    (moment course older 2 ≡ line [] 1 ∷ line (false ∷ []) 2 ∷ line (false ∷ true ∷ []) 5 ∷ line (true ∷ []) 3 ∷ line (true ∷ false ∷ []) 6 ∷ []) ×
    (written_all course older ≡ newer) ×
    (moment course older 9 ≡ newer) ×
    -- an address of two bits, 11, goes from 3 to 1 with the last write
    (sends (moment course older 3) (true ∷ true ∷ []) ≡ 3) ×
    (sends (moment course older 4) (true ∷ true ∷ []) ≡ 1) ×
    -- nothing to do where the new table is the old
    (plan newer newer ≡ []) ×
    (works (Put (line [] 1)) older ≡ false) ×
    (works (Put (line [] 2)) older ≡ true) ×
    (works (Drop (true ∷ true ∷ [])) older ≡ false) ×
    (works (Drop (true ∷ [])) older ≡ true) ×
    (grows (Put (line [] 2)) older ≡ false) ×
    (grows (Put (line (true ∷ true ∷ []) 2)) older ≡ true) ×
    (grows (Drop (true ∷ [])) older ≡ false)
