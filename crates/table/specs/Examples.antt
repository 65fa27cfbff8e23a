-- The definitions on small tables. Assumes nothing.
use Rattle.std.specs.Prelude.{◌≡◌, ℕ, true, false, [], ◌∷◌, Some, None, Option}
use Rattle.prefix.specs.Bits.{Bits}
use Rattle.table.specs.declared.lookups.Match.{Match}
use Rattle.table.specs.Tables.{Entry, Entries, find, sends, SendSame, sound, at, without, put, rising, seen}

-- a line, written short
abbrev pub line : Bits → ℕ → Entry
line p h = record { prefix = p; hop = h }

-- what a look-up finds by a line of n bits, written short
abbrev pub by : ℕ → ℕ → Option Match
by n h = Some (record { len = n; next_hop = h })

-- one line for all addresses; a longer one under it; one that drops under that
abbrev pub nested : Entries
nested = line [] 1 ∷ line (false ∷ []) 2 ∷ line (false ∷ true ∷ []) 0 ∷ []

-- what look-ups find in these
abbrev pub LookUps : Type 0
LookUps =
    -- no line at all: dropped, and by none
    (find [] (true ∷ true ∷ []) ≡ None) ×
    (sends [] (true ∷ true ∷ []) ≡ 0) ×
    -- a line for all addresses
    (find nested (true ∷ true ∷ []) ≡ by 0 1) ×
    -- a longer line under a shorter
    (find nested (false ∷ false ∷ []) ≡ by 1 2) ×
    -- next hop 0 under a line: dropped, and not absent
    (find nested (false ∷ true ∷ []) ≡ by 2 0) ×
    (sends nested (false ∷ true ∷ []) ≡ 0) ×
    -- what that address sees at the lengths 0, 1 and 2, and beyond
    (seen nested (false ∷ true ∷ []) 0 ≡ Some 1) ×
    (seen nested (false ∷ true ∷ []) 1 ≡ Some 2) ×
    (seen nested (false ∷ true ∷ []) 2 ≡ Some 0) ×
    (seen nested (false ∷ true ∷ []) 3 ≡ None)

-- which tables are sound and in order, and what puts and drops make of them
abbrev pub Changes : Type 0
Changes =
    (sound 2 nested ≡ true) ×
    -- too long for addresses of one bit; a next hop too high; one prefix twice
    (sound 1 nested ≡ false) ×
    (sound 2 (line [] 256 ∷ []) ≡ false) ×
    (sound 2 (line [] 1 ∷ line [] 2 ∷ []) ≡ false) ×
    (rising nested ≡ true) ×
    (rising (line (true ∷ []) 1 ∷ line (false ∷ []) 2 ∷ []) ≡ false) ×
    -- put over a line, between two, and at the end
    (put (line (false ∷ []) 7) nested ≡ line [] 1 ∷ line (false ∷ []) 7 ∷ line (false ∷ true ∷ []) 0 ∷ []) ×
    (put (line (false ∷ false ∷ []) 7) nested ≡ line [] 1 ∷ line (false ∷ []) 2 ∷ line (false ∷ false ∷ []) 7 ∷ line (false ∷ true ∷ []) 0 ∷ []) ×
    (put (line (true ∷ []) 7) nested ≡ line [] 1 ∷ line (false ∷ []) 2 ∷ line (false ∷ true ∷ []) 0 ∷ line (true ∷ []) 7 ∷ []) ×
    (without (false ∷ []) nested ≡ line [] 1 ∷ line (false ∷ true ∷ []) 0 ∷ []) ×
    (at nested (false ∷ []) ≡ Some 2) ×
    (at nested (true ∷ []) ≡ None)

-- a line that drops sends as no line does, though look-ups differ; one that sends on does not
abbrev pub Sending : Type 0
Sending =
    SendSame 2 (line [] 0 ∷ []) [] ×
    (find (line [] 0 ∷ []) (true ∷ true ∷ []) ≡ by 0 0) ×
    (SendSame 2 (line [] 1 ∷ []) [] → ⊥) ×
    -- two halves send as the whole; a half does not
    SendSame 1 (line [] 3 ∷ []) (line (false ∷ []) 3 ∷ line (true ∷ []) 3 ∷ []) ×
    (SendSame 1 (line [] 3 ∷ []) (line (true ∷ []) 3 ∷ []) → ⊥)
