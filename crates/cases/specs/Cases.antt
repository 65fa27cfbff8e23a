-- The worked cases, at few bits: the rows of one table. Assumes nothing.
use Rattle.std.specs.Prelude.{◌≡◌, ℕ, suc, true, false, List, [], ◌∷◌, length}
use Rattle.std.specs.List.{AllByRecursion}
use Rattle.prefix.specs.Bits.{Bits}
use Rattle.table.specs.Examples.{line}
use Rattle.table.specs.Tables.{Entries, sends}
use Rattle.transition.specs.Writes.{Writing, Put, Drop, written_all, moment}
use Rattle.transition.specs.Plans.{plan}

-- an address goes to these next hops: at the moment k, at the next one, and so on
unfoldable pub Goes : List Writing → Entries → Bits → ℕ → List ℕ → Type 0
Goes us t a k [] = Unit {0}
Goes us t a k (h ∷ hs) = (sends (moment us t k) a ≡ h) × Goes us t a (suc k) hs

-- the course of an address: where it goes at first, and after each of the writes
pub record Course : Type 0 where
  pub address : Bits
  pub hops : List ℕ

-- that is the course of an address by these writes
abbrev pub Takes : List Writing → Entries → Course → Type 0
Takes us t c = (length c.hops ≡ suc (length us)) × Goes us t c.address 0 c.hops

-- a course, written short
abbrev pub by : Bits → List ℕ → Course
by a hs = record { address = a; hops = hs }

-- one worked case
pub data Case : Type 0 where
  -- going over from an old table to a new one by these writes, and the courses that addresses take
  Over : (old new : Entries) (writes : List Writing) (courses : List Course) → Case

-- what a case says
abbrev pub Holds : Case → Type 0
Holds (Over old new us cs) = (plan old new ≡ us) × (written_all us old ≡ new) × AllByRecursion (Takes us old) cs

-- the cases
abbrev pub rows : List Case
rows =
    -- F: a line for all gives way to two halves; an address goes the old way until its half is put
    Over (line [] 1 ∷ []) (line (false ∷ []) 2 ∷ line (true ∷ []) 3 ∷ [])
    (Put (line (false ∷ []) 2) ∷ Put (line (true ∷ []) 3) ∷ Drop [] ∷ [])
    (by (false ∷ []) (1 ∷ 2 ∷ 2 ∷ 2 ∷ []) ∷ by (true ∷ []) (1 ∷ 1 ∷ 3 ∷ 3 ∷ []) ∷ []) ∷
    -- G: and the other way; an address goes the old way until its half is dropped
    Over (line (false ∷ []) 2 ∷ line (true ∷ []) 3 ∷ []) (line [] 1 ∷ [])
    (Put (line [] 1) ∷ Drop (false ∷ []) ∷ Drop (true ∷ []) ∷ [])
    (by (false ∷ []) (2 ∷ 2 ∷ 1 ∷ 1 ∷ []) ∷ by (true ∷ []) (3 ∷ 3 ∷ 3 ∷ 1 ∷ []) ∷ []) ∷
    -- H: lines under lines; an address 00 goes to 3 until the last write
    Over (line [] 1 ∷ line (false ∷ []) 2 ∷ line (false ∷ false ∷ []) 3 ∷ []) (line [] 4 ∷ [])
    (Put (line [] 4) ∷ Drop (false ∷ []) ∷ Drop (false ∷ false ∷ []) ∷ [])
    (by (false ∷ false ∷ []) (3 ∷ 3 ∷ 3 ∷ 4 ∷ []) ∷ by (false ∷ true ∷ []) (2 ∷ 2 ∷ 4 ∷ 4 ∷ []) ∷ by (true ∷ true ∷ []) (1 ∷ 4 ∷ 4 ∷ 4 ∷ []) ∷ []) ∷ []

-- every row holds
abbrev pub AllHold : Type 0
AllHold = AllByRecursion Holds rows
