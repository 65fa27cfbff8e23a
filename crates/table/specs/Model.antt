-- The code's tables as lists of lines. Assumes nothing.
use Rattle.std.specs.Prelude.{◌≡◌, ℕ, ◌-◌, min, true, map, vec_items, vec_len, vec_capacity}
use Rattle.table.specs.declared.table.Table.{Table}
use Rattle.table.specs.Tables.{Entries, sound, rising}
use Rattle.table.specs.Routes.{entry_of}

-- the lines that a table holds, in their order
abbrev pub entries : Table → Entries
entries t = map entry_of (vec_items t.routes)

-- how many lines more a table has memory for
abbrev pub room : Table → ℕ
room t = min (vec_capacity t.routes - vec_len t.routes) (vec_capacity t.networks - vec_len t.networks)

-- every table of the code is sound for addresses of 32 bits, and its lines rise
abbrev pub AllSound : Type 0
AllSound = (t : Table) → (sound 32 (entries t) ≡ true) × (rising (entries t) ≡ true)
