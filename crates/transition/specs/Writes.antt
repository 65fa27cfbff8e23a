-- Writes to a device's table, and what it holds between any two of them, for any width of addresses. Assumes nothing.
use Rattle.std.specs.Prelude.{ℕ, Bool, false, not, List, [], ◌∷◌, take}
use Rattle.prefix.specs.Bits.{Bits}
use Rattle.table.specs.Tables.{Entry, Entries, has, holds, put, without}

-- one write: a line is put, in place of one with the same prefix, or the line of a prefix is dropped
pub data Writing : Type 0 where
  Put : (line : Entry) → Writing
  Drop : (prefix : Bits) → Writing

-- the prefix that a write is about
abbrev pub target : Writing → Bits
target (Put e) = e.prefix
target (Drop p) = p

-- a table after one write. It is done at once: there is nothing between the table before and the table after
abbrev pub written : Writing → Entries → Entries
written (Put e) t = put e t
written (Drop p) t = without p t

-- a table after several writes, one after the other
unfoldable pub written_all : List Writing → Entries → Entries
written_all [] t = t
written_all (u ∷ us) t = written_all us (written u t)

-- the moment after the first k of some writes: what a table is then (all of them, where there are no more than k)
abbrev pub moment : List Writing → Entries → ℕ → Entries
moment us t k = written_all (take k us) t

-- whether a write changes a table: it puts what isn't there, next hop and all, or drops what is there
abbrev pub works : Writing → Entries → Bool
works (Put e) t = not (holds e t)
works (Drop p) t = has p t

-- whether a write makes a table longer: it puts a line whose prefix is not there
abbrev pub grows : Writing → Entries → Bool
grows (Put e) t = not (has e.prefix t)
grows (Drop p) t = false
