-- The code's routes as lines of a table. Assumes nothing.
use Rattle.std.specs.Prelude.{ℕ}
use Rattle.prefix.specs.Bits.{number}
use Rattle.prefix.specs.Model.{bits}
use Rattle.table.specs.declared.route.Route.{Route}
use Rattle.table.specs.Tables.{Entry}

-- the line that a route is
abbrev pub entry_of : Route → Entry
entry_of r = record { prefix = bits r.prefix; hop = r.next_hop }

-- its bits as a number of 32 bits
abbrev pub network_of : Route → ℕ
network_of r = number 32 (bits r.prefix)
