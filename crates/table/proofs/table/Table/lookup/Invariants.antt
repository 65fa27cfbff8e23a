use Rattle.std.proofs.Common.{length}
use Rattle.prefix.specs.Model.{address_bits, bits}
use Rattle.table.specs.Model.{entries}
use Rattle.table.proofs.Longest.{Narrowed}
use Rattle.table.proofs.table.Table.lookup.Given as goal

-- the key is the first bits of the address, and no longer route matches
abbrev pub invariant-shorter : goal.invariant-shorter
invariant-shorter l = Narrowed (entries l.self) (address_bits l.address) (bits l.key)

abbrev pub decreases-shorter : goal.decreases-shorter
decreases-shorter l = length (bits l.key)
