-- What the code's writes and refusals mean. Assumes nothing.
use Rattle.std.specs.Prelude.{ℕ, if◌then◌else◌, List, ◌++◌, map, length, Some, None, Option, nat_lt, codes}
use Rattle.std.specs.Fmt.{decimal}
use Rattle.prefix.specs.Model.{bits}
use Rattle.prefix.specs.Text.{cidr_text}
use Rattle.table.specs.Routes.{entry_of}
use Rattle.table.specs.Tables.{Entries}
use Rattle.transition.specs.declared.write.Write.{Write}
use Rattle.transition.specs.declared.write.Write.TheVariants.{Put as PutRoute, Drop as DropPrefix}
use Rattle.transition.specs.declared.refusal.Refusal.{Refusal}
use Rattle.transition.specs.declared.refusal.Refusal.TheVariants.{TooManyLines, SliceTooShort}
use Rattle.transition.specs.Writes.{Writing, Put, Drop}
use Rattle.transition.specs.Plans.{plan, crowded}

-- the write that a write of the code is
abbrev pub writing_of : Write → Writing
writing_of (PutRoute r) = Put (entry_of r)
writing_of (DropPrefix p) = Drop (bits p)

-- and those that several are
abbrev pub writings_of : List Write → List Writing
writings_of ws = map writing_of ws

-- how a write is printed, as `put 10.0.0.0/8 3` or `drop 10.0.0.0/8`
abbrev pub write_text : Write → List ℕ
write_text (PutRoute r) = codes "put " ++ cidr_text r.prefix ++ codes " " ++ decimal r.next_hop
write_text (DropPrefix p) = codes "drop " ++ cidr_text p

-- the number by which each refusal is known outside: 7 for too many lines while going over; a slice that is too short is a matter between the
-- caller and the call alone, and has none, which is 0
abbrev pub number_of : Refusal → ℕ
number_of TooManyLines = 7
number_of SliceTooShort = 0

-- what a refusal says in words
abbrev pub refusal_text : Refusal → List ℕ
refusal_text TooManyLines = codes "going over takes more lines than the device holds"
refusal_text SliceTooShort = codes "the slice has fewer places than the plan has writes"

-- the number by which going over from old to new is refused, if it is
abbrev pub refusal : Entries → Entries → Option ℕ
refusal old new = (if crowded old new then Some (number_of TooManyLines) else None)

-- the same where the plan is to be written to so many places: the count is judged first, and then the places
abbrev pub refusal_in : Entries → Entries → ℕ → Option ℕ
refusal_in old new places =
    (if crowded old new then Some (number_of TooManyLines) else if nat_lt places (length (plan old new)) then Some (number_of SliceTooShort) else None)
