-- The plan: the writes that take a device from an old table to a new one, in their order, for any width of addresses. Assumes nothing.
use Rattle.std.specs.Prelude.{◌≡◌, ℕ, ◌+◌, Bool, true, false, if◌then◌else◌, not, ◌&&◌, ◌||◌, List, [], ◌∷◌, ◌++◌, map, length, filter, ◌==◌, nat_lt}
use Rattle.prefix.specs.Bits.{Bits, same, before}
use Rattle.table.specs.Limits.{device_limit}
use Rattle.table.specs.Tables.{Entry, Entries, has, holds}
use Rattle.transition.specs.Writes.{Writing, Put, Drop}

-- THE LINES THAT DIFFER

-- the new lines that the old table does not have with the same next hop. (`filter` keeps those of a list that pass a test, in their order)
abbrev pub changed : Entries → Entries → Entries
changed old new = filter (λ e. not (holds e old)) new

-- the new lines whose prefixes the old table does not have
abbrev pub fresh : Entries → Entries → Entries
fresh old new = filter (λ e. not (has e.prefix old)) new

-- THE ORDER OF WRITES

-- whether p comes before q, where a test says which lengths come first, and of equally long ones the lower bits do
abbrev pub by_length : (ℕ → ℕ → Bool) → Bits → Bits → Bool
by_length first p q = first (length p) (length q) || (length p == length q && before p q)

-- whether a length is longer than another
abbrev pub is_longer : ℕ → ℕ → Bool
is_longer m n = nat_lt n m

-- the longest prefixes first
abbrev pub longest_first : Bits → Bits → Bool
longest_first p q = by_length is_longer p q

-- the shortest prefixes first
abbrev pub shortest_first : Bits → Bits → Bool
shortest_first p q = by_length nat_lt p q

-- a line put before the first that it comes before, in an order of prefixes
unfoldable pub insert_by : (Bits → Bits → Bool) → Entry → Entries → Entries
insert_by f e [] = e ∷ []
insert_by f e (k ∷ ks) = (if f e.prefix k.prefix then e ∷ k ∷ ks else k ∷ insert_by f e ks)

-- lines in an order of prefixes
unfoldable pub sorted_by : (Bits → Bits → Bool) → Entries → Entries
sorted_by f [] = []
sorted_by f (e ∷ es) = insert_by f e (sorted_by f es)

-- THE PLAN

-- first each new line is put that isn't there already, the longest first
abbrev pub puts : Entries → Entries → List Writing
puts old new = map Put (sorted_by longest_first (changed old new))

-- the drop of a line
abbrev pub dropping : Entry → Writing
dropping e = Drop e.prefix

-- then each old line is dropped whose prefix the new table does not have, the shortest first
abbrev pub drops : Entries → Entries → List Writing
drops old new = map dropping (sorted_by shortest_first (fresh new old))

-- the plan from an old table to a new one
abbrev pub plan : Entries → Entries → List Writing
plan old new = puts old new ++ drops old new

-- THE COUNT

-- how many lines the old table and the new lines whose prefixes it does not have are together
abbrev pub together : Entries → Entries → ℕ
together old new = length old + length (fresh old new)

-- whether these are more than a device holds: then going over is refused
abbrev pub crowded : Entries → Entries → Bool
crowded old new = nat_lt device_limit (together old new)

-- WHAT THE RULES SAY OF A LIST OF WRITES

-- whether one write comes before another: puts before drops, of two puts the longest first, of two drops the shortest
abbrev pub earlier : Writing → Writing → Bool
earlier (Put e) (Put f) = longest_first e.prefix f.prefix
earlier (Put e) (Drop q) = true
earlier (Drop p) (Put f) = false
earlier (Drop p) (Drop q) = shortest_first p q

-- whether a write comes before each of these
unfoldable pub heads : Writing → List Writing → Bool
heads u [] = true
heads u (v ∷ vs) = earlier u v && heads u vs

-- whether each write comes before all that follow it
unfoldable pub in_turn : List Writing → Bool
in_turn [] = true
in_turn (u ∷ us) = heads u us && in_turn us

-- two writes are the same
abbrev pub same_writing : Writing → Writing → Bool
same_writing (Put e) (Put f) = same e.prefix f.prefix && e.hop == f.hop
same_writing (Put e) (Drop q) = false
same_writing (Drop p) (Put f) = false
same_writing (Drop p) (Drop q) = same p q

-- whether a write is among these
unfoldable pub among : Writing → List Writing → Bool
among u [] = false
among u (v ∷ vs) = same_writing u v || among u vs

-- the rules, sentence by sentence: a line is put exactly if the new table has it and the old one does not, next hop and all;
-- a prefix is dropped exactly if the old table has it and the new one does not; and each write has its turn
pub record Prescribed (old new : Entries) (us : List Writing) : Type 0 where
  pub put : (e : Entry) → among (Put e) us ≡ (holds e new && not (holds e old))
  pub dropped : (p : Bits) → among (Drop p) us ≡ (has p old && not (has p new))
  pub order : in_turn us ≡ true
