-- Tables, and where they send an address, for any width of addresses. Assumes nothing.
use Rattle.std.specs.Prelude.{◌≡◌, ℕ, zero, suc, Bool, true, false, if◌then◌else◌, not, ◌&&◌, ◌||◌, List, [], ◌∷◌, length, Some, None, Option, ◌==◌, nat_le}
use Rattle.prefix.specs.Bits.{Bits, Address, begins, same, before}
use Rattle.table.specs.declared.lookups.Match.{Match}

-- a line of a table: the prefix with which an address must begin, and the next hop for it. Next hop 0 is: dropped
pub record Entry : Type 0 where
  pub prefix : Bits
  pub hop : ℕ

-- a table: its lines
abbrev pub Entries : Type 0
Entries = List Entry

-- LOOK-UPS

-- what a line says of an address that begins with it: how long it is, and its next hop. (The code's look-ups answer with the same
-- record; here its numbers have no bound, so that it serves any width)
abbrev pub matched : Entry → Match
matched e = record { len = length e.prefix; next_hop = e.hop }

-- the longer of a line that fits and of what the lines after it gave; of two as long (a sound table has no such two) the earlier line
abbrev pub longer : Entry → Option Match → Option Match
longer e None = Some (matched e)
longer e (Some m) = if nat_le m.len (length e.prefix) then Some (matched e) else Some m

-- longest-prefix match: the length and the next hop of the longest line with which the address begins, or none
unfoldable pub find : Entries → Bits → Option Match
find [] a = None
find (e ∷ es) a = if begins e.prefix a then longer e (find es a) else find es a

-- where that sends the address; with no line it is dropped
abbrev pub hop_of : Option Match → ℕ
hop_of None = 0
hop_of (Some m) = m.next_hop

-- where a table sends an address
abbrev pub sends : Entries → Bits → ℕ
sends t a = hop_of (find t a)

-- two tables send the same: every address of w bits goes to one next hop by both
abbrev pub SendSame : ℕ → Entries → Entries → Type 0
SendSame w t u = (a : Bits) → Address w a → sends t a ≡ sends u a

-- SOUND TABLES

-- whether some line has this prefix
unfoldable pub has : Bits → Entries → Bool
has p [] = false
has p (e ∷ es) = same p e.prefix || has p es

-- no two lines have the same prefix
unfoldable pub distinct : Entries → Bool
distinct [] = true
distinct (e ∷ es) = not (has e.prefix es) && distinct es

-- whether every line passes a test
unfoldable pub every : (Entry → Bool) → Entries → Bool
every f [] = true
every f (e ∷ es) = f e && every f es

-- no prefix is longer than an address of w bits, and next hops are at most 255
abbrev pub fits : ℕ → Entries → Bool
fits w t = every (λ e. nat_le (length e.prefix) w && nat_le e.hop 255) t

-- a table of addresses of w bits is as it should be
abbrev pub sound : ℕ → Entries → Bool
sound w t = distinct t && fits w t

-- CHANGES

-- the next hop of the first line whose prefix passes a test
unfoldable pub pick : (Bits → Bool) → Entries → Option ℕ
pick f [] = None
pick f (e ∷ es) = if f e.prefix then Some e.hop else pick f es

-- the next hop that stands at a prefix
abbrev pub at : Entries → Bits → Option ℕ
at t p = pick (same p) t

-- a table without the line of a prefix
unfoldable pub without : Bits → Entries → Entries
without p [] = []
without p (e ∷ es) = if same p e.prefix then without p es else e ∷ without p es

-- a line put before the first that comes after it
unfoldable pub insert : Entry → Entries → Entries
insert e [] = e ∷ []
insert e (f ∷ fs) = if before e.prefix f.prefix then e ∷ f ∷ fs else f ∷ insert e fs

-- a line put into a table, in place of one with the same prefix
abbrev pub put : Entry → Entries → Entries
put e t = insert e (without e.prefix t)

-- THE ORDER OF LINES

-- a line comes before all of these
abbrev pub leads : Entry → Entries → Bool
leads e t = every (λ f. before e.prefix f.prefix) t

-- lines by bits as a number rising and then by length rising: each comes before all that follow it
unfoldable pub rising : Entries → Bool
rising [] = true
rising (e ∷ es) = leads e es && rising es

-- whether a table has this line, next hop and all
unfoldable pub holds : Entry → Entries → Bool
holds e [] = false
holds e (f ∷ fs) = (same e.prefix f.prefix && e.hop == f.hop) || holds e fs

-- WHAT AN ADDRESS SEES

-- whether a line with this prefix is one that the address sees at length n: it begins with it, and it has n bits
abbrev pub sits : Bits → Bits → ℕ → Bool
sits p a n = begins p a && length p == n

-- what an address sees of a table at length n: the next hop of the line of n bits with which it begins
abbrev pub seen : Entries → Bits → ℕ → Option ℕ
seen t a n = pick (λ p. sits p a n) t

-- what stands at length n, or else what was found at shorter ones
abbrev pub over : ℕ → Option ℕ → Option Match → Option Match
over n None below = below
over n (Some h) below = Some (record { len = n; next_hop = h })

-- the topmost of what stands at the lengths up to n
unfoldable pub top : (ℕ → Option ℕ) → ℕ → Option Match
top f zero = over zero (f zero) None
top f (suc n) = over (suc n) (f (suc n)) (top f n)
