-- What holds of tables and look-ups, for any width; each statement is a theorem. Assumes nothing.
use Rattle.std.specs.Prelude.{◌≡◌, ℕ, suc, ◌≤◌, true, false, if◌then◌else◌, length, take, Some, None}
use Rattle.std.specs.List.Sorted.{IsPermutation}
use Rattle.prefix.specs.Bits.{Bits, begins, same}
use Rattle.table.specs.declared.lookups.Match.{Match}
use Rattle.table.specs.Tables.{Entry, Entries, matched, find, SendSame, has, distinct, sound, at, without, put, rising, holds, sits, seen, top}

-- a line of a table is the longest with which an address begins
pub record LongestLine (t : Entries) (a : Bits) (e : Entry) : Type 0 where
  pub held : holds e t ≡ true
  pub begun : begins e.prefix a ≡ true
  pub longest : (f : Entry) → holds f t ≡ true → begins f.prefix a ≡ true → length f.prefix ≤ length e.prefix

-- a look-up finds the longest line with which the address begins, whichever it is; what it finds is such a line;
-- and it finds none only where the address begins with no line
abbrev pub Longest : Type 0
Longest = (t : Entries) (a : Bits) → distinct t ≡ true →
    ((e : Entry) → LongestLine t a e → find t a ≡ Some (matched e)) ×
    ((m : Match) → find t a ≡ Some m → (e : Entry) × LongestLine t a e × (matched e ≡ m)) ×
    (find t a ≡ None → (e : Entry) → holds e t ≡ true → begins e.prefix a ≡ false)

-- a look-up is the topmost of what the address sees, length by length
abbrev pub Topmost : Type 0
Topmost = (t : Entries) (a : Bits) → find t a ≡ top (seen t a) (length a)

-- what an address sees at a length is what stands at its first bits, so many
abbrev pub SeenAt : Type 0
SeenAt = (t : Entries) (a : Bits) (n : ℕ) → n ≤ length a → seen t a n ≡ at t (take n a)

-- a put changes what an address sees at one length only: the line's, if it begins with the line
abbrev pub SeenPut : Type 0
SeenPut = (e : Entry) (t : Entries) (a : Bits) (n : ℕ) → seen (put e t) a n ≡ (if sits e.prefix a n then Some e.hop else seen t a n)

-- and so does a drop
abbrev pub SeenWithout : Type 0
SeenWithout = (p : Bits) (t : Entries) (a : Bits) (n : ℕ) → seen (without p t) a n ≡ (if sits p a n then None else seen t a n)

-- a put changes what stands at its own prefix, and at no other
abbrev pub AtPut : Type 0
AtPut = (e : Entry) (t : Entries) (p : Bits) → at (put e t) p ≡ (if same p e.prefix then Some e.hop else at t p)

-- and so does a drop
abbrev pub AtWithout : Type 0
AtWithout = (q : Bits) (t : Entries) (p : Bits) → at (without q t) p ≡ (if same p q then None else at t p)

-- a put makes a table one line longer if the prefix is new
abbrev pub CountPut : Type 0
CountPut = (e : Entry) (t : Entries) → distinct t ≡ true → length (put e t) ≡ (if has e.prefix t then length t else suc (length t))

-- a drop makes it one line shorter if the prefix is there
abbrev pub CountWithout : Type 0
CountWithout = (p : Bits) (t : Entries) → distinct t ≡ true → length t ≡ (if has p t then suc (length (without p t)) else length (without p t))

-- sound tables stay sound
abbrev pub StaysSound : Type 0
StaysSound =
    ((w : ℕ) (e : Entry) (t : Entries) → length e.prefix ≤ w → e.hop ≤ 255 → sound w t ≡ true → sound w (put e t) ≡ true) ×
    ((w : ℕ) (p : Bits) (t : Entries) → sound w t ≡ true → sound w (without p t) ≡ true)

-- and rising ones rising
abbrev pub StaysRising : Type 0
StaysRising =
    ((e : Entry) (t : Entries) → rising t ≡ true → rising (put e t) ≡ true) ×
    ((p : Bits) (t : Entries) → rising t ≡ true → rising (without p t) ≡ true)

-- lines that rise are distinct
abbrev pub RisingDistinct : Type 0
RisingDistinct = (t : Entries) → rising t ≡ true → distinct t ≡ true

-- the order of the lines does not matter to a look-up: the lines may be shuffled, by exchanging two of them as often as one likes
abbrev pub OrderFree : Type 0
OrderFree = (t u : Entries) → distinct t ≡ true → IsPermutation t u → (a : Bits) → find t a ≡ find u a

-- two tables have the same lines
abbrev pub SameLines : Entries → Entries → Type 0
SameLines t u = (e : Entry) → holds e t ≡ holds e u

-- tables with the same lines give the same look-ups, and so send the same
abbrev pub LinesDecide : Type 0
LinesDecide = (t u : Entries) → distinct t ≡ true → distinct u ≡ true → SameLines t u → ((a : Bits) → find t a ≡ find u a) × ((w : ℕ) → SendSame w t u)

-- and of the tables with the same lines one only rises
abbrev pub RisingOnce : Type 0
RisingOnce = (t u : Entries) → rising t ≡ true → rising u ≡ true → SameLines t u → t ≡ u
