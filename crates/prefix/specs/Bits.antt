-- Strings of bits: addresses, and the prefixes that addresses begin with, for any width. Assumes nothing.
use Rattle.std.specs.Prelude.{◌≡◌, ℕ, zero, suc, ◌+◌, ◌/◌, ◌%◌, ◌^◌, Bool, true, false, if◌then◌else◌, not, ◌&&◌, List, [], ◌∷◌, length, ◌==◌}

-- an address or a prefix: its bits, the first (highest) one first
abbrev pub Bits : Type 0
Bits = List Bool

-- a string of bits is an address of w bits
abbrev pub Address : ℕ → Bits → Type 0
Address w a = length a ≡ w

-- whether two bits are the same
abbrev pub same_bit : Bool → Bool → Bool
same_bit true b = b
same_bit false b = not b

-- whether an address begins with a prefix
unfoldable pub begins : Bits → Bits → Bool
begins [] a = true
begins (x ∷ p) [] = false
begins (x ∷ p) (y ∷ a) = same_bit x y && begins p a

-- whether two prefixes have the same bits
unfoldable pub same : Bits → Bits → Bool
same [] [] = true
same [] (y ∷ q) = false
same (x ∷ p) [] = false
same (x ∷ p) (y ∷ q) = same_bit x y && same p q

-- how many bits two prefixes begin with in common
unfoldable pub common : Bits → Bits → ℕ
common [] q = 0
common (x ∷ p) [] = 0
common (x ∷ p) (y ∷ q) = (if same_bit x y then suc (common p q) else 0)

-- the order of prefixes: whether p comes before q, by the first bit at which they part, and a prefix before those below it.
-- It is the order by bits as a number, and then by length (`ByNumber` in Laws)
unfoldable pub before : Bits → Bits → Bool
before [] [] = false
before [] (y ∷ q) = true
before (x ∷ p) [] = false
before (false ∷ p) (false ∷ q) = before p q
before (false ∷ p) (true ∷ q) = true
before (true ∷ p) (false ∷ q) = false
before (true ∷ p) (true ∷ q) = before p q

-- whether a number is odd: its lowest bit is 1
abbrev pub odd : ℕ → Bool
odd v = v % 2 == 1

-- the n lowest bits of a number, the highest of them first
unfoldable pub bits_of : ℕ → ℕ → Bits
bits_of zero v = []
bits_of (suc n) v = odd (v / 2 ^ n) ∷ bits_of n v

-- a prefix as a number of w bits: its bits from the highest on, and zeros after them
unfoldable pub number : ℕ → Bits → ℕ
number zero p = 0
number (suc w) [] = 0
number (suc w) (false ∷ p) = number w p
number (suc w) (true ∷ p) = 2 ^ w + number w p
