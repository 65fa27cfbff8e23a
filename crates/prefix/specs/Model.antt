-- What the code's prefixes and answers mean, as strings of bits. Assumes nothing.
use Rattle.std.specs.Prelude.{◌≡◌, ℕ, ◌-◌, ◌%◌, ◌^◌, Bool, if◌then◌else◌, not, ◌&&◌, ◌∷◌, ◌++◌, take, ◌==◌, nat_le}
use Rattle.std.specs.declared.cmp.Ordering.TheVariants.{Less, Equal, Greater}
use Rattle.std.specs.declared.cmp.Ordering.{Ordering}
use Rattle.prefix.specs.declared.cidr.Prefix.{Prefix}
use Rattle.prefix.specs.declared.part.Parting.{Parting}
use Rattle.prefix.specs.declared.part.Parting.TheVariants.{Same, Below, Above, Apart}
use Rattle.prefix.specs.Bits.{Bits, bits_of, same, before}

-- how many bits an address of the code has: prefixes have as many at most, so there is one length more than that
abbrev pub address_width : ℕ
address_width = 32

-- an address of the code: all of its 32 bits
abbrev pub address_bits : ℕ → Bits
address_bits a = bits_of 32 a

-- the bits of a prefix
abbrev pub bits : Prefix → Bits
bits p = take p.len (bits_of 32 p.network)

-- whether a network address of w bits and a length are a prefix: at most w bits, and none set after the length
abbrev pub canonical : ℕ → ℕ → ℕ → Bool
canonical w net n = nat_le n w && net % 2 ^ (w - n) == 0

-- how p stands to q
abbrev pub Parted : Bits → Bits → Parting → Type 0
Parted p q Same = p ≡ q
Parted p q (Below side rest) = p ≡ q ++ (side ∷ bits rest)
Parted p q (Above side rest) = q ≡ p ++ (side ∷ bits rest)
Parted p q (Apart stem side rest other) = (p ≡ bits stem ++ (side ∷ bits rest)) × (q ≡ bits stem ++ (not side ∷ bits other))

-- what a comparison of p with q answers
abbrev pub compared : Bits → Bits → Ordering
compared p q = (if before p q then Less else (if same p q then Equal else Greater))
