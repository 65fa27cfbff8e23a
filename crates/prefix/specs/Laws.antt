-- What holds of bits and prefixes, each statement a theorem. Assumes nothing.
use Rattle.std.specs.Prelude.{◌≡◌, ℕ, ◌-◌, ◌^◌, ◌<◌, ◌≤◌, true, false, ◌&&◌, ◌||◌, [], ◌∷◌, ◌++◌, length, take, replicate, ◌==◌, nat_lt}
use Rattle.std.specs.declared.cmp.Ordering.TheVariants.{Less, Equal, Greater}
use Rattle.prefix.specs.declared.cidr.Prefix.{Prefix}
use Rattle.prefix.specs.Bits.{Bits, begins, same, common, before, bits_of, number}
use Rattle.prefix.specs.Model.{bits, canonical, compared}

-- the order is by bits as a number of any width that holds both, and then by length
abbrev pub ByNumber : Type 0
ByNumber = (w : ℕ) (p q : Bits) → length p ≤ w → length q ≤ w →
    before p q ≡ (nat_lt (number w p) (number w q) || (number w p == number w q && nat_lt (length p) (length q)))

-- a number and its bits say the same, at any width
abbrev pub Numbered : Type 0
Numbered = (w : ℕ) (p : Bits) → length p ≤ w → (number w p < 2 ^ w) × (bits_of w (number w p) ≡ p ++ replicate (w - length p) false)

-- a network address and a length are a prefix exactly where the address is its first bits, so many, and then zeros
abbrev pub Canonical : Type 0
Canonical = (w net n : ℕ) →
    (canonical w net n ≡ true → (n ≤ w) × (bits_of w net ≡ take n (bits_of w net) ++ replicate (w - n) false)) ×
    (n ≤ w → bits_of w net ≡ take n (bits_of w net) ++ replicate (w - n) false → canonical w net n ≡ true)

-- the order is strict and total: of two prefixes one comes before the other, or they are the same, and never two of these
abbrev pub Ordered : Type 0
Ordered = (p q r : Bits) →
    (before p p ≡ false) ×
    (before p q ≡ true → before q r ≡ true → before p r ≡ true) ×
    (before p q ≡ false → before q p ≡ false → p ≡ q)

-- two prefixes with the same bits are the same in every field
abbrev pub Faithful : Type 0
Faithful = (p q : Prefix) → bits p ≡ bits q → (p.network ≡ q.network) × (p.len ≡ q.len)

-- examples: 101 begins with 10, and 111 does not; all begin with the empty prefix, and nothing with a longer one than itself
abbrev pub Examples : Type 0
Examples =
    (begins (true ∷ false ∷ []) (true ∷ false ∷ true ∷ []) ≡ true) ×
    (begins (true ∷ false ∷ []) (true ∷ true ∷ true ∷ []) ≡ false) ×
    (begins [] [] ≡ true) ×
    (begins [] (true ∷ []) ≡ true) ×
    (begins (true ∷ []) [] ≡ false) ×
    (same (true ∷ []) (true ∷ false ∷ []) ≡ false) ×
    (common (true ∷ false ∷ true ∷ []) (true ∷ false ∷ false ∷ true ∷ []) ≡ 2) ×
    -- 0 before 00 before 01 before 1
    (before (false ∷ []) (false ∷ false ∷ []) ≡ true) ×
    (before (false ∷ false ∷ []) (false ∷ true ∷ []) ≡ true) ×
    (before (false ∷ true ∷ []) (true ∷ []) ≡ true) ×
    (before (true ∷ []) (false ∷ true ∷ []) ≡ false) ×
    (before (true ∷ []) (true ∷ []) ≡ false) ×
    -- ten in four bits is 1010; 101 of four bits is ten too
    (bits_of 4 10 ≡ true ∷ false ∷ true ∷ false ∷ []) ×
    (number 4 (true ∷ false ∷ true ∷ []) ≡ 10) ×
    -- so ten and three are a prefix of four bits; ten and two leave a bit set after the length, and five is too long
    (canonical 4 10 3 ≡ true) ×
    (canonical 4 10 2 ≡ false) ×
    (canonical 4 0 5 ≡ false) ×
    (compared (true ∷ []) (true ∷ false ∷ []) ≡ Less) ×
    (compared (true ∷ []) (true ∷ []) ≡ Equal) ×
    (compared (true ∷ []) (false ∷ true ∷ []) ≡ Greater)
