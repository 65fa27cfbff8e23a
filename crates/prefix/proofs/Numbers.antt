-- Prefixes as numbers, and their order. Assumes nothing.
use Rattle.std.proofs.Common.{◌≡◌, ℕ, zero, suc, ◌+◌, ◌-◌, ◌*◌, ◌/◌, ◌%◌, ◌^◌, ◌<◌, ◌≤◌, true, false, eqb, ◌⊎◌, [], ◌∷◌, ◌++◌, length, take, replicate, sym, refl, ap, ◌∙◌, inl, inr, mod-eq_of_lt, pow-suc, arith, take-append-drop}
use Rattle.std.proofs.lemmas.Nat.{pow_pos, mod-pow-add, mod_below}
use Rattle.std.proofs.lemmas.Bool.Decides.{nat_tests}
use Rattle.prefix.specs.Bits.{Bits, bits_of, number, before}
use Rattle.prefix.specs.Laws.{ByNumber, Numbered}
use Rattle.prefix.proofs.Words.{bits_low, bits_joined, bits_zero, bits_back}

pub number_below : (w : ℕ) (p : Bits) → number w p < 2 ^ w
unfolding number
number_below zero p = omega arith
number_below (suc w) [] = pow_pos (suc w)
number_below (suc w) (false ∷ p) = omega (arith, pow-suc 2 w, number_below w p)
number_below (suc w) (true ∷ p) = omega (arith, pow-suc 2 w, number_below w p)

one_more : (w v x : ℕ) → v < 2 ^ w → bits_of (suc w) (x * 2 ^ w + v) ≡ bits_of 1 x ++ bits_of w v
one_more w v x h = let e : 1 + w ≡ suc w = omega arith in rw e at (bits_joined 1 w x v h)

number_of : (w : ℕ) (p : Bits) → length p ≤ w → bits_of w (number w p) ≡ p ++ replicate (w - length p) false
unfolding number bits_of
number_of zero [] h = refl
number_of zero (x ∷ p) h = absurd (omega arith)
number_of (suc w) [] h = let e : suc w - 0 ≡ suc w = omega arith in rw e (bits_zero (suc w))
number_of (suc w) (false ∷ p) h =
    let ih = number_of w p (omega arith) in
    let n : ℕ = number w p in
    let e : 0 * 2 ^ w + number w p ≡ number w p = omega arith in
    let k : suc w - suc (length p) ≡ w - length p = omega arith in
    let m = one_more w (number w p) 0 (number_below w p) in
    rw k ((rw e at m) ∙ ap (λ (x : Bits). false ∷ x) ih)
number_of (suc w) (true ∷ p) h =
    let ih = number_of w p (omega arith) in
    let e : 1 * 2 ^ w + number w p ≡ 2 ^ w + number w p = omega arith in
    let k : suc w - suc (length p) ≡ w - length p = omega arith in
    let m = one_more w (number w p) 1 (number_below w p) in
    rw k ((rw e at m) ∙ ap (λ (x : Bits). true ∷ x) ih)

pub numbered : Numbered
numbered w p h = (number_below w p, number_of w p h)

pub number_zeros : (w k : ℕ) → number w (replicate k false) ≡ 0
unfolding number
number_zeros zero k = refl
number_zeros (suc w) zero = refl
number_zeros (suc w) (suc k) = number_zeros w k

-- zeros after a prefix do not change its number
number_pad : (w k : ℕ) (p : Bits) → number w (p ++ replicate k false) ≡ number w p
unfolding number
number_pad zero k p = refl
number_pad (suc w) k [] = number_zeros (suc w) k
number_pad (suc w) k (false ∷ p) = number_pad w k p
number_pad (suc w) k (true ∷ p) = ap (λ x. 2 ^ w + x) (number_pad w k p)

digit : (x d p r : ℕ) → (d ≡ x * p + r) → x < 2 → ((eqb x 1 ≡ true) × (d ≡ p + r)) ⊎ ((eqb x 1 ≡ false) × (d ≡ r))
digit zero d p r e h = inr (refl, omega arith)
digit (suc zero) d p r e h = inl (refl, omega arith)
digit (suc (suc x)) d p r e h = absurd (omega arith)

pub number_bits : (w v : ℕ) → number w (bits_of w v) ≡ v % 2 ^ w
unfolding number bits_of
number_bits zero v = omega (arith, mod_below v 1 (omega arith))
number_bits (suc w) v =
    let ih = number_bits w v in
    let e : 1 + w ≡ suc w = omega arith in
    let m : v % 2 ^ suc w ≡ (v / 2 ^ w % 2) * 2 ^ w + v % 2 ^ w = rw e at (mod-pow-add v 1 w) in
    elim (digit (v / 2 ^ w % 2) (v % 2 ^ suc w) (2 ^ w) (v % 2 ^ w) m (mod_below (v / 2 ^ w) 2 (omega arith))) [
      | inl d ↦ rw (d.0, d.1, ih)
      | inr d ↦ rw (d.0, d.1, ih)
    ]

-- where no bit is set after the first n, the others are zeros
pub clean_bits : (w n v : ℕ) → n ≤ w → v % 2 ^ (w - n) ≡ 0 → bits_of w v ≡ take n (bits_of w v) ++ replicate (w - n) false
clean_bits w n v h c =
    sym (take-append-drop n (bits_of w v))
    ∙ ap (λ (x : Bits). take n (bits_of w v) ++ x) (bits_back w n v h ∙ sym (bits_low (w - n) v) ∙ ap (bits_of (w - n)) c ∙ bits_zero (w - n))

-- the number of a clean prefix is its network address
pub number_clean : (w n v : ℕ) → n ≤ w → v < 2 ^ w → v % 2 ^ (w - n) ≡ 0 → number w (take n (bits_of w v)) ≡ v
number_clean w n v h k c =
    sym (number_pad w (w - n) (take n (bits_of w v))) ∙ ap (number w) (sym (clean_bits w n v h c)) ∙ number_bits w v ∙ mod-eq_of_lt k

pub by_number : ByNumber
unfolding before number
by_number zero [] [] h k = refl
by_number zero [] (y ∷ q) h k = absurd (omega arith)
by_number zero (x ∷ p) q h k = absurd (omega arith)
by_number (suc w) [] [] h k = refl
by_number (suc w) [] (false ∷ q) h k = grind (arith, nat_tests)
by_number (suc w) [] (true ∷ q) h k = grind (arith, nat_tests)
by_number (suc w) (x ∷ p) [] h k = grind (arith, nat_tests)
by_number (suc w) (false ∷ p) (false ∷ q) h k = by_number w p q (omega arith) (omega arith) ∙ grind (arith, nat_tests)
by_number (suc w) (false ∷ p) (true ∷ q) h k = let a = number_below w p in grind (arith, nat_tests)
by_number (suc w) (true ∷ p) (false ∷ q) h k = let a = number_below w q in grind (arith, nat_tests)
by_number (suc w) (true ∷ p) (true ∷ q) h k = by_number w p q (omega arith) (omega arith) ∙ grind (arith, nat_tests)
