-- Strings of bits and the numbers that they are digits of, at any width. Assumes nothing.
use Rattle.std.proofs.Common.{◌≡◌, ℕ, zero, suc, ◌+◌, ◌-◌, ◌*◌, ◌/◌, ◌%◌, ◌^◌, ◌<◌, ◌≤◌, Bool, false, not, eqb, ◌∷◌, ◌++◌, length, get_or, take, drop, replicate, sym, refl, ap, ◌∙◌, add_comm, suc-add, pow-suc, zero-add, add-one, arith}
use native.Mathlib.Nat.{sub_self, div-eq_of_lt}
use lib.Bits.{bit_xor, differ, xor_assoc, xor_self, xor_zero_l, xor_zero_r, xor_step, xor_shr, xor_lt}
use lib.Count.{count_leading_zeros, leading_length}
use Rattle.std.proofs.lemmas.Nat.{shr-shr, mod-pow-add, field_of, mod_low, shr_high, pow_pos, div_below, le-div, mod_below}
use Rattle.std.proofs.lemmas.List.{take_at, drop_at, get_or-append_right}
use Rattle.prefix.specs.Bits.{Bits, bits_of, odd}

pub length_bits : (n v : ℕ) → length (bits_of n v) ≡ n
unfolding bits_of
length_bits zero v = refl
length_bits (suc n) v = ap suc (length_bits n v)

-- the bits of a number are those of its high part, and then those of its low part
pub bits_cat : (m n v : ℕ) → bits_of (m + n) v ≡ bits_of m (v / 2 ^ n) ++ bits_of n v
unfolding bits_of
bits_cat zero n v = rw zero-add
bits_cat (suc m) n v =
    rw suc-add (let e : v / 2 ^ (m + n) ≡ v / 2 ^ n / 2 ^ m = rw (add_comm m n) (sym (shr-shr v n m)) in
    let f = bits_cat m n v in cc)

-- the last digit of a number stays where higher digits are cut
odd_mod : (j v : ℕ) → odd (v % 2 ^ suc j) ≡ odd v
odd_mod j v =
    let e : v % 2 ^ (j + 1) % 2 ≡ v % 2 = rw (mod-pow-add v j 1) (mod_low (v / 2 ^ 1 % 2 ^ j) 1 (v % 2 ^ 1) (omega arith)) in
    ap (λ x. eqb x 1) (rw add-one at e)

bits_mod : (n j v : ℕ) → bits_of n (v % 2 ^ (j + n)) ≡ bits_of n v
unfolding bits_of
bits_mod zero j v = refl
bits_mod (suc n) j v =
    let e : odd (v % 2 ^ (suc j + n) / 2 ^ n) ≡ odd (v / 2 ^ n) = rw (field_of v (suc j) n) (odd_mod j (v / 2 ^ n)) in
    let f : bits_of n (v % 2 ^ (suc j + n)) ≡ bits_of n v = bits_mod n (suc j) v in
    let g : suc j + n ≡ j + suc n = omega arith in
    rw g at (ap (λ x. x ∷ bits_of n (v % 2 ^ (suc j + n))) e ∙ ap (λ x. odd (v / 2 ^ n) ∷ x) f)

-- digits above do not matter
pub bits_low : (n v : ℕ) → bits_of n (v % 2 ^ n) ≡ bits_of n v
bits_low n v = rw zero-add at (bits_mod n 0 v)

-- a number of two parts, and its bits
pub bits_joined : (m n u x : ℕ) → x < 2 ^ n → bits_of (m + n) (u * 2 ^ n + x) ≡ bits_of m u ++ bits_of n x
bits_joined m n u x h =
    bits_cat m n (u * 2 ^ n + x) ∙ ap (λ y. bits_of m y ++ bits_of n (u * 2 ^ n + x)) (shr_high u n x h)
    ∙ ap (λ y. bits_of m u ++ y) (sym (bits_low n (u * 2 ^ n + x)) ∙ ap (bits_of n) (mod_low u n x h))

zero_div : (k : ℕ) → 0 / 2 ^ k ≡ 0
zero_div k = div-eq_of_lt (pow_pos k)

pub bits_zero : (n : ℕ) → bits_of n 0 ≡ replicate n false
unfolding bits_of
bits_zero zero = refl
bits_zero (suc n) = let e = zero_div n in let f = bits_zero n in rw (e, f)

-- the first m of w bits, as a number
pub bits_front : (w m v : ℕ) → m ≤ w → take m (bits_of w v) ≡ bits_of m (v / 2 ^ (w - m))
bits_front w m v h =
    let e : m + (w - m) ≡ w = omega arith in
    let f : take m (bits_of (m + (w - m)) v) ≡ bits_of m (v / 2 ^ (w - m)) = rw (bits_cat m (w - m) v) (take_at (bits_of m (v / 2 ^ (w - m))) (bits_of (w - m) v) m (length_bits m (v / 2 ^ (w - m)))) in
    rw e at f

-- the bits after the first m of w, as a number
pub bits_back : (w m v : ℕ) → m ≤ w → drop m (bits_of w v) ≡ bits_of (w - m) v
bits_back w m v h =
    let e : m + (w - m) ≡ w = omega arith in
    let f : drop m (bits_of (m + (w - m)) v) ≡ bits_of (w - m) v = rw (bits_cat m (w - m) v) (drop_at (bits_of m (v / 2 ^ (w - m))) (bits_of (w - m) v) m (length_bits m (v / 2 ^ (w - m)))) in
    rw e at f

-- the bit at a place
pub bits_at : (w c v : ℕ) (d : Bool) → c < w → get_or (bits_of w v) c d ≡ odd (v / 2 ^ (w - suc c))
unfolding bits_of
bits_at w c v d h =
    let e : c + suc (w - suc c) ≡ w = omega arith in
    let f : get_or (bits_of (c + suc (w - suc c)) v) c d ≡ odd (v / 2 ^ (w - suc c)) =
    rw (bits_cat c (suc (w - suc c)) v)
    (get_or-append_right (bits_of c (v / 2 ^ suc (w - suc c))) (bits_of (suc (w - suc c)) v) c c d (length_bits c (v / 2 ^ suc (w - suc c))) (omega arith) ∙ simp sub_self) in
    rw e at f

-- what two numbers have in common, by the highest digit in which they differ

xor_zero_same : (a b : ℕ) → bit_xor a b ≡ zero → a ≡ b
xor_zero_same a b h = sym (xor_zero_r a) ∙ ap (bit_xor a) (sym (xor_self b)) ∙ sym (xor_assoc a b b) ∙ ap (λ x. bit_xor x b) h ∙ xor_zero_l b

digits_apart : (q a b : ℕ) → a < 2 → b < 2 → q * 2 + differ a b ≡ 1 → eqb a 1 ≡ not (eqb b 1)
digits_apart q zero zero h k e = absurd (omega arith)
digits_apart q zero (suc zero) h k e = refl
digits_apart q zero (suc (suc b)) h k e = absurd (omega arith)
digits_apart q (suc zero) zero h k e = refl
digits_apart q (suc zero) (suc zero) h k e = absurd (omega arith)
digits_apart q (suc zero) (suc (suc b)) h k e = absurd (omega arith)
digits_apart q (suc (suc a)) b h k e = absurd (omega arith)

odd_apart : (x y : ℕ) → bit_xor x y ≡ 1 → odd x ≡ not (odd y)
odd_apart x y e = digits_apart (bit_xor (x / 2) (y / 2)) (x % 2) (y % 2) (mod_below x 2 (omega arith)) (mod_below y 2 (omega arith)) (sym (xor_step x y) ∙ e)

front_same : (w u v j : ℕ) → j ≤ w → bit_xor u v < 2 ^ j → take (w - j) (bits_of w u) ≡ take (w - j) (bits_of w v)
front_same w u v j h below =
    let e : w - (w - j) ≡ j = omega arith in
    let z : bit_xor (u / 2 ^ j) (v / 2 ^ j) ≡ zero = sym (xor_shr u v j) ∙ div-eq_of_lt below in
    let s : u / 2 ^ j ≡ v / 2 ^ j = xor_zero_same _ _ z in
    bits_front w (w - j) u (omega arith) ∙ rw (e, s) (sym (rw e at (bits_front w (w - j) v (omega arith))))

next_apart : (w u v i : ℕ) → suc i ≤ w → bit_xor u v < 2 ^ suc i → 2 ^ suc i ≤ 2 * bit_xor u v + 1
    → get_or (bits_of w u) (w - suc i) false ≡ not (get_or (bits_of w v) (w - suc i) false)
next_apart w u v i h below above =
    let d : ℕ = bit_xor u v in
    let p = pow-suc 2 i in
    let low : d / 2 ^ i < 2 = div_below d (2 ^ i) 2 (pow_pos i) (omega arith) in
    let high : 1 ≤ d / 2 ^ i = le-div 1 d (2 ^ i) (pow_pos i) (omega arith) in
    let one : bit_xor (u / 2 ^ i) (v / 2 ^ i) ≡ 1 = sym (xor_shr u v i) ∙ omega arith in
    let e : w - suc (w - suc i) ≡ i = omega arith in
    rw e at (bits_at w (w - suc i) u false (omega arith)) ∙ odd_apart _ _ one ∙ ap not (sym (rw e at (bits_at w (w - suc i) v false (omega arith))))

-- both begin with n bits in common, and not with more
pub record Common (p q : Bits) (n : ℕ) : Type 0 where
  pub in_p : n ≤ length p
  pub in_q : n ≤ length q
  pub shared : take n p ≡ take n q
  pub apart : n < length p → n < length q → get_or p n false ≡ not (get_or q n false)

common_at : (w u v j : ℕ) → j ≤ w → bit_xor u v < 2 ^ j → 2 ^ j ≤ 2 * bit_xor u v + 1 → Common (bits_of w u) (bits_of w v) (w - j)
common_at w u v zero h below above =
    let lu = length_bits w u in
    let lv = length_bits w v in
    record { in_p = omega arith; in_q = omega arith; shared = front_same w u v zero h below; apart = λ a b. absurd (omega arith) }
common_at w u v (suc i) h below above =
    let lu = length_bits w u in
    let lv = length_bits w v in
    record { in_p = omega arith; in_q = omega arith; shared = front_same w u v (suc i) h below; apart = λ a b. next_apart w u v i h below above }

pub common_leading : (w u v : ℕ) → u < 2 ^ w → v < 2 ^ w → Common (bits_of w u) (bits_of w v) (count_leading_zeros w (bit_xor u v))
common_leading w u v hu hv =
    let l = leading_length w (bit_xor u v) (xor_lt w u v hu hv) in
    let is : count_leading_zeros w (bit_xor u v) ≡ w - l.0 = omega (arith, l.1) in
    rw is (common_at w u v l.0 (omega (arith, l.1)) l.2 l.3)
