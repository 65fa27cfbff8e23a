-- Numbers put together and taken apart, as strings of bits, at any width. Assumes nothing.
use Rattle.std.proofs.Common.{◌≡◌, ℕ, zero, suc, ◌+◌, ◌-◌, ◌*◌, ◌/◌, ◌%◌, ◌^◌, ◌<◌, ◌≤◌, Bool, true, false, eqb, leb, [], ◌∷◌, ◌++◌, length, take, drop, replicate, sym, refl, ap, ◌∙◌, mul_comm, pow-suc, arith, length-drop}
use mir.Val.{bool_byte}
use lib.ListN.{replicate-append-replicate}
use Rattle.std.proofs.lemmas.Nat.{pow_pos, shr_split, shr_below, mul-add-lt, pow-add}
use Rattle.std.proofs.lemmas.List.{take-take, drop-drop, drop_at, drop-take, take-append-le, drop-append-le, length-take-le, take-replicate}
use Rattle.std.proofs.lemmas.Bool.{and_parts, and_from, leb-true, le-leb, eqb-true, eq-eqb}
use Rattle.prefix.specs.Bits.{Bits, bits_of, number}
use Rattle.prefix.specs.Laws.{Canonical}
use Rattle.prefix.proofs.Words.{length_bits, bits_low, bits_joined, bits_zero, bits_front, bits_back}
use Rattle.prefix.proofs.Numbers.{number_zeros, number_bits, clean_bits}

-- a number is clean after its first n bits where the others are zeros
pub clean_from : (w n v : ℕ) → n ≤ w → drop n (bits_of w v) ≡ replicate (w - n) false → v % 2 ^ (w - n) ≡ 0
clean_from w n v h e =
    sym (number_bits (w - n) v) ∙ ap (number (w - n)) (sym (bits_back w n v h) ∙ e) ∙ number_zeros (w - n) (w - n)

bit_of : (s : Bool) → bits_of 1 (bool_byte s) ≡ s ∷ []
unfolding bits_of
bit_of true = refl
bit_of false = refl

pub bit_small : (s : Bool) → bool_byte s < 2
bit_small true = omega arith
bit_small false = omega arith

-- a side bit with the first bits of r after it
tail_below : (k y : ℕ) (s : Bool) → y < 2 ^ k → bool_byte s * 2 ^ k + y < 2 ^ suc k
tail_below k y true h = omega (arith, pow-suc 2 k)
tail_below k y false h = omega (arith, pow-suc 2 k)

tail_bits : (k y : ℕ) (s : Bool) → y < 2 ^ k → bits_of (suc k) (bool_byte s * 2 ^ k + y) ≡ s ∷ bits_of k y
tail_bits k y s h =
    let e : 1 + k ≡ suc k = omega arith in
    (rw e at (bits_joined 1 k (bool_byte s) y h)) ∙ ap (λ (x : Bits). x ++ bits_of k y) (bit_of s)

-- p, a bit and q, cut within q
cut_in : (p q : Bits) (n m : ℕ) (s : Bool) → length p ≡ n → take (n + 1 + m) (p ++ (s ∷ q)) ≡ p ++ (s ∷ take m q)
cut_in [] q n m s e = let f : n + 1 + m ≡ suc m = omega arith in rw f
cut_in (x ∷ p) q zero m s e = absurd (omega arith)
cut_in (x ∷ p) q (suc n) m s e = let f : suc n + 1 + m ≡ suc (n + 1 + m) = omega arith in rw f (ap (λ (z : Bits). x ∷ z) (cut_in p q n m s (omega arith)))

cut_off : (p q : Bits) (n m : ℕ) (s : Bool) → length p ≡ n → drop (n + 1 + m) (p ++ (s ∷ q)) ≡ drop m q
cut_off [] q n m s e = let f : n + 1 + m ≡ suc m = omega arith in rw f
cut_off (x ∷ p) q zero m s e = absurd (omega arith)
cut_off (x ∷ p) q (suc n) m s e = let f : suc n + 1 + m ≡ suc (n + 1 + m) = omega arith in rw f (cut_off p q n m s (omega arith))

module _ (w n v r : ℕ) (s : Bool) (short : n < w) (word : v < 2 ^ w) (clean : v % 2 ^ (w - n) ≡ 0) (rest : r < 2 ^ w) where
  low : r / 2 ^ (n + 1) < 2 ^ (w - suc n)
  low = let e : (w - suc n) + (n + 1) ≡ w = omega arith in shr_below r (w - suc n) (n + 1) (rw e rest)

  tail_fits : bool_byte s * 2 ^ (w - suc n) + r / 2 ^ (n + 1) < 2 ^ (w - n)
  tail_fits = let e : suc (w - suc n) ≡ w - n = omega arith in rw e at (tail_below (w - suc n) (r / 2 ^ (n + 1)) s low)

  parts : v / 2 ^ (w - n) * 2 ^ (w - n) + 0 ≡ v
  parts = let h = shr_split v (w - n) in rw clean at h

  pub join_bits : bits_of w (v + (bool_byte s * 2 ^ (w - suc n) + r / 2 ^ (n + 1))) ≡ take n (bits_of w v) ++ (s ∷ take (w - suc n) (bits_of w r))
  join_bits =
      let e : n + (w - n) ≡ w = omega arith in
      let a : bits_of w (v / 2 ^ (w - n) * 2 ^ (w - n) + (bool_byte s * 2 ^ (w - suc n) + r / 2 ^ (n + 1))) ≡ bits_of n (v / 2 ^ (w - n)) ++ bits_of (w - n) (bool_byte s * 2 ^ (w - suc n) + r / 2 ^ (n + 1)) =
      rw e at (bits_joined n (w - n) (v / 2 ^ (w - n)) (bool_byte s * 2 ^ (w - suc n) + r / 2 ^ (n + 1)) tail_fits) in
      let b : v / 2 ^ (w - n) * 2 ^ (w - n) ≡ v = omega (arith, parts) in
      let f : suc (w - suc n) ≡ w - n = omega arith in
      let t : bits_of (w - n) (bool_byte s * 2 ^ (w - suc n) + r / 2 ^ (n + 1)) ≡ s ∷ bits_of (w - suc n) (r / 2 ^ (n + 1)) = rw f at (tail_bits (w - suc n) (r / 2 ^ (n + 1)) s low) in
      let g : w - (w - suc n) ≡ n + 1 = omega arith in
      let u : take (w - suc n) (bits_of w r) ≡ bits_of (w - suc n) (r / 2 ^ (n + 1)) = rw g at (bits_front w (w - suc n) r (omega arith)) in
      (rw b at a) ∙ ap (λ (z : Bits). bits_of n (v / 2 ^ (w - n)) ++ z) t ∙ ap (λ (z : Bits). z ++ (s ∷ bits_of (w - suc n) (r / 2 ^ (n + 1)))) (sym (bits_front w n v (omega arith)))
      ∙ ap (λ (z : Bits). take n (bits_of w v) ++ (s ∷ z)) (sym u)

  pub join_fits : v + (bool_byte s * 2 ^ (w - suc n) + r / 2 ^ (n + 1)) < 2 ^ w
  join_fits =
      let e : n + (w - n) ≡ w = omega arith in
      let u : v / 2 ^ (w - n) < 2 ^ n = shr_below v n (w - n) (rw e word) in
      let f = mul-add-lt (v / 2 ^ (w - n)) (2 ^ (w - n)) (bool_byte s * 2 ^ (w - suc n) + r / 2 ^ (n + 1)) (2 ^ n) u tail_fits in
      let g : 2 ^ w ≡ 2 ^ n * 2 ^ (w - n) = rw e at (pow-add 2 n (w - n)) in
      omega (arith, f, g, parts, mul_comm (2 ^ n) (2 ^ (w - n)))

  -- the first n + 1 + m bits are v's n, the side, and r's m
  pub join_front : (m : ℕ) → n + m < w → take (n + 1 + m) (bits_of w (v + (bool_byte s * 2 ^ (w - suc n) + r / 2 ^ (n + 1)))) ≡ take n (bits_of w v) ++ (s ∷ take m (bits_of w r))
  join_front m h =
      let l : length (take n (bits_of w v)) ≡ n = length-take-le n (bits_of w v) (omega (arith, length_bits w v)) in
      ap (take (n + 1 + m)) join_bits
      ∙ cut_in (take n (bits_of w v)) (take (w - suc n) (bits_of w r)) n m s l
      ∙ ap (λ (z : Bits). take n (bits_of w v) ++ (s ∷ z)) (take-take m (w - suc n) (bits_of w r) (omega arith))

  -- and where r has none after its m, the joined number has none after these
  pub join_clean : (m : ℕ) → n + m < w → r % 2 ^ (w - m) ≡ 0 → (v + (bool_byte s * 2 ^ (w - suc n) + r / 2 ^ (n + 1))) % 2 ^ (w - (n + 1 + m)) ≡ 0
  join_clean m h c =
      let l : length (take n (bits_of w v)) ≡ n = length-take-le n (bits_of w v) (omega (arith, length_bits w v)) in
      let z : drop m (bits_of w r) ≡ replicate (w - m) false = bits_back w m r (omega arith) ∙ sym (bits_low (w - m) r) ∙ ap (bits_of (w - m)) c ∙ bits_zero (w - m) in
      let e : m + (w - suc n - m) ≡ w - suc n = omega arith in
      let f : w - suc n - m ≡ w - (n + 1 + m) = omega arith in
      clean_from w (n + 1 + m) (v + (bool_byte s * 2 ^ (w - suc n) + r / 2 ^ (n + 1))) (omega arith)
      (ap (drop (n + 1 + m)) join_bits
      ∙ cut_off (take n (bits_of w v)) (take (w - suc n) (bits_of w r)) n m s l
      ∙ (rw e at (drop-take m (w - suc n - m) (bits_of w r))) ∙ ap (take (w - suc n - m)) z ∙ take-replicate (w - suc n - m) (w - m) false (omega arith) ∙ ap (λ k. replicate k false) f)

-- a number moved up: its first j bits go, and zeros come after the others
module _ (w j v : ℕ) (short : j ≤ w) where
  pub shift_bits : bits_of w ((v * 2 ^ j) % 2 ^ w) ≡ drop j (bits_of w v) ++ replicate j false
  shift_bits =
      let e : (w - j) + j ≡ w = omega arith in
      let f : v * 2 ^ j + 0 ≡ v * 2 ^ j = omega arith in
      let a : bits_of w (v * 2 ^ j) ≡ bits_of (w - j) v ++ bits_of j 0 = rw (e, f) at (bits_joined (w - j) j v 0 (pow_pos j)) in
      bits_low w (v * 2 ^ j) ∙ a ∙ ap (λ (z : Bits). z ++ bits_of j 0) (sym (bits_back w j v short)) ∙ ap (λ (z : Bits). drop j (bits_of w v) ++ z) (bits_zero j)

  back_long : length (drop j (bits_of w v)) ≡ w - j
  back_long = length-drop j (bits_of w v) ∙ ap (λ x. x - j) (length_bits w v)

  -- what is left of the first j + m bits
  pub shift_front : (m : ℕ) → j + m ≤ w → take m (bits_of w ((v * 2 ^ j) % 2 ^ w)) ≡ drop j (take (j + m) (bits_of w v))
  shift_front m h =
      ap (take m) shift_bits ∙ take-append-le m (drop j (bits_of w v)) (replicate j false) (omega (arith, back_long)) ∙ sym (drop-take j m (bits_of w v))

  pub shift_clean : (m : ℕ) → j + m ≤ w → v % 2 ^ (w - (j + m)) ≡ 0 → (v * 2 ^ j) % 2 ^ w % 2 ^ (w - m) ≡ 0
  shift_clean m h c =
      let z : drop (j + m) (bits_of w v) ≡ replicate (w - (j + m)) false = bits_back w (j + m) v h ∙ sym (bits_low (w - (j + m)) v) ∙ ap (bits_of (w - (j + m))) c ∙ bits_zero (w - (j + m)) in
      let f : (w - (j + m)) + j ≡ w - m = omega arith in
      clean_from w m ((v * 2 ^ j) % 2 ^ w) (omega arith)
      (ap (drop m) shift_bits ∙ drop-append-le m (drop j (bits_of w v)) (replicate j false) (omega (arith, back_long))
      ∙ ap (λ (x : Bits). x ++ replicate j false) (drop-drop m j (bits_of w v) ∙ z) ∙ replicate-append-replicate (w - (j + m)) j false ∙ ap (λ k. replicate k false) f)

pub canonical_clean : Canonical
canonical_clean w v n = (
  (λ h.
      let p = and_parts (leb n w) (eqb (v % 2 ^ (w - n)) 0) h in
      let l = leb-true n w p.0 in
      (l, clean_bits w n v l (eqb-true _ _ p.1))),
  λ l e.
      let k : length (take n (bits_of w v)) ≡ n = length-take-le n (bits_of w v) (omega (arith, length_bits w v)) in
      and_from _ _ (le-leb n w l) (eq-eqb _ _ (clean_from w n v l (ap (drop n) e ∙ drop_at (take n (bits_of w v)) (replicate (w - n) false) n k))),
)
