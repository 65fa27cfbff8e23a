-- The members of sets in four words: of one next hop, met, joined, none, and the lowest. Assumes nothing.
use Rattle.std.proofs.Common.{◌≡◌, ℕ, zero, suc, ◌+◌, ◌*◌, ◌/◌, ◌%◌, ◌^◌, ◌<◌, ◌≤◌, min, max, Bool, true, false, cond, ◌&&◌, ◌||◌, eqb, ◌⊎◌, List, [], ◌∷◌, length, get_or, set, Some, refl, ap, ◌∙◌, inl, inr, ⊎_elim, arith, get_or-set_other, get_or-set_same, w64}
use lib.Bits.{bit_and, bit_or, and_zero_l, or_zero_l}
use Rattle.std.specs.Int.{bit_at, trailing_zeros}
use Rattle.std.proofs.lemmas.Nat.{one_shl, mod_below, le_or_l, le_or_r}
use Rattle.std.proofs.lemmas.Nat.Bits.{bit_at_and, bit_at_or, bit_at-lt, bit_at-zero, bit_at-pow_same, bit_at-pow_other, bit_at-trailing_zeros}
use Rattle.std.proofs.lemmas.List.{get_or_past}
use Rattle.std.proofs.lemmas.Bool.{cases_eq, cases_lt, both_ways, eqb-true, eqb-false}
use Rattle.std.proofs.lemmas.Bool.Decides.{nat_tests}
use Rattle.aggregate.specs.declared.hops.HopSet.{HopSet}
use Rattle.aggregate.specs.Sets.{has, Lowest, Empty}

-- the members by the digit that says so
digit_has : (s : HopSet) (k w : ℕ) → get_or s.words (k / 64) 0 ≡ w → has s k ≡ eqb (bit_at w (k % 64)) 1
digit_has s k w e = ap (λ v. eqb (bit_at v (k % 64)) 1) e

-- past its four words a set has none, and none by a word that is 0
past : (s : HopSet) → length s.words ≡ 4 → (i : ℕ) → 4 ≤ i → get_or s.words i 0 ≡ 0
past s l i h = get_or_past s.words i 0 (omega arith)

zero_has : (s : HopSet) (k : ℕ) → get_or s.words (k / 64) 0 ≡ 0 → has s k ≡ false
zero_has s k e = digit_has s k 0 e ∙ ap (λ d. eqb d 1) (bit_at-zero (k % 64))

pub zeros_has : (s : HopSet) → length s.words ≡ 4 → ((i : ℕ) → i < 4 → get_or s.words i 0 ≡ 0) → (k : ℕ) → has s k ≡ false
zeros_has s l z k = ⊎_elim (λ (h : k / 64 < 4). zero_has s k (z (k / 64) h)) (λ (h : 4 ≤ k / 64). zero_has s k (past s l (k / 64) h)) (cases_lt (k / 64) 4)

-- ONE SET BY TWO OTHERS, word by word

-- g says of each digit whether it is 1, from those of the two words
abbrev Digitwise : (ℕ → ℕ → ℕ) → (Bool → Bool → Bool) → Type 0
Digitwise f g = (v w d : ℕ) → eqb (bit_at (f v w) d) 1 ≡ g (eqb (bit_at v d) 1) (eqb (bit_at w d) 1)

abbrev pub Wordwise : (ℕ → ℕ → ℕ) → HopSet → HopSet → HopSet → Type 0
Wordwise f a b s = (i : ℕ) → i < 4 → get_or s.words i 0 ≡ f (get_or a.words i 0) (get_or b.words i 0)

-- so it says of each next hop whether it is a member
digits_has : (f : ℕ → ℕ → ℕ) (g : Bool → Bool → Bool) → f 0 0 ≡ 0 → Digitwise f g →
    (a b s : HopSet) → length a.words ≡ 4 → length b.words ≡ 4 → length s.words ≡ 4 → Wordwise f a b s → (k : ℕ) → has s k ≡ g (has a k) (has b k)
digits_has f g z law a b s l m n e k = digit_has s k _ (word (k / 64)) ∙ law (get_or a.words (k / 64) 0) (get_or b.words (k / 64) 0) (k % 64)
  where
    word : (i : ℕ) → get_or s.words i 0 ≡ f (get_or a.words i 0) (get_or b.words i 0)
    word i = ⊎_elim
        (λ (h : i < 4). e i h)
        (λ (h : 4 ≤ i). let p = past a l i h in let q = past b m i h in let r = past s n i h in cc)
        (cases_lt i 4)

and_digits : Digitwise bit_and ◌&&◌
and_digits v w d = ap (λ x. eqb x 1) (bit_at_and v w d) ∙ out (bit_at v d) (bit_at w d) (bit_at-lt v d) (bit_at-lt w d)
  where
    out : (x y : ℕ) → x < 2 → y < 2 → eqb (min x y) 1 ≡ (eqb x 1 && eqb y 1)
    out x y h i = grind (arith, nat_tests)

or_digits : Digitwise bit_or ◌||◌
or_digits v w d = ap (λ x. eqb x 1) (bit_at_or v w d) ∙ out (bit_at v d) (bit_at w d) (bit_at-lt v d) (bit_at-lt w d)
  where
    out : (x y : ℕ) → x < 2 → y < 2 → eqb (max x y) 1 ≡ (eqb x 1 || eqb y 1)
    out x y h i = grind (arith, nat_tests)

module _ (a b s : HopSet) (l : length a.words ≡ 4) (m : length b.words ≡ 4) (n : length s.words ≡ 4) where
  pub meet_has : Wordwise bit_and a b s → (k : ℕ) → has s k ≡ (has a k && has b k)
  meet_has = digits_has bit_and ◌&&◌ (and_zero_l 0) and_digits a b s l m n

  pub union_has : Wordwise bit_or a b s → (k : ℕ) → has s k ≡ (has a k || has b k)
  union_has = digits_has bit_or ◌||◌ (or_zero_l 0) or_digits a b s l m n

  pub select_has : (q : Bool) → Wordwise (λ v w. cond q w v) a b s → (k : ℕ) → has s k ≡ cond q (has b k) (has a k)
  select_has true = digits_has (λ v w. w) (λ x y. y) refl (λ v w d. refl) a b s l m n
  select_has false = digits_has (λ v w. v) (λ x y. x) refl (λ v w d. refl) a b s l m n

-- the set of one next hop
abbrev none : List ℕ
none = 0 ∷ 0 ∷ 0 ∷ 0 ∷ []

none_at : (i : ℕ) → get_or none i 0 ≡ 0
none_at i = ⊎_elim (λ (h : i < 4). grind (arith, nat_tests)) (λ (h : 4 ≤ i). get_or_past none i 0 h) (cases_lt i 4)

pub only_has : (s : HopSet) (h : ℕ) → h < 256 → s.words ≡ set none (h / 64) ((1 * 2 ^ (h % 64)) % 2 ^ 64) → (k : ℕ) → has s k ≡ eqb k h
only_has s h f e k = go (cases_eq (k / 64) (h / 64)) (cases_eq (k % 64) (h % 64))
  where
    own : k / 64 ≡ h / 64 → get_or s.words (k / 64) 0 ≡ 2 ^ (h % 64)
    own p =
        let lt : h / 64 < length none = omega arith in
        let w : get_or (set none (h / 64) ((1 * 2 ^ (h % 64)) % 2 ^ 64)) (h / 64) 0 ≡ 2 ^ (h % 64) =
        get_or-set_same none (h / 64) ((1 * 2 ^ (h % 64)) % 2 ^ 64) 0 lt ∙ one_shl (h % 64) 64 (mod_below h 64 (omega arith)) in
        rw (e, p) w

    same : k % 64 ≡ h % 64 → eqb (bit_at (2 ^ (h % 64)) (k % 64)) 1 ≡ true
    same q = rw q (ap (λ d. eqb d 1) (bit_at-pow_same (h % 64)))

    go : (k / 64 ≡ h / 64) ⊎ (k / 64 ≡ h / 64 → ⊥) → (k % 64 ≡ h % 64) ⊎ (k % 64 ≡ h % 64 → ⊥) → has s k ≡ eqb k h
    go (inl p) (inl q) = digit_has s k (2 ^ (h % 64)) (own p) ∙ same q ∙ grind (arith, nat_tests)
    go (inl p) (inr q) = digit_has s k (2 ^ (h % 64)) (own p) ∙ ap (λ d. eqb d 1) (bit_at-pow_other (h % 64) (k % 64) q) ∙ grind (arith, nat_tests)
    go (inr p) q =
        let w : get_or s.words (k / 64) 0 ≡ 0 = rw (e, get_or-set_other) (none_at (k / 64)) in
        zero_has s k w ∙ grind (arith, nat_tests)

-- the lowest digit of a word that is not 0 is a member,
digit_in : (s : HopSet) (i : ℕ) → 0 < get_or s.words i 0 → get_or s.words i 0 < 2 ^ 64 → has s (64 * i + trailing_zeros w64 (get_or s.words i 0)) ≡ true
digit_in s i p f =
    let t = bit_at-trailing_zeros w64 (get_or s.words i 0) p f in
    let q : (64 * i + trailing_zeros w64 (get_or s.words i 0)) / 64 ≡ i = omega (arith, t.0) in
    let r : (64 * i + trailing_zeros w64 (get_or s.words i 0)) % 64 ≡ trailing_zeros w64 (get_or s.words i 0) = omega (arith, t.0) in
    rw (q, r) (ap (λ d. eqb d 1) t.1)

-- and the lowest, if it is the first such word
pub lowest_some : (s : HopSet) (i : ℕ) → 0 < get_or s.words i 0 → get_or s.words i 0 < 2 ^ 64 → ((j : ℕ) → j < i → get_or s.words j 0 ≡ 0) →
    Lowest s (Some (64 * i + trailing_zeros w64 (get_or s.words i 0)))
lowest_some s i p f before =
    (digit_in s i p f, λ k h. ⊎_elim (λ l. absurd (below k h l)) (λ l. l) (cases_lt k (64 * i + trailing_zeros w64 (get_or s.words i 0))))
  where
    below : (k : ℕ) → has s k ≡ true → k < 64 * i + trailing_zeros w64 (get_or s.words i 0) → ⊥
    below k h l = ⊎_elim
        (λ (b : k / 64 < i). both_ways (has s k) (zero_has s k (before (k / 64) b)) h)
        (λ (b : i ≤ k / 64).
        let t = bit_at-trailing_zeros w64 (get_or s.words i 0) p f in
        let q : k / 64 ≡ i = omega (arith, t.0) in
        let m : k % 64 < trailing_zeros w64 (get_or s.words i 0) = omega (arith, t.0) in
        both_ways (has s k) (rw q (ap (λ d. eqb d 1) (t.2 (k % 64) m))) h)
        (cases_lt (k / 64) i)

-- a set is empty exactly if its words together are 0
module _ (s : HopSet) (a b c d : ℕ) (e : s.words ≡ a ∷ b ∷ c ∷ d ∷ []) where
  zero_word : bit_or (bit_or (bit_or a b) c) d ≡ 0 → (i : ℕ) → i < 4 → get_or s.words i 0 ≡ 0
  zero_word z zero h = rw e (omega (arith, le_or_l (bit_or (bit_or a b) c) d, le_or_l (bit_or a b) c, le_or_l a b))
  zero_word z (suc zero) h = rw e (omega (arith, le_or_l (bit_or (bit_or a b) c) d, le_or_l (bit_or a b) c, le_or_r a b))
  zero_word z (suc (suc zero)) h = rw e (omega (arith, le_or_l (bit_or (bit_or a b) c) d, le_or_r (bit_or a b) c))
  zero_word z (suc (suc (suc zero))) h = rw e (omega (arith, le_or_r (bit_or (bit_or a b) c) d))
  zero_word z (suc (suc (suc (suc i)))) h = absurd (omega arith)

  member : (i w : ℕ) → get_or s.words i 0 ≡ w → w < 2 ^ 64 → (w ≡ 0 → ⊥) → Empty s false
  member i w g f n = (64 * i + trailing_zeros w64 (get_or s.words i 0), digit_in s i (omega arith) (omega arith))

  some_word : a < 2 ^ 64 → b < 2 ^ 64 → c < 2 ^ 64 → d < 2 ^ 64 → (bit_or (bit_or (bit_or a b) c) d ≡ 0 → ⊥) → Empty s false
  some_word f g h i n = ⊎_elim
      (λ (p : a ≡ 0). ⊎_elim
      (λ (q : b ≡ 0). ⊎_elim
      (λ (r : c ≡ 0). member 3 d (rw e) i (λ t. n (rw (p, q, r, t))))
      (λ r. member 2 c (rw e) h r)
      (cases_eq c 0))
      (λ q. member 1 b (rw e) g q)
      (cases_eq b 0))
      (λ p. member 0 a (rw e) f p)
      (cases_eq a 0)

  pub empty_is : a < 2 ^ 64 → b < 2 ^ 64 → c < 2 ^ 64 → d < 2 ^ 64 → Empty s (eqb (bit_or (bit_or (bit_or a b) c) d) 0)
  empty_is f g h i = step (eqb (bit_or (bit_or (bit_or a b) c) d) 0) refl
    where
      step : (r : Bool) → eqb (bit_or (bit_or (bit_or a b) c) d) 0 ≡ r → Empty s r
      step true z = zeros_has s (rw e) (zero_word (eqb-true _ 0 z))
      step false z = some_word f g h i (eqb-false _ 0 z)

pub four : (ws : List ℕ) → length ws ≡ 4 → ws ≡ get_or ws 0 0 ∷ get_or ws 1 0 ∷ get_or ws 2 0 ∷ get_or ws 3 0 ∷ []
four [] h = absurd (omega arith)
four (a ∷ []) h = absurd (omega arith)
four (a ∷ b ∷ []) h = absurd (omega arith)
four (a ∷ b ∷ c ∷ []) h = absurd (omega arith)
four (a ∷ b ∷ c ∷ d ∷ []) h = refl
four (a ∷ b ∷ c ∷ d ∷ e ∷ ws) h = absurd (omega arith)
