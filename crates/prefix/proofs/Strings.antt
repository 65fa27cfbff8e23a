-- Strings of bits as lists. Assumes nothing.
use Rattle.std.proofs.Common.{◌≡◌, ℕ, zero, suc, ◌+◌, ◌<◌, ◌≤◌, min, Bool, true, false, cond, not, ◌&&◌, leb, [], ◌∷◌, ◌++◌, length, length-append, Some, slice_get, get_or, take, drop, sym, refl, ap, ◌∙◌, ap₂, arith, take-append-drop}
use native.Mathlib.Nat.{sub_self}
use Rattle.std.proofs.lemmas.List.{take_all, get_or-append_right, length-take-le, drop_more}
use Rattle.std.proofs.lemmas.Option.{slice_get_within, get_or_from_slice_get}
use Rattle.std.proofs.lemmas.Bool.{cond_both, and_parts}
use Rattle.std.proofs.lemmas.Bool.Decides.{nat_tests}
use Rattle.prefix.specs.Bits.{Bits, same_bit, begins, same, common}
use Rattle.prefix.proofs.Words.{Common}

pub bit_same : (x y : Bool) → same_bit x y ≡ true → x ≡ y
bit_same true true h = refl
bit_same true false h = grind arith
bit_same false true h = grind arith
bit_same false false h = refl

pub bit_refl : (x : Bool) → same_bit x x ≡ true
bit_refl true = refl
bit_refl false = refl

pub bit_not : (x y : Bool) → x ≡ not y → same_bit x y ≡ false
bit_not true true h = grind arith
bit_not true false h = refl
bit_not false true h = refl
bit_not false false h = grind arith

pub same_refl : (p : Bits) → same p p ≡ true
unfolding same
same_refl [] = refl
same_refl (true ∷ p) = same_refl p
same_refl (false ∷ p) = same_refl p

pub same_eq : (p q : Bits) → same p q ≡ true → p ≡ q
unfolding same
same_eq [] [] h = refl
same_eq [] (y ∷ q) h = grind arith
same_eq (x ∷ p) [] h = grind arith
same_eq (x ∷ p) (y ∷ q) h =
    let s = and_parts (same_bit x y) (same p q) h in ap₂ (λ (z : Bool) (r : Bits). z ∷ r) (bit_same x y s.0) (same_eq p q s.1)

-- the number of common bits is the one that `Common` says
pub common_is : (p q : Bits) (n : ℕ) → Common p q n → common p q ≡ n
unfolding common
common_is [] q n c = omega (arith, c.in_p)
common_is (x ∷ p) [] n c = omega (arith, c.in_q)
common_is (x ∷ p) (y ∷ q) zero c =
    let e : x ≡ not y = c.apart (omega arith) (omega arith) in rw (bit_not x y e)
common_is (x ∷ p) (y ∷ q) (suc n) c =
    let h = c.in_p in
    let k = c.in_q in
    let s = c.shared in
    let e : x ≡ y = cc in
    let t : take n p ≡ take n q = cc in
    rw (e, bit_refl y) (ap suc (common_is p q n (record { in_p = omega arith; in_q = omega arith; shared = t; apart = λ a b. c.apart (omega arith) (omega arith) })))

-- of two cut prefixes
pub common_take : (n m : ℕ) (p q : Bits) → common (take n p) (take m q) ≡ min (min (common p q) n) m
unfolding common
common_take zero m p q = omega arith
common_take (suc n) m [] q = omega arith
common_take (suc n) zero (x ∷ p) q = omega arith
common_take (suc n) (suc m) (x ∷ p) [] = omega arith
common_take (suc n) (suc m) (x ∷ p) (y ∷ q) =
    let ih = common_take n m p q in
    cond_both (same_bit x y) (suc (common p q)) 0 (λ v. cond (same_bit x y) (suc (common (take n p) (take m q))) 0 ≡ min (min v (suc n)) (suc m))
    (λ e. rw e (omega arith)) (λ e. rw e (omega arith))

suc_leb : (a b : ℕ) → leb a b ≡ leb (suc a) (suc b)
suc_leb a b = grind (arith, nat_tests)

-- an address begins with the first n bits of p exactly where it has that many in common with p
pub begins_take : (n : ℕ) (p a : Bits) → n ≤ length p → begins (take n p) a ≡ leb n (common p a)
unfolding begins common
begins_take zero p a h = grind arith
begins_take (suc n) [] a h = absurd (omega arith)
begins_take (suc n) (x ∷ p) [] h = grind arith
begins_take (suc n) (x ∷ p) (y ∷ a) h =
    let ih = begins_take n p a (omega arith) in
    cond_both (same_bit x y) (suc (common p a)) 0 (λ v. (same_bit x y && begins (take n p) a) ≡ leb (suc n) v)
    (λ e. rw e (ih ∙ suc_leb n (common p a))) (λ e. rw e (grind arith))

bit_other : (x y : Bool) → same_bit x y ≡ false → x ≡ not y
bit_other true true h = grind arith
bit_other true false h = refl
bit_other false true h = refl
bit_other false false h = grind arith

pub shares : (p q : Bits) → Common p q (common p q)
unfolding common
shares [] q = record { in_p = omega arith; in_q = omega arith; shared = refl; apart = λ a b. absurd (omega arith) }
shares (x ∷ p) [] = record { in_p = omega arith; in_q = omega arith; shared = refl; apart = λ a b. absurd (omega arith) }
shares (x ∷ p) (y ∷ q) =
    let c = shares p q in
    cond_both (same_bit x y) (suc (common p q)) 0 (λ n. Common (x ∷ p) (y ∷ q) n)
    (λ e. record {
      in_p = omega (arith, c.in_p);
      in_q = omega (arith, c.in_q);
      shared = ap₂ (λ (z : Bool) (r : Bits). z ∷ r) (bit_same x y e) c.shared;
      apart = λ a b. c.apart (omega arith) (omega arith);
    })
    (λ e. record { in_p = omega arith; in_q = omega arith; shared = refl; apart = λ a b. bit_other x y e })

-- two prefixes taken apart where they part: p is its first n bits, then s, then r

abbrev pub Splits : Bits → ℕ → Bool → Bits → Type 0
Splits p n s r = p ≡ take n p ++ (s ∷ r)

pub parted_same : (p q : Bits) (n : ℕ) → Common p q n → n ≡ length p → n ≡ length q → p ≡ q
parted_same p q n c e f = sym (take_all n p (omega arith)) ∙ c.shared ∙ take_all n q (omega arith)

pub parted_below : (p q : Bits) (n : ℕ) (s : Bool) (r : Bits) → Common p q n → n ≡ length q → Splits p n s r → p ≡ q ++ (s ∷ r)
parted_below p q n s r c e h = h ∙ ap (λ (x : Bits). x ++ (s ∷ r)) (c.shared ∙ take_all n q (omega arith))

pub parted_above : (p q : Bits) (n : ℕ) (s : Bool) (r : Bits) → Common p q n → n ≡ length p → Splits q n s r → q ≡ p ++ (s ∷ r)
parted_above p q n s r c e h = h ∙ ap (λ (x : Bits). x ++ (s ∷ r)) (sym c.shared ∙ take_all n p (omega arith))

split_at : (p : Bits) (n : ℕ) (s : Bool) (r : Bits) → n ≤ length p → Splits p n s r → get_or p n false ≡ s
split_at p n s r h e =
    ap (λ (x : Bits). get_or x n false) e ∙ get_or-append_right (take n p) (s ∷ r) n n false (length-take-le n p h) (omega arith) ∙ simp sub_self

not_back : (a b : Bool) → a ≡ not b → b ≡ not a
not_back a true e = sym (ap not e)
not_back a false e = sym (ap not e)

-- where p splits after n bits it has more than n
split_past : (p : Bits) (n : ℕ) (s : Bool) (r : Bits) → n ≤ length p → Splits p n s r → n < length p
split_past p n s r h e = omega (arith, ap length e, length-append (take n p) (s ∷ r), length-take-le n p h)

pub parted_apart : (p q f : Bits) (n : ℕ) (s t : Bool) (r o : Bits) → Common p q n → f ≡ take n p → Splits p n s r → Splits q n t o
    → (p ≡ f ++ (s ∷ r)) × (q ≡ f ++ (not s ∷ o))
parted_apart p q f n s t r o c g e d =
    let a = split_at p n s r c.in_p e in
    let b = split_at q n t o c.in_q d in
    let z = not_back s t (sym a ∙ c.apart (split_past p n s r c.in_p e) (split_past q n t o c.in_q d) ∙ ap not b) in
    (e ∙ ap (λ (x : Bits). x ++ (s ∷ r)) (sym g), d ∙ ap (λ (x : Bits). x ++ (t ∷ o)) (sym c.shared ∙ sym g) ∙ ap (λ (x : Bool). f ++ (x ∷ o)) z)

-- a list at a place where it has a bit
pub split_here : (p : Bits) (n : ℕ) (s : Bool) → slice_get p n ≡ Some s → p ≡ take n p ++ (s ∷ drop (n + 1) p)
split_here p n s e =
    sym (take-append-drop n p) ∙ ap (λ (x : Bits). take n p ++ x)
    (drop_more p n false (slice_get_within p n s e) ∙ ap (λ x. x ∷ drop (n + 1) p) (get_or_from_slice_get p n s false e))
