-- How far the lines reach with which an address begins, in lists where the longest or the shortest come first. Assumes nothing.
use Rattle.std.proofs.Common.{◌≡◌, ℕ, zero, suc, ◌<◌, ◌≤◌, max, Bool, true, false, cond, ◌⊎◌, [], ◌∷◌, ◌++◌, length, take, drop, refl, ap, ◌∙◌, arith}
use Rattle.std.specs.List.{AllByRecursion}
use Rattle.std.proofs.ByRecursion.{All-weaker, All-drop}
use Rattle.std.proofs.lemmas.List.{length-take-le, take-append-drop}
use Rattle.std.proofs.lemmas.Bool.{cond_both, or_from, or_parts}
use Rattle.std.proofs.lemmas.Grind.{common_steps}
use Rattle.prefix.specs.Bits.{Bits, begins, same}
use Rattle.prefix.proofs.Strings.{same_eq}
use Rattle.prefix.proofs.Order.{begins_is, begins_first}
use Rattle.table.specs.Tables.{Entry, Entries, has, distinct}
use Rattle.table.proofs.Counts.{distinct_parts}
use Rattle.transition.specs.Plans.{insert_by, sorted_by}
use Rattle.transition.proofs.Lines.{has_sorted}

-- one more than the length of the longest of these lines with which an address begins; 0 where there is none
unfoldable pub reach : Bits → Entries → ℕ
reach a [] = 0
reach a (e ∷ es) = cond (begins e.prefix a) (max (suc (length e.prefix)) (reach a es)) (reach a es)

reach_append : (a : Bits) (es fs : Entries) → reach a (es ++ fs) ≡ max (reach a es) (reach a fs)
unfolding reach
reach_append a [] fs = omega arith
reach_append a (e ∷ es) fs = let ih = reach_append a es fs in grind (arith, common_steps)

-- parts of a list reach no farther than all of it
pub reach_take : (a : Bits) (k : ℕ) (es : Entries) → reach a (take k es) ≤ reach a es
reach_take a k es = omega (arith, reach_append a (take k es) (drop k es), ap (reach a) (take-append-drop k es))

pub reach_drop : (a : Bits) (k : ℕ) (es : Entries) → reach a (drop k es) ≤ reach a es
reach_drop a k es = omega (arith, reach_append a (take k es) (drop k es), ap (reach a) (take-append-drop k es))

-- past its reach the address has no line there
pub past_reach : (a : Bits) (n : ℕ) (es : Entries) → n ≤ length a → reach a es ≤ n → has (take n a) es ≡ false
unfolding reach has
past_reach a n [] l h = refl
past_reach a n (e ∷ es) l h =
    let ih = past_reach a n es l in
    grind (arith, common_steps, same_eq (take n a) e.prefix, begins_first n a, length-take-le n a l)

-- x is another prefix than z, and not shorter
abbrev pub Farther : Bits → Bits → Type 0
Farther z x = (length z < length x) ⊎ ((length z ≡ length x) × (z ≡ x → ⊥))

farther_apart : (a z x : Bits) (n : ℕ) → n ≤ length a → begins z a ≡ true → n ≤ length z → Farther z x → same (take n a) x ≡ false
farther_apart a z x n l b h f = grind (arith, common_steps, same_eq (take n a) x, length-take-le n a l, begins_is z a b)

free_of : (a z : Bits) (n : ℕ) (xs : Entries) → n ≤ length a → begins z a ≡ true → n ≤ length z → AllByRecursion (λ x. Farther z x.prefix) xs → has (take n a) xs ≡ false
unfolding has
free_of a z n [] l b h f = refl
free_of a z n (x ∷ xs) l b h f = or_from _ _ (farther_apart a z x.prefix n l b h f.0) (free_of a z n xs l b h f.1)

-- within the reach of some lines the address has none of those that are farther than all of them
pub within_reach : (a : Bits) (n : ℕ) (zs xs : Entries) → n ≤ length a → AllByRecursion (λ z. AllByRecursion (λ x. Farther z.prefix x.prefix) xs) zs → n < reach a zs → has (take n a) xs ≡ false
unfolding reach
within_reach a n [] xs l f h = absurd (omega arith)
within_reach a n (z ∷ zs) xs l f h =
    let ih = within_reach a n zs xs l f.1 in
    let free = λ (b : begins z.prefix a ≡ true) (k : n ≤ length z.prefix). free_of a z.prefix n xs l b k f.0 in
    grind (arith, common_steps)

-- of every two lines, the earlier first
unfoldable pub Pairs : (Entry → Entry → Type 0) → Entries → Type 0
Pairs R [] = Unit {0}
Pairs R (e ∷ es) = AllByRecursion (R e) es × Pairs R es

module _ (R : Entry → Entry → Type 0) where
  -- a list in two parts
  pub pairs_split : (k : ℕ) (es : Entries) → Pairs R es → AllByRecursion (λ x. AllByRecursion (R x) (drop k es)) (take k es)
  unfolding Pairs
  pairs_split zero es h = tt
  pairs_split (suc k) [] h = tt
  pairs_split (suc k) (e ∷ es) h = (All-drop (R e) k es h.0, pairs_split k es h.1)

  all_none : (xs : Entries) → AllByRecursion (λ x. AllByRecursion (R x) []) xs
  all_none [] = tt
  all_none (x ∷ xs) = (tt, all_none xs)

  all_heads : (y : Entry) (ys xs : Entries) → AllByRecursion (λ x. AllByRecursion (R x) (y ∷ ys)) xs → AllByRecursion (λ x. R x y) xs × AllByRecursion (λ x. AllByRecursion (R x) ys) xs
  all_heads y ys [] h = (tt, tt)
  all_heads y ys (x ∷ xs) h = let i = all_heads y ys xs h.1 in ((h.0.0, i.0), (h.0.1, i.1))

  pub all_turned : (xs ys : Entries) → AllByRecursion (λ x. AllByRecursion (R x) ys) xs → AllByRecursion (λ y. AllByRecursion (λ x. R x y) xs) ys
  all_turned xs [] h = tt
  all_turned xs (y ∷ ys) h = let i = all_heads y ys xs h in (i.0, all_turned xs ys i.1)

pub pairs_map : (R S : Entry → Entry → Type 0) → ((e f : Entry) → R e f → S e f) → (es : Entries) → Pairs R es → Pairs S es
unfolding Pairs
pairs_map R S g [] h = tt
pairs_map R S g (e ∷ es) h = (All-weaker (R e) (S e) (g e) es h.0, pairs_map R S g es h.1)

-- sorting by a test that is strict, total and carries on
module _ (f : Bits → Bits → Bool)
    (total : (p q : Bits) → f p q ≡ false → same p q ≡ false → f q p ≡ true)
    (trans : (p q r : Bits) → f p q ≡ true → f q r ≡ true → f p r ≡ true) where
  abbrev Before : Entry → Entry → Type 0
  Before e k = f e.prefix k.prefix ≡ true

  all_inserted : (P : Entry → Type 0) (e : Entry) (t : Entries) → P e → AllByRecursion P t → AllByRecursion P (insert_by f e t)
  unfolding insert_by
  all_inserted P e [] p h = (p, tt)
  all_inserted P e (k ∷ ks) p h =
      cond_both (f e.prefix k.prefix) (e ∷ k ∷ ks) (k ∷ insert_by f e ks) (AllByRecursion P)
      (λ _. (p, h)) (λ _. (h.0, all_inserted P e ks p h.1))

  inserted_pairs : (e : Entry) (t : Entries) → has e.prefix t ≡ false → Pairs Before t → Pairs Before (insert_by f e t)
  unfolding insert_by Pairs has
  inserted_pairs e [] n h = (tt, tt)
  inserted_pairs e (k ∷ ks) n h =
      let o = or_parts (same e.prefix k.prefix) (has e.prefix ks) n in
      cond_both (f e.prefix k.prefix) (e ∷ k ∷ ks) (k ∷ insert_by f e ks) (Pairs Before)
      (λ y. ((y, All-weaker (Before k) (Before e) (λ j z. trans e.prefix k.prefix j.prefix y z) ks h.0), h))
      (λ y. (all_inserted (Before k) e ks (total e.prefix k.prefix y o.0) h.0, inserted_pairs e ks o.1 h.1))

  pub sorted_pairs : (t : Entries) → distinct t ≡ true → Pairs (λ e k. f e.prefix k.prefix ≡ true) (sorted_by f t)
  unfolding sorted_by Pairs
  sorted_pairs [] d = tt
  sorted_pairs (e ∷ es) d =
      let s = distinct_parts e es d in
      inserted_pairs e (sorted_by f es) (has_sorted f e.prefix es ∙ s.0) (sorted_pairs es s.1)
