-- The orders of writes, by length and then by bits, are strict and total. Assumes nothing.
use Rattle.std.proofs.Common.{arith, ◌≡◌, ℕ, Bool, true, false, ◌&&◌, eqb, ltb, ◌⊎◌, length, sym, inl, inr}
use Rattle.std.proofs.lemmas.Bool.{or_cases, or_from, or_left, or_right, and_parts, and_from, and_right, both_ways, eqb-true, eq-eqb, ltb-true}
use Rattle.std.proofs.lemmas.Grind.{common_steps}
use Rattle.std.proofs.lemmas.Bool.Decides.{nat_tests}
use Rattle.prefix.specs.Bits.{Bits, same, before}
use Rattle.prefix.proofs.Order.{before_irrefl, before_trans, before_other}
use Rattle.table.specs.Tables.{Entries, distinct}
use Rattle.transition.specs.Passes.{Strict, longer_strict, shorter_strict}
use Rattle.transition.specs.Plans.{by_length, is_longer, longest_first, shortest_first, sorted_by}
use Rattle.transition.proofs.Reach.{Farther, Pairs, sorted_pairs, pairs_map}

module _ (first : ℕ → ℕ → Bool) (strict : Strict first) where
  -- a prefix that comes before another has a length that comes first, or as many bits and lower ones
  pub ways : (p q : Bits) → by_length first p q ≡ true → (first (length p) (length q) ≡ true) ⊎ ((length p ≡ length q) × (before p q ≡ true))
  ways p q h =
      elim (or_cases (first (length p) (length q)) (eqb (length p) (length q) && before p q) h) [
        | inl y ↦ inl y
        | inr y ↦ let s = and_parts (eqb (length p) (length q)) (before p q) y in inr (eqb-true _ _ s.0, s.1)
      ]

  pub by_first : (p q : Bits) → first (length p) (length q) ≡ true → by_length first p q ≡ true
  by_first p q h = or_left _ _ h

  pub by_bits : (p q : Bits) → length p ≡ length q → before p q ≡ true → by_length first p q ≡ true
  by_bits p q e h = or_right _ _ (and_from _ _ (eq-eqb (length p) (length q) e) h)

  -- of two lengths that differ, the order goes by them
  pub not_first : (p q : Bits) → first (length q) (length p) ≡ true → by_length first p q ≡ false
  not_first p q h =
      grind (arith, nat_tests, strict.irrefl (length p), strict.trans (length p) (length q) (length p))

  pub order_irrefl : (p : Bits) → by_length first p p ≡ false
  order_irrefl p = or_from _ _ (strict.irrefl (length p)) (and_right (eqb (length p) (length p)) (before p p) (before_irrefl p))

  pub order_other : (p q : Bits) → by_length first p q ≡ false → same p q ≡ false → by_length first q p ≡ true
  order_other p q h n = grind (arith, nat_tests, common_steps, before_other p q, strict.total (length p) (length q))

  pub order_trans : (p q r : Bits) → by_length first p q ≡ true → by_length first q r ≡ true → by_length first p r ≡ true
  order_trans p q r h k = grind (arith, nat_tests, common_steps, strict.trans (length p) (length q) (length r), before_trans p q r)

  pub order_sorted : (t : Entries) → distinct t ≡ true → Pairs (λ e f. by_length first e.prefix f.prefix ≡ true) (sorted_by (by_length first) t)
  order_sorted t d = sorted_pairs (by_length first) order_other order_trans t d

before_apart : (p q : Bits) → before p q ≡ true → q ≡ p → ⊥
before_apart p q h e = both_ways (before p p) (before_irrefl p) (rw e at h)

longest_farther : (p q : Bits) → longest_first p q ≡ true → Farther q p
longest_farther p q h =
    elim (ways is_longer longer_strict p q h) [
      | inl k ↦ inl (ltb-true (length q) (length p) k)
      | inr k ↦ inr (sym k.0, before_apart p q k.1)
    ]

shortest_farther : (p q : Bits) → shortest_first p q ≡ true → Farther p q
shortest_farther p q h =
    elim (ways ltb shorter_strict p q h) [
      | inl k ↦ inl (ltb-true (length p) (length q) k)
      | inr k ↦ inr (k.0, λ e. before_apart p q k.1 (sym e))
    ]

pub longest_pairs : (t : Entries) → distinct t ≡ true → Pairs (λ e f. Farther f.prefix e.prefix) (sorted_by longest_first t)
longest_pairs t d =
    pairs_map (λ e f. longest_first e.prefix f.prefix ≡ true) (λ e f. Farther f.prefix e.prefix) (λ e f h. longest_farther e.prefix f.prefix h)
    (sorted_by longest_first t) (order_sorted is_longer longer_strict t d)

pub shortest_pairs : (t : Entries) → distinct t ≡ true → Pairs (λ e f. Farther e.prefix f.prefix) (sorted_by shortest_first t)
shortest_pairs t d =
    pairs_map (λ e f. shortest_first e.prefix f.prefix ≡ true) (λ e f. Farther e.prefix f.prefix) (λ e f h. shortest_farther e.prefix f.prefix h)
    (sorted_by shortest_first t) (order_sorted ltb shorter_strict t d)
