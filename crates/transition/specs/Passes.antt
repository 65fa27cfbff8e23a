-- Passes over lines length by length: in which orders, and that none is left out. Assumes nothing.
use Rattle.std.specs.Prelude.{◌≡◌, ℕ, ◌-◌, ◌<◌, ◌≤◌, Bool, true, false, nat_lt, refl}
use Rattle.std.proofs.Common.{sym, arith}
use Rattle.std.proofs.lemmas.Bool.Decides.{nat_tests}
use Rattle.transition.specs.Plans.{is_longer}

-- an order of lengths that is strict and total
pub record Strict (first : ℕ → ℕ → Bool) : Type 0 where
  pub irrefl : (n : ℕ) → first n n ≡ false
  pub trans : (m n k : ℕ) → first m n ≡ true → first n k ≡ true → first m k ≡ true
  pub total : (m n : ℕ) → first m n ≡ false → (m ≡ n → ⊥) → first n m ≡ true

-- one length at each turn from 0 to w: those come first that the order puts first, and each of 0 to w has a turn
pub record GoesThrough (w : ℕ) (first : ℕ → ℕ → Bool) (length_at : ℕ → ℕ) : Type 0 where
  pub strict : Strict first
  pub ordered : (j k : ℕ) → j < k → k ≤ w → first (length_at j) (length_at k) ≡ true
  pub reached : (n : ℕ) → n ≤ w → (k : ℕ) × (k ≤ w) × (length_at k ≡ n)

-- the longest first, at the turns from w down, and the shortest first, at the turns from 0 up: that both are such orders is the law that
-- the two passes of the code have to give, so its proofs stand here

pub shorter_strict : Strict nat_lt
shorter_strict = record {
  irrefl = λ n. grind (arith, nat_tests);
  trans = λ m n k h g. grind (arith, nat_tests);
  total = λ m n h g. grind (arith, nat_tests);
}

-- an order turned round is strict and total too
pub turned_strict : (first : ℕ → ℕ → Bool) → Strict first → Strict (λ m n. first n m)
turned_strict first s = record {
  irrefl = s.irrefl;
  trans = λ m n k h g. s.trans k n m g h;
  total = λ m n h d. s.total n m h (λ e. d (sym e));
}

pub longer_strict : Strict is_longer
longer_strict = turned_strict nat_lt shorter_strict

pub longest_through : (w : ℕ) → GoesThrough w is_longer (λ turn. w - turn)
longest_through w = record {
  strict = longer_strict;
  ordered = λ j k h l. grind (arith, nat_tests);
  reached = λ n h. (w - n, omega arith, omega arith);
}

pub shortest_through : (w : ℕ) → GoesThrough w nat_lt (λ turn. turn)
shortest_through w = record {
  strict = shorter_strict;
  ordered = λ j k h l. grind (arith, nat_tests);
  reached = λ n h. (n, h, refl);
}
