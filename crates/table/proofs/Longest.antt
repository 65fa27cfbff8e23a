-- The search for the longest line with which an address begins. Assumes nothing.
use Rattle.std.proofs.Common.{◌≡◌, ℕ, ◌+◌, ◌<◌, ◌≤◌, true, false, length, take, Some, None, Option, sym, refl, ap, ◌∙◌, inl, inr, arith}
use Rattle.std.proofs.lemmas.Bool.{cases_Bool, cases_lt}
use Rattle.prefix.specs.Bits.{Bits, begins, common, before}
use Rattle.prefix.proofs.Order.{before_through, begins_rise, begins_within, begins_is, begins_common, common_begins, parts_below, parts_before}
use Rattle.table.specs.declared.lookups.Match.{Match}
use Rattle.table.specs.Tables.{Entries, find, at, seen, rising}
use Rattle.table.specs.Search.{entry_at, prefix_at, Ranked}
use Rattle.table.proofs.Picks.{seen_at}
use Rattle.table.proofs.Tops.{Highest, seen_far, highest_top, topmost}
use Rattle.table.proofs.Places.{standing, lacking, all_below}

-- the address sees nothing at lengths above c
abbrev pub Clear : Entries → Bits → ℕ → Type 0
Clear t a c = (n : ℕ) → c < n → n ≤ length a → seen t a n ≡ None

-- what the search keeps: its key is the first bits of the address, and no longer line matches
pub record Narrowed (t : Entries) (a key : Bits) : Type 0 where
  pub short : length key ≤ length a
  pub front : key ≡ take (length key) a
  pub clear : Clear t a (length key)

module _ (t : Entries) (a : Bits) (c r : ℕ) (short : c ≤ length a) (clear : Clear t a c) (rank : Ranked t (take c a) r) where
  -- a beginning of the address that comes after the lines of the rank is no line's prefix
  unseen : (n : ℕ) → (n ≤ c → (k : ℕ) → k < r → before (prefix_at t k) (take n a) ≡ true) → seen t a n ≡ None
  unseen n below =
      elim (cases_lt (length a) n) [
        | inl y ↦ seen_far t a n y
        | inr y ↦ elim (cases_lt c n) [
          | inl z ↦ clear n z y
          | inr z ↦ seen_at t a n y ∙ (lacking t (take n a) r (record {
            within = rank.within;
            below = below z;
            above = λ k i j. before_through (take n a) (take c a) (prefix_at t k) (begins_within n c a z) (rank.after k i j);
          })).none
        ]
      ]

  highest_is : (o : Option Match) → Highest (seen t a) o → o ≡ find t a
  highest_is o h = highest_top (seen t a) o (length a) h (λ n k. seen_far t a n k) ∙ sym (topmost t a)

-- where no line comes no later than the first bits of the address
pub finds_none : (t : Entries) (a : Bits) (c : ℕ) → c ≤ length a → Clear t a c → Ranked t (take c a) 0 → None ≡ find t a
unfolding Highest
finds_none t a c short clear rank = highest_is t a c 0 short clear rank None (λ n. unseen t a c 0 short clear rank n (λ _ k q. absurd (omega arith)))

-- where the line at i is the last that does not
module _ (t : Entries) (a : Bits) (c i : ℕ) (up : rising t ≡ true) (short : c ≤ length a) (clear : Clear t a c) (rank : Ranked t (take c a) (i + 1)) where
  after : (n : ℕ) → (n ≤ c → before (prefix_at t i) (take n a) ≡ true) → seen t a n ≡ None
  after n b = let w = rank.within in unseen t a c (i + 1) short clear rank n (λ l. all_below t (take n a) i up (omega arith) (b l))

  pub finds_last : common (prefix_at t i) a ≡ length (prefix_at t i) → Some (record { len = length (prefix_at t i); next_hop = (entry_at t i).hop }) ≡ find t a
  unfolding Highest
  finds_last e =
      let w = rank.within in
      let b = begins_is (prefix_at t i) a (begins_common (prefix_at t i) a e) in
      let s = standing t (prefix_at t i) i up (record { within = omega arith; here = refl }) in
      highest_is t a c (i + 1) short clear rank (Some (record { len = length (prefix_at t i); next_hop = (entry_at t i).hop })) (
        seen_at t a (length (prefix_at t i)) b.0 ∙ ap (at t) (sym b.1) ∙ s.gives,
        λ n k. after n (λ l.
            let z : before (take (length (prefix_at t i)) a) (take n a) ≡ true = begins_rise (length (prefix_at t i)) n a k (omega arith) in rw (← b.1) at z),
      )

  pub narrows : (common (prefix_at t i) a ≡ length (prefix_at t i) → ⊥) → (common (prefix_at t i) a < c) × Clear t a (common (prefix_at t i) a)
  narrows d =
      let w = rank.within in
      let u = rank.upto i (omega arith) in
      let b : begins (prefix_at t i) a ≡ false = (elim (cases_Bool (begins (prefix_at t i) a)) [
        | inl y ↦ absurd (d (common_begins (prefix_at t i) a y))
        | inr y ↦ y
      ]) in
      (parts_below (prefix_at t i) a c short u b, λ n k _. after n (parts_before (prefix_at t i) a c n short u b k))
