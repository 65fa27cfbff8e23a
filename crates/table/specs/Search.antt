-- What searches in a rising table answer. Assumes nothing.
use Rattle.std.specs.Prelude.{◌≡◌, ℕ, ◌<◌, ◌≤◌, true, false, [], length, Ok, Err, Result, slice_index_or}
use Rattle.prefix.specs.Bits.{Bits, before}
use Rattle.table.specs.Tables.{Entry, Entries}

-- the line at a place
abbrev pub entry_at : Entries → ℕ → Entry
entry_at t k = slice_index_or t k (record { prefix = []; hop = 0 })

-- its prefix
abbrev pub prefix_at : Entries → ℕ → Bits
prefix_at t k = (entry_at t k).prefix

-- r lines come no later than p
pub record Ranked (t : Entries) (p : Bits) (r : ℕ) : Type 0 where
  pub within : r ≤ length t
  pub upto : (k : ℕ) → k < r → before p (prefix_at t k) ≡ false
  pub after : (k : ℕ) → r ≤ k → k < length t → before p (prefix_at t k) ≡ true

-- the line of p stands at i
pub record Stands (t : Entries) (p : Bits) (i : ℕ) : Type 0 where
  pub within : i < length t
  pub here : prefix_at t i ≡ p

-- no line has the prefix p, and at i there would be its place
pub record Missing (t : Entries) (p : Bits) (i : ℕ) : Type 0 where
  pub within : i ≤ length t
  pub below : (k : ℕ) → k < i → before (prefix_at t k) p ≡ true
  pub above : (k : ℕ) → i ≤ k → k < length t → before p (prefix_at t k) ≡ true

-- what a search for p answers: where its line stands, or else where it would
abbrev pub Located : Entries → Bits → Result ℕ ℕ → Type 0
Located t p (Ok i) = Stands t p i
Located t p (Err i) = Missing t p i
