-- What one address sees of two tables while it goes over from one to the other, length by length. Assumes nothing.
use Rattle.std.proofs.Common.{◌≡◌, ℕ, zero, suc, ◌<◌, ◌≤◌, ◌⊎◌, Some, None, Option, refl, inl, inr, arith}
use Rattle.std.proofs.lemmas.Bool.{cases_lt}
use Rattle.table.specs.declared.lookups.Match.{Match}
use Rattle.table.specs.Tables.{over, top}
use Rattle.std.specs.Option.{option_or}

pub top_upto : (f g : ℕ → Option ℕ) (v : ℕ) → ((n : ℕ) → n ≤ v → f n ≡ g n) → top f v ≡ top g v
unfolding top
top_upto f g zero h = rw (h zero (omega arith))
top_upto f g (suc v) h = rw (h (suc v) (omega arith), top_upto f g v (λ n l. h n (omega arith)))

-- a moment, at the lengths up to w: below c all is as before, below d as it will be, and else there are both and the new goes first.
-- Puts, the longest first, lower c; drops, the shortest first, raise d
pub record Stage (w : ℕ) (old new : ℕ → Option ℕ) (c d : ℕ) (now : ℕ → Option ℕ) : Type 0 where
  pub before : (n : ℕ) → n ≤ w → n < c → now n ≡ old n
  pub after : (n : ℕ) → n ≤ w → n < d → now n ≡ new n
  pub both : (n : ℕ) → n ≤ w → c ≤ n → d ≤ n → now n ≡ option_or (new n) (old n)

-- one length more at which both stand
join : (n : ℕ) (v u : Option ℕ) (s t o m : Option Match) → (s ≡ o) ⊎ (t ≡ m) → (over n (option_or v u) s ≡ over n u o) ⊎ (over n (option_or v u) t ≡ over n v m)
join n None None s t o m h = h
join n None (Some y) s t o m h = inl refl
join n (Some x) u s t o m h = inr refl

module _ (w : ℕ) (old new s t : ℕ → Option ℕ) (c d c' d' : ℕ) (here : Stage w old new c d s) (later : Stage w old new c' d' t) (cs : c' ≤ c) (ds : d ≤ d') where
  all_old : (v : ℕ) → v ≤ w → v < c → top s v ≡ top old v
  all_old v l h = top_upto s old v (λ n k. here.before n (omega arith) (omega arith))

  all_new : (v : ℕ) → v ≤ w → v < d' → top t v ≡ top new v
  all_new v l h = top_upto t new v (λ n k. later.after n (omega arith) (omega arith))

  -- of two moments, one after the other: at the first all is as before, or at the second as it will be
  pub between : (v : ℕ) → v ≤ w → (top s v ≡ top old v) ⊎ (top t v ≡ top new v)
  unfolding top
  between zero l =
      elim (cases_lt zero c) [
        | inl h ↦ inl (all_old zero l h)
        | inr h ↦ elim (cases_lt zero d') [
          | inl k ↦ inr (all_new zero l k)
          | inr k ↦ rw (here.both zero l h (omega arith), later.both zero l (omega arith) k) (join zero (new zero) (old zero) None None None None (inl refl))
        ]
      ]
  between (suc n) l =
      elim (cases_lt (suc n) c) [
        | inl h ↦ inl (all_old (suc n) l h)
        | inr h ↦ elim (cases_lt (suc n) d') [
          | inl k ↦ inr (all_new (suc n) l k)
          | inr k ↦ rw (here.both (suc n) l h (omega arith), later.both (suc n) l (omega arith) k)
              (join (suc n) (new (suc n)) (old (suc n)) (top s n) (top t n) (top old n) (top new n) (between n (omega arith)))
        ]
      ]
