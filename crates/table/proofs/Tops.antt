-- A look-up is the topmost of what the address sees. Assumes nothing.
use Rattle.std.proofs.Common.{◌≡◌, ℕ, zero, suc, ◌<◌, ◌≤◌, true, nat_le, [], ◌∷◌, length, Some, None, Option, refl, ap, ◌∙◌, inl, inr, arith}
use Rattle.std.proofs.lemmas.Bool.{cond_both, cases_lt, both_ways, leb-true, leb-false}
use Rattle.std.proofs.lemmas.Bool.Decides.{nat_tests}
use Rattle.prefix.specs.Bits.{Bits, begins}
use Rattle.prefix.proofs.Order.{begins_is}
use Rattle.table.specs.declared.lookups.Match.{Match}
use Rattle.table.specs.Tables.{Entry, Entries, matched, longer, find, pick, seen, top}
use Rattle.table.specs.Laws.{Topmost}

pub seen_far : (t : Entries) (a : Bits) (n : ℕ) → length a < n → seen t a n ≡ None
unfolding pick
seen_far [] a n h = refl
seen_far (e ∷ es) a n h = grind (arith, nat_tests, seen_far es a n h, begins_is e.prefix a)

-- what stands at the longest length, if anything does
unfoldable pub Highest : (ℕ → Option ℕ) → Option Match → Type 0
Highest f None = (n : ℕ) → f n ≡ None
Highest f (Some m) = (f m.len ≡ Some m.next_hop) × ((n : ℕ) → m.len < n → f n ≡ None)

-- one line more is seen at its own length, and only if the address begins with it
module _ (e : Entry) (es : Entries) (a : Bits) where
  seen_own : begins e.prefix a ≡ true → seen (e ∷ es) a (length e.prefix) ≡ Some e.hop
  unfolding pick
  seen_own b = grind (arith, nat_tests)

  seen_other : (n : ℕ) → (begins e.prefix a ≡ true → length e.prefix ≡ n → ⊥) → seen (e ∷ es) a n ≡ seen es a n
  unfolding pick
  seen_other n h = grind (arith, nat_tests, h)

  one_more : (o : Option Match) → begins e.prefix a ≡ true → Highest (seen es a) o → Highest (seen (e ∷ es) a) (longer e o)
  unfolding Highest
  one_more None b h = (seen_own b, λ n k. seen_other n (λ _ l. omega arith) ∙ h n)
  one_more (Some m) b h =
      cond_both (nat_le m.len (length e.prefix)) (Some (matched e)) (Some m) (Highest (seen (e ∷ es) a))
      (λ y. let l = leb-true _ _ y in (seen_own b, λ n k. seen_other n (λ _ i. omega arith) ∙ h.1 n (omega arith)))
      (λ y. let l = leb-false _ _ y in (seen_other m.len (λ _ i. omega arith) ∙ h.0, λ n k. seen_other n (λ _ i. omega arith) ∙ h.1 n k))

pub find_highest : (t : Entries) (a : Bits) → Highest (seen t a) (find t a)
unfolding Highest find pick
find_highest [] a = λ n. refl
find_highest (e ∷ es) a =
    cond_both (begins e.prefix a) (longer e (find es a)) (find es a) (Highest (seen (e ∷ es) a))
    (λ y. one_more e es a (find es a) y (find_highest es a))
    (λ y. same_highest (find es a) (λ n. seen_other e es a n (λ b _. both_ways (begins e.prefix a) y b)) (find_highest es a))
  where
    same_highest : {f g : ℕ → Option ℕ} (o : Option Match) → ((n : ℕ) → g n ≡ f n) → Highest f o → Highest g o
    same_highest None e h = λ n. e n ∙ h n
    same_highest (Some m) e h = (e m.len ∙ h.0, λ n k. e n ∙ h.1 n k)

top_none : (f : ℕ → Option ℕ) (w : ℕ) → ((n : ℕ) → f n ≡ None) → None ≡ top f w
unfolding top
top_none f zero h = rw (h zero)
top_none f (suc w) h = rw (h (suc w)) (top_none f w h)

top_some : (f : ℕ → Option ℕ) (m : Match) (w : ℕ) → f m.len ≡ Some m.next_hop → ((n : ℕ) → m.len < n → f n ≡ None) → m.len ≤ w → Some m ≡ top f w
unfolding top
top_some f m zero h far le = let z : m.len ≡ 0 = omega arith in let i = rw z at h in rw i (ap (λ n. Some (record { len = n; next_hop = m.next_hop })) z)
top_some f m (suc w) h far le =
    elim (cases_lt m.len (suc w)) [
      | inl k ↦ rw (far (suc w) k) (top_some f m w h far (omega arith))
      | inr k ↦ let z : m.len ≡ suc w = omega arith in let i = rw z at h in rw i (ap (λ n. Some (record { len = n; next_hop = m.next_hop })) z)
    ]

pub highest_top : (f : ℕ → Option ℕ) (o : Option Match) (w : ℕ) → Highest f o → ((n : ℕ) → w < n → f n ≡ None) → o ≡ top f w
unfolding Highest
highest_top f None w h far = top_none f w h
highest_top f (Some m) w h far =
    top_some f m w h.0 h.1
    (elim (cases_lt w m.len) [
      | inl k ↦ absurd (cc (h.0, far m.len k))
      | inr k ↦ k
    ])

pub topmost : Topmost
topmost t a = highest_top (seen t a) (find t a) (length a) (find_highest t a) (λ n h. seen_far t a n h)
