-- Lines of a table in order, gone through length by length, come sorted by length and then by bits. Assumes nothing.
use Rattle.std.proofs.Common.{◌≡◌, ℕ, zero, suc, ◌+◌, ◌<◌, ◌≤◌, Bool, true, false, eqb, ◌⊎◌, List, [], ◌∷◌, ◌++◌, length, filter, sym, refl, ap, subst, ◌∙◌, inl, inr, arith}
use Rattle.std.specs.List.{AllByRecursion}
use Rattle.std.proofs.ByRecursion.{All-append, All-weaker}
use Rattle.std.proofs.lemmas.Bool.{cases_eq, cond_both, both_ways, eq-eqb, ne_eqb, eqb-true}
use Rattle.prefix.specs.Bits.{Bits, before}
use Rattle.table.specs.Tables.{Entry, Entries, leads, rising}
use Rattle.table.proofs.Rising.{leads_parts, rising_parts}
use Rattle.transition.specs.Passes.{Strict, GoesThrough}
use Rattle.transition.specs.Plans.{by_length, insert_by, sorted_by}
use Rattle.transition.proofs.Orders.{by_first, by_bits, not_first}

-- the lines of one length
abbrev pub tier : ℕ → Entries → Entries
tier n t = filter (λ e. eqb (length e.prefix) n) t

-- the lines of some lengths, one length after the other
unfoldable pub tiers : List ℕ → Entries → Entries
tiers [] t = []
tiers (n ∷ ns) t = tier n t ++ tiers ns t

-- the lengths at k turns from n on
unfoldable pub turns : (ℕ → ℕ) → ℕ → ℕ → List ℕ
turns f zero n = []
turns f (suc k) n = f n ∷ turns f k (suc n)

-- a length is one of these
unfoldable pub Among : ℕ → List ℕ → Type 0
Among n [] = ⊥
Among n (m ∷ ms) = (n ≡ m) ⊎ Among n ms

-- inserting

insert_front : (f : Bits → Bits → Bool) (e : Entry) (t : Entries) → AllByRecursion (λ k. f e.prefix k.prefix ≡ true) t → insert_by f e t ≡ e ∷ t
unfolding insert_by
insert_front f e [] h = refl
insert_front f e (k ∷ ks) h = rw h.0

insert_past : (f : Bits → Bits → Bool) (e : Entry) (s t : Entries) → AllByRecursion (λ k. f e.prefix k.prefix ≡ false) s → insert_by f e (s ++ t) ≡ s ++ insert_by f e t
unfolding insert_by
insert_past f e [] t h = refl
insert_past f e (k ∷ ks) t h = rw h.0 (ap (λ (x : Entries). k ∷ x) (insert_past f e ks t h.1))

-- what is in a tier

tier_all : (P Q : Entry → Type 0) (n : ℕ) (t : Entries) → ((e : Entry) → P e → length e.prefix ≡ n → Q e) → AllByRecursion P t → AllByRecursion Q (tier n t)
tier_all P Q n [] f h = tt
tier_all P Q n (e ∷ es) f h =
    cond_both (eqb (length e.prefix) n) (e ∷ tier n es) (tier n es) (AllByRecursion Q)
    (λ y. (f e h.0 (eqb-true (length e.prefix) n y), tier_all P Q n es f h.1)) (λ _. tier_all P Q n es f h.1)

tiers_all : (P Q : Entry → Type 0) (ns : List ℕ) (t : Entries) → AllByRecursion (λ n. (e : Entry) → P e → length e.prefix ≡ n → Q e) ns → AllByRecursion P t → AllByRecursion Q (tiers ns t)
unfolding tiers
tiers_all P Q [] t f h = tt
tiers_all P Q (n ∷ ns) t f h = All-append Q (tier n t) (tiers ns t) (tier_all P Q n t f.0 h) (tiers_all P Q ns t f.1 h)

tier_other : (n : ℕ) (e : Entry) (t : Entries) → (length e.prefix ≡ n → ⊥) → tier n (e ∷ t) ≡ tier n t
tier_other n e t h = rw (ne_eqb (length e.prefix) n h)

tier_here : (n : ℕ) (e : Entry) (t : Entries) → length e.prefix ≡ n → tier n (e ∷ t) ≡ e ∷ tier n t
tier_here n e t h = rw (eq-eqb (length e.prefix) n h)

tiers_other : (ns : List ℕ) (e : Entry) (t : Entries) → AllByRecursion (λ n. length e.prefix ≡ n → ⊥) ns → tiers ns (e ∷ t) ≡ tiers ns t
unfolding tiers
tiers_other [] e t h = refl
tiers_other (n ∷ ns) e t h = rw (tier_other n e t h.0, tiers_other ns e t h.1)

tiers_none : (ns : List ℕ) → tiers ns [] ≡ []
unfolding tiers
tiers_none [] = refl
tiers_none (n ∷ ns) = tiers_none ns

module _ (first : ℕ → ℕ → Bool) (strict : Strict first) where
  -- lengths in their order
  unfoldable pub Ordered : List ℕ → Type 0
  Ordered [] = Unit {0}
  Ordered (n ∷ ns) = AllByRecursion (λ m. first n m ≡ true) ns × Ordered ns

  first_apart : (n m k : ℕ) → first n m ≡ true → k ≡ n → k ≡ m → ⊥
  first_apart n m k h a e = both_ways (first n n) (strict.irrefl n) (rw (sym e ∙ a) at h)

  first_among : (n k : ℕ) (ns : List ℕ) → AllByRecursion (λ m. first n m ≡ true) ns → Among k ns → first n k ≡ true
  unfolding Among
  first_among n k [] h a = absurd a
  first_among n k (m ∷ ms) h (inl e) = rw e h.0
  first_among n k (m ∷ ms) h (inr a) = first_among n k ms h.1 a

  insert_tiers : (ns : List ℕ) (e : Entry) (t : Entries) → Ordered ns → Among (length e.prefix) ns → AllByRecursion (λ k. before e.prefix k.prefix ≡ true) t →
      insert_by (by_length first) e (tiers ns t) ≡ tiers ns (e ∷ t)
  unfolding tiers Ordered Among
  insert_tiers [] e t o a h = absurd a
  insert_tiers (n ∷ ns) e t o a h =
      elim (cases_eq (length e.prefix) n) [
        | inl y ↦ rw (tier_here n e t y, tiers_other ns e t (All-weaker (λ m. first n m ≡ true) (λ m. length e.prefix ≡ m → ⊥) (λ m g. first_apart n m (length e.prefix) g y) ns o.0))
            (insert_front (by_length first) e (tier n t ++ tiers ns t)
            (All-append (λ k. by_length first e.prefix k.prefix ≡ true) (tier n t) (tiers ns t)
            (tier_all (λ k. before e.prefix k.prefix ≡ true) (λ k. by_length first e.prefix k.prefix ≡ true) n t
            (λ k b z. by_bits first strict e.prefix k.prefix (y ∙ sym z) b) h)
            (tiers_all (λ k. before e.prefix k.prefix ≡ true) (λ k. by_length first e.prefix k.prefix ≡ true) ns t
            (All-weaker (λ m. first n m ≡ true) (λ m. (k : Entry) → before e.prefix k.prefix ≡ true → length k.prefix ≡ m → by_length first e.prefix k.prefix ≡ true)
            (λ m g k b z. by_first first strict e.prefix k.prefix (rw (y, z) g)) ns o.0) h)))
        | inr y ↦
            let u = deeper y a in
            let g = first_among n (length e.prefix) ns o.0 u in
            rw (tier_other n e t y)
            (insert_past (by_length first) e (tier n t) (tiers ns t)
            (tier_all (λ k. before e.prefix k.prefix ≡ true) (λ k. by_length first e.prefix k.prefix ≡ false) n t
            (λ k b z. not_first first strict e.prefix k.prefix (rw z g)) h)
            ∙ ap (λ (x : Entries). tier n t ++ x) (insert_tiers ns e t o.1 u h))
      ]
    where
      deeper : (length e.prefix ≡ n → ⊥) → (length e.prefix ≡ n) ⊎ Among (length e.prefix) ns → Among (length e.prefix) ns
      deeper y (inl z) = absurd (y z)
      deeper y (inr z) = z

  leads_all : (e : Entry) (t : Entries) → leads e t ≡ true → AllByRecursion (λ k. before e.prefix k.prefix ≡ true) t
  leads_all e [] h = tt
  leads_all e (k ∷ ks) h = let s = leads_parts e k ks h in (s.0, leads_all e ks s.1)

  pub tiers_sort : (ns : List ℕ) (t : Entries) → Ordered ns → AllByRecursion (λ e. Among (length e.prefix) ns) t → rising t ≡ true → sorted_by (by_length first) t ≡ tiers ns t
  unfolding sorted_by
  tiers_sort ns [] o a r = sym (tiers_none ns)
  tiers_sort ns (e ∷ es) o a r =
      let s = rising_parts e es r in
      rw (tiers_sort ns es o a.1 s.1) (insert_tiers ns e es o a.0 (leads_all e es s.0))

-- the lengths of all turns

module _ (w : ℕ) (first : ℕ → ℕ → Bool) (f : ℕ → ℕ) (through : GoesThrough w first f) where
  turns_later : (k n j : ℕ) → j < n → n + k ≤ suc w → AllByRecursion (λ m. first (f j) m ≡ true) (turns f k n)
  unfolding turns
  turns_later zero n j h l = tt
  turns_later (suc k) n j h l = (through.ordered j n h (omega arith), turns_later k (suc n) j (omega arith) (omega arith))

  turns_ordered : (k n : ℕ) → n + k ≤ suc w → Ordered first through.strict (turns f k n)
  unfolding turns Ordered
  turns_ordered zero n l = tt
  turns_ordered (suc k) n l = (turns_later k (suc n) n (omega arith) (omega arith), turns_ordered k (suc n) (omega arith))

  turns_among : (k n j : ℕ) → n ≤ j → j < n + k → Among (f j) (turns f k n)
  unfolding turns Among
  turns_among zero n j h l = absurd (omega arith)
  turns_among (suc k) n j h l =
      elim (cases_eq j n) [
        | inl e ↦ inl (ap f e)
        | inr e ↦ inr (turns_among k (suc n) j (omega arith) (omega arith))
      ]

  among_all : (m : ℕ) → m ≤ w → Among m (turns f (suc w) 0)
  among_all m h =
      let (j, l, e) = through.reached m h in
      subst (λ (n : ℕ). Among n (turns f (suc w) 0)) e (turns_among (suc w) 0 j (omega arith) (omega arith))

  -- a table in order, of prefixes of at most w bits, gone through by turns
  pub sorted_turns : (t : Entries) → AllByRecursion (λ e. length e.prefix ≤ w) t → rising t ≡ true → sorted_by (by_length first) t ≡ tiers (turns f (suc w) 0) t
  sorted_turns t h r =
      tiers_sort first through.strict (turns f (suc w) 0) t (turns_ordered (suc w) 0 (omega arith))
      (All-weaker (λ e. length e.prefix ≤ w) (λ e. Among (length e.prefix) (turns f (suc w) 0)) (λ e l. among_all (length e.prefix) l) t h) r
