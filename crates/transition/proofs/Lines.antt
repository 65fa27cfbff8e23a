-- What stands at a prefix, in tables that are filtered or sorted, and how many lines there are. Assumes nothing.
use Rattle.std.proofs.Common.{◌≡◌, ℕ, zero, suc, ◌≤◌, Bool, true, false, cond, ◌||◌, eqb, List, [], ◌∷◌, ◌++◌, length, take, is_some, Some, None, filter, Option, sym, refl, ap, ◌∙◌, arith}
use Rattle.std.proofs.lemmas.Bool.{false_from_ne_true, or_left, or_right, both_ways, cond-false}
use Rattle.std.proofs.lemmas.Grind.{common_steps}
use Rattle.prefix.specs.Bits.{Bits, same}
use Rattle.prefix.proofs.Strings.{same_eq, same_refl}
use Rattle.prefix.proofs.Order.{differ_turn}
use Rattle.table.specs.Tables.{Entry, Entries, has, distinct, pick, at, without, holds}
use Rattle.table.specs.Laws.{SameLines}
use Rattle.table.proofs.Picks.{has_without, at_without}
use Rattle.table.proofs.Counts.{distinct_parts, distinct_from, distinct_insert, distinct_without}
use Rattle.table.proofs.Alike.{holds_has}
use Rattle.transition.specs.Writes.{Writing, Put, Drop, written, written_all}
use Rattle.transition.specs.Plans.{insert_by, sorted_by}

-- whether it is this next hop
abbrev pub is_hop : ℕ → Option ℕ → Bool
is_hop x None = false
is_hop x (Some y) = eqb x y

-- tests of a table by what stands at a prefix

pub has_at : (p : Bits) (t : Entries) → has p t ≡ is_some (at t p)
unfolding has pick
has_at p [] = refl
has_at p (e ∷ es) = let ih = has_at p es in grind (arith, common_steps)

none_some : (o : Option ℕ) → is_some o ≡ false → o ≡ None
none_some None h = refl
none_some (Some x) h = cc

pub at_none : (p : Bits) (t : Entries) → has p t ≡ false → at t p ≡ None
at_none p t h = none_some (at t p) (sym (has_at p t) ∙ h)

pub not_held : (e : Entry) (t : Entries) → has e.prefix t ≡ false → holds e t ≡ false
not_held e t h = false_from_ne_true (holds e t) (λ y. both_ways (has e.prefix t) h (holds_has e t y))

pub holds_at : (e : Entry) (t : Entries) → distinct t ≡ true → holds e t ≡ is_hop e.hop (at t e.prefix)
unfolding holds pick
holds_at e [] d = refl
holds_at e (f ∷ fs) d =
    let s = distinct_parts f fs d in
    let ih = holds_at e fs s.1 in
    grind (arith, common_steps, same_eq e.prefix f.prefix, not_held e fs)

-- tables with the same at every prefix have the same lines
pub same_lines : (t u : Entries) → distinct t ≡ true → distinct u ≡ true → ((p : Bits) → at t p ≡ at u p) → SameLines t u
same_lines t u d e h l = holds_at l t d ∙ ap (is_hop l.hop) (h l.prefix) ∙ sym (holds_at l u e)

-- writes keep prefixes apart

pub distinct_written : (u : Writing) (t : Entries) → distinct t ≡ true → distinct (written u t) ≡ true
distinct_written (Put e) t d = distinct_insert e (without e.prefix t) (has_without e.prefix t) (distinct_without e.prefix t d)
distinct_written (Drop p) t d = distinct_without p t d

pub distinct_all : (us : List Writing) (t : Entries) → distinct t ≡ true → distinct (written_all us t) ≡ true
unfolding written_all
distinct_all [] t d = d
distinct_all (u ∷ us) t d = distinct_all us (written u t) (distinct_written u t d)

-- parts of a table

pub has_append : (p : Bits) (t u : Entries) → has p (t ++ u) ≡ (has p t || has p u)
unfolding has
has_append p [] u = refl
has_append p (e ∷ es) u = let ih = has_append p es u in grind (arith, common_steps)

pub has_take : (p : Bits) (k : ℕ) (t : Entries) → has p t ≡ false → has p (take k t) ≡ false
unfolding has
has_take p zero t h = refl
has_take p (suc k) [] h = refl
has_take p (suc k) (e ∷ es) h = let ih = has_take p k es in grind (arith, common_steps)

pub distinct_take : (k : ℕ) (t : Entries) → distinct t ≡ true → distinct (take k t) ≡ true
unfolding distinct
distinct_take zero t d = refl
distinct_take (suc k) [] d = refl
distinct_take (suc k) (e ∷ es) d =
    let s = distinct_parts e es d in distinct_from e (take k es) (has_take e.prefix k es s.0) (distinct_take k es s.1)

-- lines that pass a test

-- a next hop that stands at p, if the line passes the test
abbrev pub passed : (Entry → Bool) → Bits → Option ℕ → Option ℕ
passed f p None = None
passed f p (Some x) = cond (f (record { prefix = p; hop = x })) (Some x) None

module _ (f : Entry → Bool) where
  pub has_kept : (p : Bits) (t : Entries) → has p t ≡ false → has p (filter f t) ≡ false
  unfolding has
  has_kept p [] h = refl
  has_kept p (e ∷ es) h = let ih = has_kept p es in grind (arith, common_steps)

  pub distinct_kept : (t : Entries) → distinct t ≡ true → distinct (filter f t) ≡ true
  unfolding distinct
  distinct_kept [] d = refl
  distinct_kept (e ∷ es) d = let ih = distinct_kept es in let k = has_kept e.prefix es in grind (arith, common_steps)

  pub at_kept : (p : Bits) (t : Entries) → distinct t ≡ true → at (filter f t) p ≡ passed f p (at t p)
  unfolding pick distinct
  at_kept p [] d = refl
  at_kept p (e ∷ es) d =
      let ih = at_kept p es in
      grind (arith, common_steps, same_eq p e.prefix, same_refl p, has_kept p es, at_none p (filter f es))

-- lines in an order

module _ (f : Bits → Bits → Bool) where
  pub has_insert : (p : Bits) (e : Entry) (t : Entries) → has p (insert_by f e t) ≡ has p (e ∷ t)
  unfolding has insert_by
  has_insert p e [] = refl
  has_insert p e (k ∷ ks) = let ih = has_insert p e ks in grind (arith, common_steps)

  pub has_sorted : (p : Bits) (t : Entries) → has p (sorted_by f t) ≡ has p t
  unfolding has sorted_by
  has_sorted p [] = refl
  has_sorted p (e ∷ es) = has_insert p e (sorted_by f es) ∙ ap (λ b. same p e.prefix || b) (has_sorted p es)

  pub distinct_inserted : (e : Entry) (t : Entries) → has e.prefix t ≡ false → distinct t ≡ true → distinct (insert_by f e t) ≡ true
  unfolding insert_by has distinct
  distinct_inserted e [] h d = refl
  distinct_inserted e (k ∷ ks) h d =
      let ih = distinct_inserted e ks in
      let i = has_insert k.prefix e ks in
      grind (arith, common_steps, differ_turn e.prefix k.prefix)

  pub distinct_sorted : (t : Entries) → distinct t ≡ true → distinct (sorted_by f t) ≡ true
  unfolding sorted_by
  distinct_sorted [] d = d
  distinct_sorted (e ∷ es) d =
      let s = distinct_parts e es d in
      distinct_inserted e (sorted_by f es) (has_sorted e.prefix es ∙ s.0) (distinct_sorted es s.1)

  at_inserted : (p : Bits) (e : Entry) (t : Entries) → has e.prefix t ≡ false → at (insert_by f e t) p ≡ at (e ∷ t) p
  unfolding pick insert_by has
  at_inserted p e [] h = refl
  at_inserted p e (k ∷ ks) h =
      let ih = at_inserted p e ks in
      grind (arith, common_steps, same_eq p e.prefix, same_eq p k.prefix, same_refl k.prefix)

  pub at_sorted : (p : Bits) (t : Entries) → distinct t ≡ true → at (sorted_by f t) p ≡ at t p
  unfolding pick sorted_by
  at_sorted p [] d = refl
  at_sorted p (e ∷ es) d =
      let s = distinct_parts e es d in
      at_inserted p e (sorted_by f es) (has_sorted e.prefix es ∙ s.0) ∙ rw (at_sorted p es s.1)

  pub length_inserted : (e : Entry) (t : Entries) → length (insert_by f e t) ≡ suc (length t)
  unfolding insert_by
  length_inserted e [] = refl
  length_inserted e (k ∷ ks) = let ih = length_inserted e ks in grind (arith, common_steps)

  pub length_sorted : (t : Entries) → length (sorted_by f t) ≡ length t
  unfolding sorted_by
  length_sorted [] = refl
  length_sorted (e ∷ es) = length_inserted e (sorted_by f es) ∙ ap suc (length_sorted es)

-- counts by prefixes

has_others : (p q : Bits) (t : Entries) → same p q ≡ false → has p (without q t) ≡ has p t
has_others p q t n =
    has_at p (without q t) ∙ ap is_some (at_without q t p ∙ cond-false (same p q) None (at t p) n) ∙ sym (has_at p t)

without_le : (p : Bits) (t : Entries) → length (without p t) ≤ length t
unfolding without
without_le p [] = omega arith
without_le p (e ∷ es) = let ih = without_le p es in grind (arith, common_steps)

without_less : (p : Bits) (t : Entries) → has p t ≡ true → suc (length (without p t)) ≤ length t
unfolding without has
without_less p [] h = cc
without_less p (e ∷ es) h =
    let ih = without_less p es in
    let le = without_le p es in
    grind (arith, common_steps)

-- a table whose prefixes are all in another has no more lines
pub covered : (t u : Entries) → distinct t ≡ true → ((p : Bits) → has p t ≡ true → has p u ≡ true) → length t ≤ length u
unfolding has
covered [] u d h = omega arith
covered (e ∷ es) u d h =
    let s = distinct_parts e es d in
    let there : has e.prefix u ≡ true = h e.prefix (or_left _ _ (same_refl e.prefix)) in
    let rest = covered es (without e.prefix u) s.1 (λ p y. has_others p e.prefix u (off p s.0 y) ∙ h p (or_right _ _ y)) in
    omega (arith, without_less e.prefix u there)
  where
    off : (p : Bits) → has e.prefix es ≡ false → has p es ≡ true → same p e.prefix ≡ false
    off p n y = false_from_ne_true (same p e.prefix) (λ z. both_ways (has e.prefix es) n (rw (← same_eq p e.prefix z) y))

-- tables with the same prefixes have as many lines
pub as_many : (t u : Entries) → distinct t ≡ true → distinct u ≡ true → ((p : Bits) → has p t ≡ has p u) → length t ≡ length u
as_many t u d e h =
    let a = covered t u d (λ p y. sym (h p) ∙ y) in
    let b = covered u t e (λ p y. h p ∙ y) in
    omega arith
