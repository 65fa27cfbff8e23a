-- Tables with the same lines, in any order. Assumes nothing.
use Rattle.std.proofs.Common.{◌≡◌, ℕ, zero, suc, ◌+◌, ◌≤◌, Bool, true, if◌then◌else◌, ◌&&◌, eqb, ltb, [], ◌∷◌, length, Some, None, Option, sym, refl, ap, ◌∙◌, ap₂, inl, inr, arith}
use Rattle.std.specs.List.{list_any, count_by}
use Rattle.std.proofs.lemmas.List.Sorted.{sum_by-IsPermutation, list_any-IsPermutation}
use Rattle.std.proofs.lemmas.List.Sums.{sum_by-cons}
use Rattle.std.proofs.lemmas.Bool.{cases_Bool, and_parts, and_from, or_left, or_right, eqb-true, eq-eqb, both_ways}
use Rattle.std.proofs.lemmas.Bool.Decides.{nat_tests}
use Rattle.prefix.specs.Bits.{Bits, same, before}
use Rattle.prefix.proofs.Strings.{same_eq, same_refl}
use Rattle.prefix.proofs.Order.{before_irrefl, before_trans}
use Rattle.table.specs.Tables.{Entry, Entries, find, hop_of, has, distinct, pick, sits, seen, top, every, leads, rising, holds}
use Rattle.table.specs.Laws.{OrderFree, SameLines, LinesDecide, RisingOnce}
use Rattle.table.proofs.Picks.{Single, sits_single}
use Rattle.table.proofs.Tops.{topmost}
use Rattle.table.proofs.Counts.{distinct_parts, distinct_from}
use Rattle.table.proofs.Unique.{Listed, unique}

-- one line is another
abbrev pub is : Entry → Entry → Bool
is e f = same e.prefix f.prefix && eqb e.hop f.hop

pub is_eq : (e f : Entry) → is e f ≡ true → e ≡ f
is_eq e f h =
    let s = and_parts (same e.prefix f.prefix) (eqb e.hop f.hop) h in
    ap₂ (λ (p : Bits) (x : ℕ). record { prefix = p; hop = x }) (same_eq _ _ s.0) (eqb-true _ _ s.1)

pub is_refl : (e : Entry) → is e e ≡ true
is_refl e = and_from _ _ (same_refl e.prefix) (eq-eqb e.hop e.hop refl)

pub holds_has : (e : Entry) (t : Entries) → holds e t ≡ true → has e.prefix t ≡ true
unfolding holds has
holds_has e [] h = h
holds_has e (f ∷ fs) h = grind (arith, nat_tests, holds_has e fs)

-- what a test picks from tables with the same lines

pub record Picked (f : Bits → Bool) (t : Entries) (x : ℕ) : Type 0 where
  pub line : Entry
  pub held : holds line t ≡ true
  pub passes : f line.prefix ≡ true
  pub gives : line.hop ≡ x

module _ (f : Bits → Bool) where
  pub picked : (t : Entries) (x : ℕ) → pick f t ≡ Some x → Picked f t x
  unfolding pick holds
  picked [] x h = absurd (cc)
  picked (e ∷ es) x h =
      elim (cases_Bool (f e.prefix)) [
        | inl y ↦ record { line = e; held = or_left _ _ (is_refl e); passes = y; gives = grind (arith, nat_tests) }
        | inr y ↦ let p = picked es x (rw y at h) in record { line = p.line; held = or_right _ _ p.held; passes = p.passes; gives = p.gives }
      ]

  module _ (single : Single f) where
    pub held_picks : (e : Entry) (t : Entries) → distinct t ≡ true → holds e t ≡ true → f e.prefix ≡ true → pick f t ≡ Some e.hop
    unfolding pick holds
    held_picks e [] d h y = absurd (both_ways (holds e []) refl h)
    held_picks e (g ∷ gs) d h y =
        let s = distinct_parts g gs d in
        grind (arith, nat_tests, held_picks e gs s.1, s.0, is_eq e g, holds_has e gs, single g.prefix e.prefix)

    pub pick_alike : (t u : Entries) → distinct t ≡ true → distinct u ≡ true → SameLines t u → pick f t ≡ pick f u
    pick_alike t u d e h =
        by_ways (pick f t) (pick f u)
        (λ x y. let p = picked t x y in held_picks p.line u e (sym (h p.line) ∙ p.held) p.passes ∙ ap Some p.gives)
        (λ x y. let p = picked u x y in held_picks p.line t d (h p.line ∙ p.held) p.passes ∙ ap Some p.gives)
      where
        by_ways : (o p : Option ℕ) → ((x : ℕ) → o ≡ Some x → p ≡ Some x) → ((x : ℕ) → p ≡ Some x → o ≡ Some x) → o ≡ p
        by_ways None None g h = refl
        by_ways None (Some x) g h = h x refl
        by_ways (Some x) p g h = sym (g x refl)

pub top_alike : (f g : ℕ → Option ℕ) (w : ℕ) → ((n : ℕ) → f n ≡ g n) → top f w ≡ top g w
unfolding top
top_alike f g zero h = rw (h zero)
top_alike f g (suc w) h = rw (h (suc w), top_alike f g w h)

find_alike : (t u : Entries) → distinct t ≡ true → distinct u ≡ true → SameLines t u → (a : Bits) → find t a ≡ find u a
find_alike t u d e h a =
    topmost t a ∙ top_alike (seen t a) (seen u a) (length a) (λ n. pick_alike (λ p. sits p a n) (sits_single a n) t u d e h) ∙ sym (topmost u a)

pub lines_decide_lem : LinesDecide
lines_decide_lem t u d e h = (find_alike t u d e h, λ w a _. ap hop_of (find_alike t u d e h a))

-- no shuffle changes which lines there are, and how often a prefix stands

holds_any : (e : Entry) (t : Entries) → holds e t ≡ list_any (is e) t
unfolding holds
holds_any e [] = refl
holds_any e (f ∷ fs) = rw (holds_any e fs)

abbrev times : Bits → Entries → ℕ
times p t = count_by (λ e. same p e.prefix) t

times_cons : (p : Bits) (e : Entry) (es : Entries) → times p (e ∷ es) ≡ (if same p e.prefix then 1 else 0) + times p es
times_cons p e es = sum_by-cons (λ f. if same p f.prefix then 1 else 0) e es

has_times : (p : Bits) (t : Entries) → has p t ≡ ltb 0 (times p t)
unfolding has
has_times p [] = refl
has_times p (e ∷ es) = grind (arith, nat_tests, has_times p es, times_cons p e es)

distinct_once : (t : Entries) → distinct t ≡ true → (p : Bits) → times p t ≤ 1
distinct_once [] d p = omega arith
distinct_once (e ∷ es) d p =
    let s = distinct_parts e es d in
    grind (arith, nat_tests, distinct_once es s.1 p, s.0, has_times p es, times_cons p e es, same_eq p e.prefix)

once_distinct : (t : Entries) → ((p : Bits) → times p t ≤ 1) → distinct t ≡ true
unfolding distinct
once_distinct [] h = refl
once_distinct (e ∷ es) h =
    distinct_from e es
    (grind (arith, nat_tests, h e.prefix, times_cons e.prefix e es, has_times e.prefix es, same_refl e.prefix))
    (once_distinct es (λ p. omega (arith, h p, times_cons p e es)))

pub order_free : OrderFree
order_free t u d s a =
    find_alike t u d
    (once_distinct u (λ p. omega (arith, sum_by-IsPermutation (λ e. if same p e.prefix then 1 else 0) t u s, distinct_once t d p)))
    (λ e. holds_any e t ∙ list_any-IsPermutation (is e) t u s ∙ sym (holds_any e u)) a

-- one table only has these lines and rises

listed : Listed is (λ e f. before e.prefix f.prefix) holds leads rising
unfolding holds every rising
listed = record {
  is_eq = is_eq;
  is_refl = is_refl;
  irrefl = λ e. before_irrefl e.prefix;
  trans = λ e f g. before_trans e.prefix f.prefix g.prefix;
  among_none = λ e. refl;
  among_more = λ e f fs. refl;
  heads_more = λ e f fs. refl;
  ordered_more = λ e es. refl;
}

pub rising_once : RisingOnce
rising_once t u r s h = unique listed t u r s h
