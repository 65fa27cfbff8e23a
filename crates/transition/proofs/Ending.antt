-- The end of a plan, and how many lines there are on the way. Assumes nothing.
use Rattle.std.proofs.Common.{◌≡◌, ℕ, ◌+◌, ◌-◌, Bool, true, false, cond, not, ◌||◌, List, [], ◌∷◌, ◌++◌, map, length, take, is_some, Some, None, Option, sym, refl, ap, ◌∙◌, ap₂, arith}
use Rattle.std.proofs.lemmas.List.{take_all, length-map, length-append}
use Rattle.std.proofs.Math.Bool.{or_comm}
use Rattle.std.proofs.lemmas.Bool.{true_from_ne_false, both_ways, or_left, or_right, or_from, ltb-true, ltb-false, lt-ltb}
use Rattle.prefix.specs.Bits.{Bits}
use Rattle.prefix.proofs.Strings.{same_refl}
use Rattle.table.specs.Tables.{Entry, Entries, has, distinct, rising, at}
use Rattle.table.specs.Laws.{SameLines}
use Rattle.table.proofs.Counts.{distinct_parts, distinct_from}
use Rattle.table.proofs.Rising.{rising_distinct, rising_put, rising_without}
use Rattle.table.proofs.Alike.{rising_once}
use Rattle.transition.specs.Writes.{Writing, Put, Drop, written, written_all, moment}
use Rattle.transition.specs.Plans.{changed, fresh, longest_first, shortest_first, dropping, plan, together}
use Rattle.transition.specs.Laws.{Ends, EndsRising, NeverMore, WithinDevice, CrowdedIs, PlanCount, BothWays}
use Rattle.std.specs.Option.{option_or}
use Rattle.transition.proofs.Lines.{has_at, same_lines, distinct_all, has_append, has_take, distinct_kept, length_sorted, covered, as_many}
use Rattle.transition.proofs.Overlays.{putting, leaving, changed_of, fresh_of, moment_at, putting_at, ended, fresh_at}

pub plan_count : PlanCount
plan_count old new =
    length-append (map Put (putting old new)) (map dropping (leaving old new))
    ∙ ap₂ (λ (m n : ℕ). m + n) (length-map (putting old new) Put ∙ length_sorted longest_first (changed old new)) (length-map (leaving old new) dropping ∙ length_sorted shortest_first (fresh new old))

-- all writes done

module _ (old new : Entries) (od : distinct old ≡ true) (nd : distinct new ≡ true) where
  pub end_at : (p : Bits) → at (written_all (plan old new) old) p ≡ at new p
  end_at p =
      let n = length (plan old new) in
      let c = plan_count old new in
      let i = length_sorted longest_first (changed old new) in
      let j = length_sorted shortest_first (fresh new old) in
      ap (λ (us : List Writing). at (written_all us old) p) (sym (take_all n (plan old new) (omega arith)))
      ∙ moment_at old new nd n p
      ∙ ap₂ (λ (fs es : Entries). cond (has p fs) None (option_or (at es p) (at old p)))
      (take_all (n - length (putting old new)) (leaving old new) (omega arith)) (take_all n (putting old new) (omega arith))
      ∙ ended old new p od nd

  pub end_same : SameLines (written_all (plan old new) old) new
  end_same = same_lines (written_all (plan old new) old) new (distinct_all (plan old new) old od) nd end_at

  pub end_many : length (written_all (plan old new) old) ≡ length new
  end_many =
      as_many (written_all (plan old new) old) new (distinct_all (plan old new) old od) nd
      (λ p. has_at p (written_all (plan old new) old) ∙ ap is_some (end_at p) ∙ sym (has_at p new))

pub ends : Ends
ends old new od nd = (end_same old new od nd, end_many old new od nd)

pub rising_written : (u : Writing) (t : Entries) → rising t ≡ true → rising (written u t) ≡ true
rising_written (Put e) t h = rising_put e t h
rising_written (Drop p) t h = rising_without p t h

pub rising_all : (us : List Writing) (t : Entries) → rising t ≡ true → rising (written_all us t) ≡ true
unfolding written_all
rising_all [] t h = h
rising_all (u ∷ us) t h = rising_all us (written u t) (rising_written u t h)

pub ends_rising : EndsRising
ends_rising old new ro rn =
    rising_once (written_all (plan old new) old) new (rising_all (plan old new) old ro) rn
    (end_same old new (rising_distinct old ro) (rising_distinct new rn))

-- both tables together

has_first : (e : Entry) (es : Entries) → has e.prefix (e ∷ es) ≡ true
unfolding has
has_first e es = or_left _ _ (same_refl e.prefix)

distinct_append : (t u : Entries) → distinct t ≡ true → distinct u ≡ true → ((p : Bits) → has p t ≡ true → has p u ≡ false) → distinct (t ++ u) ≡ true
unfolding has
distinct_append [] u d e h = e
distinct_append (x ∷ xs) u d e h =
    let s = distinct_parts x xs d in
    distinct_from x (xs ++ u) (has_append x.prefix xs u ∙ or_from _ _ s.0 (h x.prefix (has_first x xs)))
    (distinct_append xs u s.1 e (λ p y. h p (or_right _ _ y)))

fresh_other : (o n : Option ℕ) → is_some o ≡ true → is_some (fresh_of o n) ≡ false
fresh_other None n h = cc
fresh_other (Some y) None h = refl
fresh_other (Some y) (Some x) h = refl

-- what stands in either table
either : (o n : Option ℕ) → (is_some o || is_some (fresh_of o n)) ≡ (is_some o || is_some n)
either None None = refl
either None (Some x) = refl
either (Some y) n = refl

module _ (old new : Entries) (nd : distinct new ≡ true) where
  pub fresh_has : (p : Bits) → has p (fresh old new) ≡ is_some (fresh_of (at old p) (at new p))
  fresh_has p = has_at p (fresh old new) ∙ ap is_some (fresh_at old new p nd)

  pub union_has : (p : Bits) → has p (old ++ fresh old new) ≡ (is_some (at old p) || is_some (at new p))
  union_has p =
      has_append p old (fresh old new) ∙ ap₂ (λ (x y : Bool). x || y) (has_at p old) (fresh_has p) ∙ either (at old p) (at new p)

  pub union_distinct : distinct old ≡ true → distinct (old ++ fresh old new) ≡ true
  union_distinct od =
      distinct_append old (fresh old new) od (distinct_kept (λ e. not (has e.prefix old)) new nd)
      (λ p y. fresh_has p ∙ fresh_other (at old p) (at new p) (sym (has_at p old) ∙ y))

pub both_ways_alike : BothWays
both_ways_alike old new od nd =
    let m = as_many (old ++ fresh old new) (new ++ fresh new old) (union_distinct old new nd od) (union_distinct new old od nd)
    (λ p. union_has old new nd p ∙ or_comm (is_some (at old p)) (is_some (at new p)) ∙ sym (union_has new old od p)) in
    sym (length-append old (fresh old new)) ∙ m ∙ length-append new (fresh new old)

-- on the way no prefix stands that neither table has
from_either : (b : Bool) (x o n : Option ℕ) → is_some (cond b None (option_or x o)) ≡ true → (is_some x ≡ true → is_some n ≡ true) → (is_some o || is_some n) ≡ true
from_either true x o n h k = cc
from_either false None None n h k = cc
from_either false None (Some y) n h k = refl
from_either false (Some x) None n h k = k refl
from_either false (Some x) (Some y) n h k = refl

changed_some : (o n : Option ℕ) → is_some (changed_of o n) ≡ true → is_some n ≡ true
changed_some o None h = h
changed_some o (Some x) h = refl

pub putting_new : (old new : Entries) (p : Bits) → distinct old ≡ true → distinct new ≡ true → has p (putting old new) ≡ true → has p new ≡ true
putting_new old new p od nd h =
    has_at p new ∙ changed_some (at old p) (at new p) (sym (ap is_some (putting_at old new p od nd)) ∙ sym (has_at p (putting old new)) ∙ h)

taken_has : (p : Bits) (k : ℕ) (t : Entries) → has p (take k t) ≡ true → has p t ≡ true
taken_has p k t h =
    true_from_ne_false (has p t) (λ y. both_ways (has p (take k t)) (has_take p k t y) h)

pub never_more : NeverMore
never_more old new od nd k =
    let es = putting old new in
    let fs = leaving old new in
    let c = covered (moment (plan old new) old k) (old ++ fresh old new) (distinct_all (take k (plan old new)) old od)
    (λ p y. union_has old new nd p ∙ from_either (has p (take (k - length es) fs)) (at (take k es) p) (at old p) (at new p)
    (sym (ap is_some (moment_at old new nd k p)) ∙ sym (has_at p (moment (plan old new) old k)) ∙ y)
    (λ z. sym (has_at p new) ∙ putting_new old new p od nd (taken_has p k es (has_at p (take k es) ∙ z)))) in
    omega (arith, length-append old (fresh old new))

pub within_device : WithinDevice
within_device old new od nd c k = omega (arith, never_more old new od nd k, ltb-false 16384 (together old new) c)

pub crowded_is : CrowdedIs
crowded_is old new = (ltb-true 16384 (together old new), lt-ltb 16384 (together old new))
