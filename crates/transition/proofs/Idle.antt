-- No write of a plan is idle, and no prefix is written twice. Assumes nothing.
use Rattle.std.proofs.Common.{◌≡◌, ℕ, zero, suc, ◌-◌, ◌<◌, ◌≤◌, true, false, ◌⊎◌, [], ◌∷◌, ◌++◌, map, length, take, is_some, Some, None, Option, sym, refl, ap, ◌∙◌, inl, inr, arith}
use Rattle.std.specs.List.{slice_get}
use Rattle.std.proofs.lemmas.Bool.{false_from_ne_true, both_ways, or_from, cond-false, not_from_false}
use Rattle.std.proofs.lemmas.Grind.{common_steps}
use Rattle.prefix.specs.Bits.{same}
use Rattle.prefix.proofs.Strings.{same_eq, same_refl}
use Rattle.table.specs.Tables.{Entry, Entries, has, holds, distinct, pick, at}
use Rattle.table.proofs.Counts.{distinct_parts}
use Rattle.transition.specs.Writes.{Writing, Put, moment, works}
use Rattle.transition.specs.Plans.{dropping, plan}
use Rattle.transition.specs.Laws.{NoneIdle, NoneTwice}
use Rattle.std.specs.Option.{option_or}
use Rattle.transition.proofs.Lines.{is_hop, has_at, at_none, holds_at, distinct_all}
use Rattle.transition.proofs.Overlays.{putting, leaving, changed_of, fresh_of, moment_at, putting_at, leaving_at, distinct_putting, distinct_leaving}
use Rattle.transition.proofs.Ending.{putting_new}

-- a line at a place of a list

nth_has : (es : Entries) (k : ℕ) (e : Entry) → slice_get es k ≡ Some e → has e.prefix es ≡ true
unfolding has
nth_has [] k e h = cc
nth_has (x ∷ xs) zero e h = grind (arith, common_steps, same_refl e.prefix)
nth_has (x ∷ xs) (suc k) e h = let ih = nth_has xs k e h in grind (arith, common_steps)

nth_taken : (es : Entries) (j k : ℕ) (e : Entry) → j < k → slice_get es j ≡ Some e → has e.prefix (take k es) ≡ true
unfolding has
nth_taken es j zero e l h = absurd (omega arith)
nth_taken [] j (suc k) e l h = cc
nth_taken (x ∷ xs) zero (suc k) e l h = grind (arith, common_steps, same_refl e.prefix)
nth_taken (x ∷ xs) (suc j) (suc k) e l h = let ih = nth_taken xs j k e (omega arith) h in grind (arith, common_steps)

other_first : (x : Entry) (xs : Entries) (k : ℕ) (e : Entry) → has x.prefix xs ≡ false → slice_get xs k ≡ Some e → same e.prefix x.prefix ≡ false
other_first x xs k e n h =
    false_from_ne_true (same e.prefix x.prefix) (λ y. both_ways (has x.prefix xs) n (rw (← same_eq e.prefix x.prefix y) (nth_has xs k e h)))

-- its prefix is not among those before it
none_before : (es : Entries) (k : ℕ) (e : Entry) → distinct es ≡ true → slice_get es k ≡ Some e → has e.prefix (take k es) ≡ false
unfolding has
none_before es zero e d h = refl
none_before [] (suc k) e d h = refl
none_before (x ∷ xs) (suc k) e d h =
    let s = distinct_parts x xs d in or_from _ _ (other_first x xs k e s.0 h) (none_before xs k e s.1 h)

nth_at : (es : Entries) (k : ℕ) (e : Entry) → distinct es ≡ true → slice_get es k ≡ Some e → at es e.prefix ≡ Some e.hop
unfolding pick
nth_at [] k e d h = cc
nth_at (x ∷ xs) zero e d h = grind (arith, common_steps, same_refl e.prefix)
nth_at (x ∷ xs) (suc k) e d h = let s = distinct_parts x xs d in let ih = nth_at xs k e s.1 h in grind (arith, common_steps, other_first x xs k e s.0 h)

apart_in : (es : Entries) (j k : ℕ) (e f : Entry) → distinct es ≡ true → j < k → slice_get es j ≡ Some e → slice_get es k ≡ Some f → same e.prefix f.prefix ≡ false
apart_in es j k e f d l h g =
    false_from_ne_true (same e.prefix f.prefix) (λ y. both_ways (has f.prefix (take k es)) (none_before es k f d g) (rw (← same_eq e.prefix f.prefix y) (nth_taken es j k e l h)))

-- a write at a place of a plan

record PutAt (es : Entries) (k : ℕ) (u : Writing) : Type 0 where
  line : Entry
  within : k < length es
  there : slice_get es k ≡ Some line
  is : u ≡ Put line

record DropAt (es fs : Entries) (k : ℕ) (u : Writing) : Type 0 where
  line : Entry
  past : length es ≤ k
  there : slice_get fs (k - length es) ≡ Some line
  is : u ≡ dropping line

nth_drops : (fs : Entries) (k : ℕ) (u : Writing) → slice_get (map dropping fs) k ≡ Some u → (f : Entry) × (slice_get fs k ≡ Some f) × (u ≡ dropping f)
nth_drops [] k u h = cc
nth_drops (f ∷ fs) zero u h = (f, refl, cc)
nth_drops (f ∷ fs) (suc k) u h = nth_drops fs k u h

nth_plan : (es fs : Entries) (k : ℕ) (u : Writing) → slice_get (map Put es ++ map dropping fs) k ≡ Some u → PutAt es k u ⊎ DropAt es fs k u
nth_plan [] fs k u h =
    let r = nth_drops fs k u h in
    let e : k - 0 ≡ k = omega arith in
    inr (record { line = r.0; past = omega arith; there = rw e r.1; is = r.2 })
nth_plan (e ∷ es) fs zero u h = inl (record { line = e; within = omega arith; there = refl; is = cc })
nth_plan (e ∷ es) fs (suc k) u h =
    elim (nth_plan es fs k u h) [
      | inl r ↦ inl (record { line = r.line; within = let l = r.within in omega arith; there = r.there; is = r.is })
      | inr r ↦
          let z : suc k - suc (length es) ≡ k - length es = omega arith in
          inr (record { line = r.line; past = let l = r.past in omega arith; there = rw z r.there; is = r.is })
    ]

-- both tables at a prefix that is written

changed_off : (o n : Option ℕ) (x : ℕ) → changed_of o n ≡ Some x → is_hop x o ≡ false
changed_off o None x h = cc
changed_off o (Some y) x h = grind (arith, common_steps)

record Leaves (o n : Option ℕ) : Type 0 where
  stood : is_some o ≡ true
  goes : is_some n ≡ false

fresh_leaves : (o n : Option ℕ) (x : ℕ) → fresh_of n o ≡ Some x → Leaves o n
fresh_leaves None n x h = cc
fresh_leaves (Some y) None x h = record { stood = refl; goes = refl }
fresh_leaves (Some y) (Some w) x h = cc

alt_some : (x o : Option ℕ) → is_some o ≡ true → is_some (option_or x o) ≡ true
alt_some None o h = h
alt_some (Some y) o h = refl

module _ (old new : Entries) (od : distinct old ≡ true) (nd : distinct new ≡ true) where
  left_by : (k : ℕ) (u : Writing) (r : DropAt (putting old new) (leaving old new) k u) → Leaves (at old r.line.prefix) (at new r.line.prefix)
  left_by k u r =
      let p = r.line.prefix in
      fresh_leaves (at old p) (at new p) r.line.hop
      (sym (leaving_at old new p od) ∙ nth_at (leaving old new) (k - length (putting old new)) r.line (distinct_leaving old new od) r.there)

  put_works : (k : ℕ) (u : Writing) → PutAt (putting old new) k u → works u (moment (plan old new) old k) ≡ true
  unfolding has
  put_works k u r =
      let e = r.line in
      let p = e.prefix in
      let l = r.within in
      let z : k - length (putting old new) ≡ 0 = omega arith in
      let n = at_none p (take k (putting old new)) (none_before (putting old new) k e (distinct_putting old new nd) r.there) in
      let m : at (moment (plan old new) old k) p ≡ at old p = moment_at old new nd k p ∙ rw (z, n) in
      let c = sym (putting_at old new p od nd) ∙ nth_at (putting old new) k e (distinct_putting old new nd) r.there in
      let h : holds e (moment (plan old new) old k) ≡ false =
      holds_at e (moment (plan old new) old k) (distinct_all (take k (plan old new)) old od) ∙ ap (is_hop e.hop) m ∙ changed_off (at old p) (at new p) e.hop c in
      rw r.is (not_from_false (holds e (moment (plan old new) old k)) h)

  drop_works : (k : ℕ) (u : Writing) → DropAt (putting old new) (leaving old new) k u → works u (moment (plan old new) old k) ≡ true
  drop_works k u r =
      let p = r.line.prefix in
      let j = k - length (putting old new) in
      let n = none_before (leaving old new) j r.line (distinct_leaving old new od) r.there in
      let m = moment_at old new nd k p ∙ cond-false (has p (take j (leaving old new))) None (option_or (at (take k (putting old new)) p) (at old p)) n in
      rw r.is
      (has_at p (moment (plan old new) old k) ∙ ap is_some m ∙ alt_some (at (take k (putting old new)) p) (at old p) (left_by k u r).stood)

  put_and_drop : (j k : ℕ) (u v : Writing) (r : PutAt (putting old new) j u) (s : DropAt (putting old new) (leaving old new) k v) → same r.line.prefix s.line.prefix ≡ false
  put_and_drop j k u v r s =
      let p = s.line.prefix in
      false_from_ne_true (same r.line.prefix p)
      (λ y. both_ways (has p new) (has_at p new ∙ (left_by k v s).goes) (rw (← same_eq r.line.prefix p y) (putting_new old new r.line.prefix od nd (nth_has (putting old new) j r.line r.there))))

pub none_idle : NoneIdle
none_idle old new od nd k u h =
    elim (nth_plan (putting old new) (leaving old new) k u h) [
      | inl r ↦ put_works old new od nd k u r
      | inr r ↦ drop_works old new od nd k u r
    ]

pub none_twice : NoneTwice
none_twice old new od nd j k u v l h g =
    elim (nth_plan (putting old new) (leaving old new) j u h) [
      | inl r ↦ elim (nth_plan (putting old new) (leaving old new) k v g) [
        | inl s ↦ rw (r.is, s.is) (apart_in (putting old new) j k r.line s.line (distinct_putting old new nd) l r.there s.there)
        | inr s ↦ rw (r.is, s.is) (put_and_drop old new od nd j k u v r s)
      ]
      | inr r ↦ elim (nth_plan (putting old new) (leaving old new) k v g) [
        | inl s ↦ let x = r.past in let y = s.within in absurd (omega arith)
        | inr s ↦
            let x = r.past in
            let y = s.past in
            rw (r.is, s.is)
            (apart_in (leaving old new) (j - length (putting old new)) (k - length (putting old new)) r.line s.line (distinct_leaving old new od) (omega arith) r.there s.there)
      ]
    ]
