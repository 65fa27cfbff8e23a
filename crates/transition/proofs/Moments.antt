-- Every moment of a plan, as one address sees it. Assumes nothing.
use Rattle.std.proofs.Common.{◌≡◌, ℕ, zero, suc, ◌+◌, ◌-◌, ◌<◌, ◌≤◌, Bool, true, false, cond, not, ◌⊎◌, [], ◌∷◌, length, take, drop, None, Option, sym, refl, ap, ◌∙◌, ap₂, inl, inr, arith}
use Rattle.std.proofs.lemmas.List.{take_all, drop_all, take-take, take-append-drop, drop-drop}
use Rattle.std.proofs.Math.Bool.{or-false}
use Rattle.std.proofs.lemmas.Bool.{cases_lt, cond-false, and_parts}
use Rattle.std.proofs.lemmas.Grind.{common_steps}
use Rattle.prefix.specs.Bits.{Bits}
use Rattle.table.specs.Tables.{Entries, find, hop_of, has, holds, distinct, fits, sound, pick, at, seen, top}
use Rattle.table.proofs.Picks.{seen_at}
use Rattle.table.proofs.Tops.{topmost}
use Rattle.transition.specs.Writes.{moment}
use Rattle.transition.specs.Plans.{changed, fresh, plan}
use Rattle.transition.specs.Laws.{NoWrongMoment, OnceNew, LookUpsOnce}
use Rattle.std.specs.Option.{option_or}
use Rattle.transition.proofs.Lines.{at_none, has_append, distinct_kept}
use Rattle.transition.proofs.Overlays.{putting, leaving, moment_at, overlay, ended}
use Rattle.transition.proofs.Stages.{Stage, top_upto, between}
use Rattle.transition.proofs.Reach.{reach, reach_take, reach_drop, past_reach, within_reach, Farther, pairs_split, all_turned}
use Rattle.transition.proofs.Orders.{longest_pairs, shortest_pairs}

-- what an address sees at a length
abbrev pub view : Entries → Bits → ℕ → Option ℕ
view t a n = at t (take n a)

pub find_view : (t : Entries) (a : Bits) → find t a ≡ top (view t a) (length a)
find_view t a = topmost t a ∙ top_upto (seen t a) (view t a) (length a) (λ n h. seen_at t a n h)

at_parts : (p : Bits) (k : ℕ) (t : Entries) → has p (drop k t) ≡ false → at t p ≡ at (take k t) p
unfolding pick
at_parts p zero t h = at_none p t h
at_parts p (suc k) [] h = refl
at_parts p (suc k) (e ∷ es) h = let ih = at_parts p k es h in grind (arith, common_steps)

has_parts : (p : Bits) (k : ℕ) (t : Entries) → has p (drop k t) ≡ false → has p t ≡ has p (take k t)
has_parts p k t h =
    ap (has p) (sym (take-append-drop k t)) ∙ has_append p (take k t) (drop k t) ∙ rw h (or-false (has p (take k t)))

module _ (old new : Entries) (od : distinct old ≡ true) (nd : distinct new ≡ true) (a : Bits) where
  -- puts that are still to come reach so far, and drops that are done
  abbrev still : ℕ → ℕ
  still k = reach a (drop k (putting old new))

  abbrev past : ℕ → ℕ
  past k = reach a (take (k - length (putting old new)) (leaving old new))

  changed_distinct : distinct (changed old new) ≡ true
  changed_distinct = distinct_kept (λ e. not (holds e old)) new nd

  fresh_distinct : distinct (fresh new old) ≡ true
  fresh_distinct = distinct_kept (λ e. not (has e.prefix new)) old od

  -- while puts are to come, nothing is dropped
  none_dropped : (k n : ℕ) → n < still k → k - length (putting old new) ≡ 0
  unfolding reach
  none_dropped k n h =
      elim (cases_lt k (length (putting old new))) [
        | inl l ↦ omega arith
        | inr l ↦ let z = rw (drop_all k (putting old new) l) at h in absurd (omega arith)
      ]

  -- once something is dropped, all is put
  all_put : (k n : ℕ) → n < past k → length (putting old new) ≤ k
  unfolding reach
  all_put k n h =
      elim (cases_lt k (length (putting old new))) [
        | inl l ↦
            let e : k - length (putting old new) ≡ 0 = omega arith in
            let z = rw e at h in absurd (omega arith)
        | inr l ↦ l
      ]

  pub stage : (k : ℕ) → Stage (length a) (view old a) (view new a) (still k) (past k) (view (moment (plan old new) old k) a)
  unfolding has
  stage k = record {
    before = λ n l h.
        let z = none_dropped k n h in
        let f = all_turned (λ e f. Farther f.prefix e.prefix) (take k (putting old new)) (drop k (putting old new))
        (pairs_split (λ e f. Farther f.prefix e.prefix) k (putting old new) (longest_pairs (changed old new) changed_distinct)) in
        let y = at_none (take n a) (take k (putting old new)) (within_reach a n (drop k (putting old new)) (take k (putting old new)) l f h) in
        moment_at old new nd k (take n a) ∙ rw (z, y);
    after = λ n l h.
        let z = all_put k n h in
        let j = k - length (putting old new) in
        let f = pairs_split (λ e f. Farther e.prefix f.prefix) j (leaving old new) (shortest_pairs (fresh new old) fresh_distinct) in
        let y = within_reach a n (take j (leaving old new)) (drop j (leaving old new)) l f h in
        moment_at old new nd k (take n a)
        ∙ ap₂ (λ (b : Bool) (es : Entries). cond b None (option_or (at es (take n a)) (at old (take n a)))) (sym (has_parts (take n a) j (leaving old new) y)) (take_all k (putting old new) z)
        ∙ ended old new (take n a) od nd;
    both = λ n l h g.
        let j = k - length (putting old new) in
        let y = past_reach a n (take j (leaving old new)) l g in
        let z = past_reach a n (drop k (putting old new)) l h in
        moment_at old new nd k (take n a)
        ∙ cond-false (has (take n a) (take j (leaving old new))) None (option_or (at (take k (putting old new)) (take n a)) (at old (take n a))) y
        ∙ ap (λ (o : Option ℕ). option_or o (at old (take n a))) (sym (at_parts (take n a) k (putting old new) z))
        ∙ overlay old new (take n a) od nd;
  }

  still_falls : (k m : ℕ) → k ≤ m → still m ≤ still k
  still_falls k m h =
      let e : k + (m - k) ≡ m = omega arith in
      let z : drop (m - k) (drop k (putting old new)) ≡ drop m (putting old new) = drop-drop (m - k) k (putting old new) ∙ ap (λ n. drop n (putting old new)) e in
      let r = reach_drop a (m - k) (drop k (putting old new)) in
      rw z at r

  past_rises : (k m : ℕ) → k ≤ m → past k ≤ past m
  past_rises k m h =
      let i = k - length (putting old new) in
      let j = m - length (putting old new) in
      let z = take-take i j (leaving old new) (omega arith) in
      let r = reach_take a i (take j (leaving old new)) in
      rw z at r

  pub look_ups : (k m : ℕ) → k ≤ m → (find (moment (plan old new) old k) a ≡ find old a) ⊎ (find (moment (plan old new) old m) a ≡ find new a)
  look_ups k m h =
      rw (find_view (moment (plan old new) old k) a, find_view old a, find_view (moment (plan old new) old m) a, find_view new a)
      (between (length a) (view old a) (view new a) (view (moment (plan old new) old k) a) (view (moment (plan old new) old m) a)
      (still k) (past k) (still m) (past m) (stage k) (stage m) (still_falls k m h) (past_rises k m h) (length a) (omega arith))

pub look_ups_once : LookUpsOnce plan
look_ups_once old new od nd k m a h = look_ups old new od nd a k m h

sound_distinct : (w : ℕ) (t : Entries) → sound w t ≡ true → distinct t ≡ true
sound_distinct w t h = (and_parts (distinct t) (fits w t) h).0

pub once_new : OnceNew plan
once_new w old new so sn k m a e h =
    elim (look_ups old new (sound_distinct w old so) (sound_distinct w new sn) a k m h) [
      | inl y ↦ inl (ap hop_of y)
      | inr y ↦ inr (ap hop_of y)
    ]

pub no_wrong_moment_lem : NoWrongMoment plan
no_wrong_moment_lem w old new so sn k a e = once_new w old new so sn k k a e (omega arith)
