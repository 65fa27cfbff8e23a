-- What stands at a prefix after some of a plan's writes. Assumes nothing.
use Rattle.std.proofs.Common.{◌≡◌, ℕ, zero, suc, ◌-◌, Bool, true, cond, not, List, [], ◌∷◌, ◌++◌, map, length, take, is_some, Some, None, Option, refl, ap, ◌∙◌, ap₂, arith}
use Rattle.std.proofs.lemmas.List.{take-map, length-map}
use Rattle.std.proofs.lemmas.Grind.{common_steps}
use Rattle.std.proofs.lemmas.Bool.Decides.{nat_tests}
use Rattle.prefix.specs.Bits.{Bits}
use Rattle.prefix.proofs.Strings.{same_eq}
use Rattle.table.specs.Tables.{Entries, has, distinct, pick, at, holds, put}
use Rattle.table.proofs.Picks.{at_put, at_without}
use Rattle.table.proofs.Counts.{distinct_parts}
use Rattle.transition.specs.Writes.{Writing, Put, written, written_all, moment}
use Rattle.transition.specs.Plans.{changed, fresh, longest_first, shortest_first, sorted_by, dropping, plan}
use Rattle.std.specs.Option.{option_or}
use Rattle.transition.proofs.Lines.{is_hop, passed, has_at, at_none, holds_at, distinct_take, distinct_kept, at_kept, at_sorted, distinct_sorted}

-- some writes and then others
pub written_append : (us vs : List Writing) (t : Entries) → written_all (us ++ vs) t ≡ written_all vs (written_all us t)
unfolding written_all
written_append [] vs t = refl
written_append (u ∷ us) vs t = written_append us vs (written u t)

-- lines that are put stand over what was there
pub puts_at : (p : Bits) (es t : Entries) → distinct es ≡ true → at (written_all (map Put es) t) p ≡ option_or (at es p) (at t p)
unfolding written_all pick
puts_at p [] t d = refl
puts_at p (e ∷ es) t d =
    let s = distinct_parts e es d in
    let ih = puts_at p es (put e t) s.1 in
    grind (arith, common_steps, same_eq p e.prefix, at_none p es, at_put e t p)

-- lines that are dropped are gone, and the others as they were
pub drops_at : (p : Bits) (fs t : Entries) → at (written_all (map dropping fs) t) p ≡ cond (has p fs) None (at t p)
unfolding written_all has
drops_at p [] t = refl
drops_at p (f ∷ fs) t =
    let ih = drops_at p fs (written (dropping f) t) in grind (arith, common_steps, at_without f.prefix t p)

module _ {X : Type 0} where
  pub take_append : (k : ℕ) (xs ys : List X) → take k (xs ++ ys) ≡ take k xs ++ take (k - length xs) ys
  take_append zero xs ys = let e : 0 - length xs ≡ 0 = omega arith in rw e
  take_append (suc k) [] ys = let e : suc k - 0 ≡ suc k = omega arith in rw e
  take_append (suc k) (x ∷ xs) ys =
      let e : suc k - suc (length xs) ≡ k - length xs = omega arith in
      rw e (ap (λ (zs : List X). x ∷ zs) (take_append k xs ys))

-- the lines that a plan puts, and those that it drops, in their order
abbrev pub putting : Entries → Entries → Entries
putting old new = sorted_by longest_first (changed old new)

abbrev pub leaving : Entries → Entries → Entries
leaving old new = sorted_by shortest_first (fresh new old)

pub distinct_putting : (old new : Entries) → distinct new ≡ true → distinct (putting old new) ≡ true
distinct_putting old new d = distinct_sorted longest_first (changed old new) (distinct_kept (λ e. not (holds e old)) new d)

pub distinct_leaving : (old new : Entries) → distinct old ≡ true → distinct (leaving old new) ≡ true
distinct_leaving old new d = distinct_sorted shortest_first (fresh new old) (distinct_kept (λ e. not (has e.prefix new)) old d)

-- the first k writes of a plan are the first k puts, and then the first drops
pub take_plan : (old new : Entries) (k : ℕ) →
    take k (plan old new) ≡ map Put (take k (putting old new)) ++ map dropping (take (k - length (putting old new)) (leaving old new))
take_plan old new k =
    take_append k (map Put (putting old new)) (map dropping (leaving old new))
    ∙ ap₂ (λ (us vs : List Writing). us ++ vs) (take-map Put k (putting old new))
    (ap (λ n. take (k - n) (map dropping (leaving old new))) (length-map (putting old new) Put) ∙ take-map dropping (k - length (putting old new)) (leaving old new))

pub moment_at : (old new : Entries) → distinct new ≡ true → (k : ℕ) (p : Bits) →
    at (moment (plan old new) old k) p ≡ cond (has p (take (k - length (putting old new)) (leaving old new))) None (option_or (at (take k (putting old new)) p) (at old p))
moment_at old new d k p =
    let es = take k (putting old new) in
    let fs = take (k - length (putting old new)) (leaving old new) in
    ap (λ (us : List Writing). at (written_all us old) p) (take_plan old new k)
    ∙ ap (λ (t : Entries). at t p) (written_append (map Put es) (map dropping fs) old)
    ∙ drops_at p fs (written_all (map Put es) old)
    ∙ ap (λ (o : Option ℕ). cond (has p fs) None o) (puts_at p es old (distinct_take k (putting old new) (distinct_putting old new d)))

-- both tables at one prefix: o is what the old one has, and n the new one

abbrev pub changed_of : Option ℕ → Option ℕ → Option ℕ
changed_of o None = None
changed_of o (Some x) = cond (not (is_hop x o)) (Some x) None

abbrev pub fresh_of : Option ℕ → Option ℕ → Option ℕ
fresh_of o None = None
fresh_of o (Some x) = cond (not (is_some o)) (Some x) None

changed_passed : (old : Entries) (p : Bits) (n : Option ℕ) → distinct old ≡ true → passed (λ e. not (holds e old)) p n ≡ changed_of (at old p) n
changed_passed old p None d = refl
changed_passed old p (Some x) d = rw (holds_at (record { prefix = p; hop = x }) old d)

fresh_passed : (old : Entries) (p : Bits) (n : Option ℕ) → passed (λ e. not (has e.prefix old)) p n ≡ fresh_of (at old p) n
fresh_passed old p None = refl
fresh_passed old p (Some x) = rw (has_at p old)

pub changed_at : (old new : Entries) (p : Bits) → distinct old ≡ true → distinct new ≡ true → at (changed old new) p ≡ changed_of (at old p) (at new p)
changed_at old new p d e = at_kept (λ l. not (holds l old)) p new e ∙ changed_passed old p (at new p) d

pub fresh_at : (old new : Entries) (p : Bits) → distinct new ≡ true → at (fresh old new) p ≡ fresh_of (at old p) (at new p)
fresh_at old new p e = at_kept (λ l. not (has l.prefix old)) p new e ∙ fresh_passed old p (at new p)

pub putting_at : (old new : Entries) (p : Bits) → distinct old ≡ true → distinct new ≡ true → at (putting old new) p ≡ changed_of (at old p) (at new p)
putting_at old new p d e = at_sorted longest_first p (changed old new) (distinct_kept (λ l. not (holds l old)) new e) ∙ changed_at old new p d e

pub leaving_at : (old new : Entries) (p : Bits) → distinct old ≡ true → at (leaving old new) p ≡ fresh_of (at new p) (at old p)
leaving_at old new p d = at_sorted shortest_first p (fresh new old) (distinct_kept (λ l. not (has l.prefix new)) old d) ∙ fresh_at new old p d

-- what was there already is as good as put
overlay_is : (o n : Option ℕ) → option_or (changed_of o n) o ≡ option_or n o
overlay_is o None = refl
overlay_is None (Some x) = refl
overlay_is (Some y) (Some x) = grind (arith, common_steps, nat_tests)

pub overlay : (old new : Entries) (p : Bits) → distinct old ≡ true → distinct new ≡ true → option_or (at (putting old new) p) (at old p) ≡ option_or (at new p) (at old p)
overlay old new p d e = ap (λ (x : Option ℕ). option_or x (at old p)) (putting_at old new p d e) ∙ overlay_is (at old p) (at new p)

end_is : (o n : Option ℕ) → cond (is_some (fresh_of n o)) None (option_or n o) ≡ n
end_is None None = refl
end_is None (Some x) = refl
end_is (Some y) None = refl
end_is (Some y) (Some x) = refl

-- when all is dropped that has to be, the new table stands
pub ended : (old new : Entries) (p : Bits) → distinct old ≡ true → distinct new ≡ true →
    cond (has p (leaving old new)) None (option_or (at (putting old new) p) (at old p)) ≡ at new p
ended old new p d e =
    ap₂ (λ (b : Bool) (o : Option ℕ). cond b None o) (has_at p (leaving old new) ∙ ap is_some (leaving_at old new p d)) (overlay old new p d e) ∙ end_is (at old p) (at new p)
