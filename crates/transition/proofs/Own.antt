-- An address notices only writes of prefixes that it begins with. Assumes nothing.
use Rattle.std.proofs.Common.{◌≡◌, ℕ, false, cond, List, [], ◌∷◌, length, take, drop, Some, None, filter, Option, sym, refl, ap, ◌∙◌, arith}
use Rattle.std.proofs.lemmas.List.Elements.{filter-append}
use Rattle.std.proofs.lemmas.List.{take-append-drop, length-append, nil_from_length}
use Rattle.std.proofs.lemmas.Bool.{false_from_ne_true, cond-false, both_ways}
use Rattle.std.proofs.lemmas.Grind.{common_steps}
use Rattle.prefix.specs.Bits.{Bits, begins, same}
use Rattle.prefix.proofs.Strings.{same_eq}
use Rattle.prefix.proofs.Order.{begins_first}
use Rattle.table.specs.Tables.{Entries, find, at}
use Rattle.table.proofs.Picks.{at_put, at_without}
use Rattle.transition.specs.Writes.{Writing, Put, Drop, target, written, written_all}
use Rattle.transition.specs.Laws.{OwnWrites, Untouched}
use Rattle.transition.proofs.Stages.{top_upto}
use Rattle.transition.proofs.Moments.{view, find_view}

-- a write changes what stands at its own prefix, whatever stands elsewhere

same_written : (u : Writing) (t s : Entries) (p : Bits) → at t p ≡ at s p → at (written u t) p ≡ at (written u s) p
same_written (Put e) t s p h = at_put e t p ∙ ap (λ (o : Option ℕ). cond (same p e.prefix) (Some e.hop) o) h ∙ sym (at_put e s p)
same_written (Drop q) t s p h = at_without q t p ∙ ap (λ (o : Option ℕ). cond (same p q) None o) h ∙ sym (at_without q s p)

other_written : (u : Writing) (t : Entries) (p : Bits) → same p (target u) ≡ false → at (written u t) p ≡ at t p
other_written (Put e) t p h = at_put e t p ∙ cond-false (same p e.prefix) (Some e.hop) (at t p) h
other_written (Drop q) t p h = at_without q t p ∙ cond-false (same p q) None (at t p) h

not_begun : (a : Bits) (n : ℕ) (q : Bits) → begins q a ≡ false → same (take n a) q ≡ false
not_begun a n q h = false_from_ne_true (same (take n a) q) (λ y. both_ways (begins q a) h (rw (← same_eq (take n a) q y) (begins_first n a)))

module _ (a : Bits) where
  abbrev own : List Writing → List Writing
  own us = filter (λ u. begins (target u) a) us

  own_at : (n : ℕ) (us : List Writing) (t s : Entries) → at t (take n a) ≡ at s (take n a) → at (written_all us t) (take n a) ≡ at (written_all (own us) s) (take n a)
  unfolding written_all
  own_at n [] t s h = h
  own_at n (u ∷ us) t s h =
      let own_step = own_at n us (written u t) (written u s) in
      let other_step = own_at n us (written u t) s in
      grind (arith, common_steps, same_written u t s (take n a), other_written u t (take n a), not_begun a n (target u))

  none_own : (us : List Writing) (k : ℕ) → own us ≡ [] → own (take k us) ≡ []
  none_own us k h =
      let e = ap own (take-append-drop k us) in
      let p = filter-append (λ u. begins (target u) a) (take k us) (drop k us) in
      let z = ap length (sym p ∙ e ∙ h) in
      nil_from_length (own (take k us)) (omega (arith, length-append (own (take k us)) (own (drop k us))))

pub own_writes : OwnWrites
own_writes us t a =
    let vs = filter (λ u. begins (target u) a) us in
    find_view (written_all us t) a
    ∙ top_upto (view (written_all us t) a) (view (written_all vs t) a) (length a) (λ n _. own_at a n us t t refl)
    ∙ sym (find_view (written_all vs t) a)

pub untouched : Untouched
unfolding written_all
untouched us t a h k = own_writes (take k us) t a ∙ ap (λ (vs : List Writing). find (written_all vs t) a) (none_own a us k h)
