-- How many lines a table has after a put or a drop, and that it stays sound. Assumes nothing.
use Rattle.std.proofs.Common.{◌≡◌, suc, true, false, [], ◌∷◌, length, refl, arith}
use Rattle.std.proofs.lemmas.Bool.{and_parts, and_from, not-true, not_from_false, le-leb}
use Rattle.std.proofs.lemmas.Bool.Decides.{nat_tests}
use Rattle.prefix.specs.Bits.{Bits, same}
use Rattle.prefix.proofs.Strings.{same_eq}
use Rattle.prefix.proofs.Order.{differ_turn}
use Rattle.table.specs.Tables.{Entry, Entries, has, distinct, fits, without, insert}
use Rattle.table.specs.Laws.{CountPut, CountWithout, StaysSound}
use Rattle.table.proofs.Picks.{has_without, has_fewer, without_none, every_without, every_insert}

pub distinct_parts : (e : Entry) (es : Entries) → distinct (e ∷ es) ≡ true → (has e.prefix es ≡ false) × (distinct es ≡ true)
unfolding distinct
distinct_parts e es h = let s = and_parts _ (distinct es) h in (not-true _ s.0, s.1)

pub distinct_from : (e : Entry) (es : Entries) → has e.prefix es ≡ false → distinct es ≡ true → distinct (e ∷ es) ≡ true
unfolding distinct
distinct_from e es h d = and_from _ _ (not_from_false _ h) d

-- counts

pub length_insert : (e : Entry) (t : Entries) → length (insert e t) ≡ suc (length t)
unfolding insert
length_insert e [] = refl
length_insert e (f ∷ fs) = grind (arith, nat_tests, length_insert e fs)

pub count_without : CountWithout
unfolding has without
count_without p [] d = refl
count_without p (e ∷ es) d =
    let s = distinct_parts e es d in
    grind (arith, nat_tests, count_without p es s.1, s.0, same_eq p e.prefix, without_none p es)

pub count_put : CountPut
count_put e t d = grind (arith, nat_tests, length_insert e (without e.prefix t), count_without e.prefix t d)

-- no two lines with the same prefix

pub distinct_without : (p : Bits) (t : Entries) → distinct t ≡ true → distinct (without p t) ≡ true
unfolding distinct without
distinct_without p [] d = d
distinct_without p (e ∷ es) d = grind (arith, nat_tests, distinct_without p es, has_fewer e.prefix p es)

pub has_insert : (p : Bits) (e : Entry) (t : Entries) → same p e.prefix ≡ false → has p t ≡ false → has p (insert e t) ≡ false
unfolding has insert
has_insert p e [] n h = grind (arith, nat_tests)
has_insert p e (f ∷ fs) n h = grind (arith, nat_tests, has_insert p e fs)

pub distinct_insert : (e : Entry) (t : Entries) → has e.prefix t ≡ false → distinct t ≡ true → distinct (insert e t) ≡ true
unfolding distinct insert has
distinct_insert e [] h d = refl
distinct_insert e (f ∷ fs) h d = grind (arith, nat_tests, distinct_insert e fs, has_insert f.prefix e fs, differ_turn e.prefix f.prefix)

pub stays_sound : StaysSound
stays_sound = (
  (λ w e t l x h.
      let s = and_parts (distinct t) (fits w t) h in
      and_from _ _ (distinct_insert e (without e.prefix t) (has_without e.prefix t) (distinct_without e.prefix t s.0))
      (every_insert _ e (without e.prefix t) (and_from _ _ (le-leb _ _ l) (le-leb _ _ x)) (every_without _ e.prefix t s.1))),
  λ w p t h.
      let s = and_parts (distinct t) (fits w t) h in
      and_from _ _ (distinct_without p t s.0) (every_without _ p t s.1),
)
