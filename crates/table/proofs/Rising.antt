-- Lines in their order: puts and drops keep it, and no two of them have the same prefix. Assumes nothing.
use Rattle.std.proofs.Common.{◌≡◌, true, false, [], ◌∷◌, refl, arith}
use Rattle.std.proofs.lemmas.Bool.{and_parts, and_from}
use Rattle.std.proofs.lemmas.Bool.Decides.{nat_tests}
use Rattle.prefix.specs.Bits.{Bits, before}
use Rattle.prefix.proofs.Order.{before_trans, before_differ, before_other}
use Rattle.table.specs.Tables.{Entry, Entries, every, has, distinct, without, insert, put, leads, rising}
use Rattle.table.specs.Laws.{StaysRising, RisingDistinct}
use Rattle.table.proofs.Picks.{has_without, every_parts, every_without, every_insert}

pub leads_parts : (e f : Entry) (fs : Entries) → leads e (f ∷ fs) ≡ true → (before e.prefix f.prefix ≡ true) × (leads e fs ≡ true)
leads_parts e f fs h = every_parts (λ g. before e.prefix g.prefix) f fs h

pub rising_parts : (e : Entry) (es : Entries) → rising (e ∷ es) ≡ true → (leads e es ≡ true) × (rising es ≡ true)
unfolding rising
rising_parts e es h = and_parts _ _ h

pub rising_from : (e : Entry) (es : Entries) → leads e es ≡ true → rising es ≡ true → rising (e ∷ es) ≡ true
unfolding rising
rising_from e es l h = and_from _ _ l h

pub leads_through : (e f : Entry) (fs : Entries) → before e.prefix f.prefix ≡ true → leads f fs ≡ true → leads e fs ≡ true
unfolding every
leads_through e f [] b h = refl
leads_through e f (g ∷ gs) b h = grind (arith, nat_tests, leads_through e f gs b, before_trans e.prefix f.prefix g.prefix b)

-- a line's prefix is not among those that it comes before
pub leads_has : (e : Entry) (es : Entries) → leads e es ≡ true → has e.prefix es ≡ false
unfolding every has
leads_has e [] h = refl
leads_has e (f ∷ fs) h = grind (arith, nat_tests, leads_has e fs, before_differ e.prefix f.prefix)

pub rising_distinct : RisingDistinct
unfolding distinct rising
rising_distinct [] h = refl
rising_distinct (e ∷ es) h = grind (arith, nat_tests, leads_has e es, rising_distinct es)

pub rising_without : (p : Bits) (t : Entries) → rising t ≡ true → rising (without p t) ≡ true
unfolding rising without
rising_without p [] h = h
rising_without p (e ∷ es) h = grind (arith, nat_tests, rising_without p es, every_without (λ f. before e.prefix f.prefix) p es)

rising_insert : (e : Entry) (t : Entries) → has e.prefix t ≡ false → rising t ≡ true → rising (insert e t) ≡ true
unfolding rising insert has every
rising_insert e [] n h = refl
rising_insert e (f ∷ fs) n h =
    grind (arith, nat_tests, rising_insert e fs, leads_through e f fs, before_other e.prefix f.prefix, every_insert (λ g. before f.prefix g.prefix) e fs)

pub rising_put : (e : Entry) (t : Entries) → rising t ≡ true → rising (put e t) ≡ true
rising_put e t h = rising_insert e (without e.prefix t) (has_without e.prefix t) (rising_without e.prefix t h)

pub stays_rising : StaysRising
stays_rising = (rising_put, rising_without)
