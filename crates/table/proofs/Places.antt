-- Rising tables by places: where a prefix stands or would stand, and what puts and drops do there. Assumes nothing.
use Rattle.std.proofs.Common.{◌≡◌, ℕ, zero, suc, ◌+◌, ◌<◌, ◌≤◌, true, false, not, ltb, leb, List, [], ◌∷◌, map, length, get_or, set, Some, None, sym, refl, ap, ◌∙◌, inl, inr, arith}
use Rattle.std.specs.List.{insert as inserted, remove}
use Rattle.std.proofs.lemmas.List.{get_or-map, length-map, map-append, map-set, set-get_or, take-map, drop-map}
use Rattle.std.proofs.lemmas.Bool.{and_from, cases_Bool, or_parts}
use Rattle.std.proofs.lemmas.Bool.Decides.{nat_tests}
use Rattle.prefix.specs.Bits.{Bits, same, before, number}
use Rattle.prefix.specs.Model.{bits}
use Rattle.prefix.proofs.Strings.{same_refl}
use Rattle.prefix.proofs.Order.{before_not, before_total, before_trans, before_differ, differ_turn}
use Rattle.prefix.specs.declared.cidr.Prefix.{Prefix}
use Rattle.prefix.proofs.Numbers.{by_number}
use Rattle.prefix.proofs.Meaning.{bits_length}
use Rattle.table.specs.declared.route.Route.{Route}
use Rattle.table.specs.Tables.{Entry, Entries, has, pick, at, without, insert, put, leads, rising, every}
use Rattle.table.specs.Routes.{entry_of, network_of}
use Rattle.table.specs.Search.{entry_at, prefix_at, Ranked, Stands, Missing}
use Rattle.table.proofs.Picks.{without_none}
use Rattle.table.proofs.Rising.{leads_parts, leads_has, rising_parts}

-- the lines of the code's routes

pub entry_at_lem : (rs : List Route) (k : ℕ) (r : Route) → k < length rs → r ≡ get_or rs k r → entry_at (map entry_of rs) k ≡ entry_of r
entry_at_lem rs k r h e = get_or-map entry_of rs k r (record { prefix = []; hop = 0 }) h ∙ ap entry_of (sym e)

pub network_at : (rs : List Route) (k : ℕ) → k < length rs → get_or (map network_of rs) k 0 ≡ number 32 (prefix_at (map entry_of rs) k)
network_at [] k h = absurd (omega arith)
network_at (r ∷ rs) zero h = refl
network_at (r ∷ rs) (suc k) h = network_at rs k (omega arith)

pub key_short : (p : Prefix) → length (bits p) ≤ 32
key_short p = omega (arith, bits_length p, p.short)

pub prefix_short : (rs : List Route) (k : ℕ) → length (prefix_at (map entry_of rs) k) ≤ 32
prefix_short [] k = omega arith
prefix_short (r ∷ rs) zero = key_short r.prefix
prefix_short (r ∷ rs) (suc k) = prefix_short rs k

-- a comparison by numbers, and at equal ones by lengths

pub by_network : (w : ℕ) (p q : Bits) → length p ≤ w → length q ≤ w → (number w q ≡ number w p → ⊥) → ltb (number w q) (number w p) ≡ not (before p q)
by_network w p q h k n = let e = by_number w p q h k in grind (arith, nat_tests)

pub by_length : (w : ℕ) (p q : Bits) → length p ≤ w → length q ≤ w → number w q ≡ number w p → leb (length q) (length p) ≡ not (before p q)
by_length w p q h k n = let e = by_number w p q h k in grind (arith, nat_tests)

-- lines at two places

leads_at : (e : Entry) (t : Entries) (k : ℕ) → leads e t ≡ true → k < length t → before e.prefix (prefix_at t k) ≡ true
leads_at e [] k l h = absurd (omega arith)
leads_at e (f ∷ fs) zero l h = (leads_parts e f fs l).0
leads_at e (f ∷ fs) (suc k) l h = leads_at e fs k (leads_parts e f fs l).1 (omega arith)

pub rising_at : (t : Entries) (i j : ℕ) → rising t ≡ true → i < j → j < length t → before (prefix_at t i) (prefix_at t j) ≡ true
rising_at [] i j r h k = absurd (omega arith)
rising_at (e ∷ es) i zero r h k = absurd (omega arith)
rising_at (e ∷ es) zero (suc j) r h k = leads_at e es j (rising_parts e es r).0 (omega arith)
rising_at (e ∷ es) (suc i) (suc j) r h k = rising_at es i j (rising_parts e es r).1 (omega arith) (omega arith)

-- what does not come before the line at m comes before none up to there
pub low_side : (t : Entries) (p : Bits) (k m : ℕ) → rising t ≡ true → m < length t → before p (prefix_at t m) ≡ false → k ≤ m → before p (prefix_at t k) ≡ false
low_side t p k m r h n l = grind (arith, nat_tests, before_trans p (prefix_at t k) (prefix_at t m), rising_at t k m r, λ (e : k ≡ m). ap (prefix_at t) e)

-- what comes before the line at m comes before all from there on
pub high_side : (t : Entries) (p : Bits) (m k : ℕ) → rising t ≡ true → before p (prefix_at t m) ≡ true → m ≤ k → k < length t → before p (prefix_at t k) ≡ true
high_side t p m k r n l h = grind (arith, nat_tests, before_trans p (prefix_at t m) (prefix_at t k), rising_at t m k r, λ (e : m ≡ k). ap (prefix_at t) e)

-- what comes after the line at i comes after all up to there
pub all_below : (t : Entries) (p : Bits) (i : ℕ) → rising t ≡ true → i < length t → before (prefix_at t i) p ≡ true → (k : ℕ) → k < i + 1 → before (prefix_at t k) p ≡ true
all_below t p i r h l k y = grind (arith, nat_tests, before_trans (prefix_at t k) (prefix_at t i) p, rising_at t k i r, λ (e : k ≡ i). ap (prefix_at t) e)

-- where the last line that comes no later than p has another prefix, p would stand after it
pub missing_after : (t : Entries) (p : Bits) (i : ℕ) → rising t ≡ true → Ranked t p (i + 1) → (prefix_at t i ≡ p → ⊥) → Missing t p (i + 1)
missing_after t p i r k d =
    let w = k.within in
    let l : before (prefix_at t i) p ≡ true = (elim (cases_Bool (before (prefix_at t i) p)) [
      | inl y ↦ y
      | inr y ↦ absurd (d (before_total (prefix_at t i) p y (k.upto i (omega arith))))
    ]) in
    record { within = w; below = all_below t p i r (omega arith) l; above = k.after }

-- a line that comes before p stays in front, whatever is done at p
module _ (f : Entry) (fs : Entries) (p : Bits) (b : before f.prefix p ≡ true) where
  differs : same p f.prefix ≡ false
  differs = differ_turn f.prefix p (before_differ f.prefix p b)

  at_past : at (f ∷ fs) p ≡ at fs p
  unfolding pick
  at_past = rw differs

  without_past : without p (f ∷ fs) ≡ f ∷ without p fs
  unfolding without
  without_past = rw differs

  put_past : (h : ℕ) → put (record { prefix = p; hop = h }) (f ∷ fs) ≡ f ∷ put (record { prefix = p; hop = h }) fs
  unfolding insert
  put_past h = rw (without_past, before_not f.prefix p b)

-- a line that comes before all others is put in front of them
insert_front : (e : Entry) (t : Entries) → leads e t ≡ true → insert e t ≡ e ∷ t
unfolding insert
insert_front e [] l = refl
insert_front e (f ∷ fs) l = rw (leads_parts e f fs l).0

put_front : (e : Entry) (t : Entries) → leads e t ≡ true → put e t ≡ e ∷ t
put_front e t l = rw (without_none e.prefix t (leads_has e t l)) (insert_front e t l)

-- a prefix that stands at i

pub record Standing (t : Entries) (p : Bits) (i : ℕ) : Type 0 where
  pub gives : at t p ≡ Some (entry_at t i).hop
  pub puts : (h : ℕ) → put (record { prefix = p; hop = h }) t ≡ set t i (record { prefix = p; hop = h })
  pub leaves : without p t ≡ remove t i

pub standing : (t : Entries) (p : Bits) (i : ℕ) → rising t ≡ true → Stands t p i → Standing t p i
unfolding pick without
standing [] p i r s = absurd (omega (arith, s.within))
standing (f ∷ fs) p zero r s =
    let q : p ≡ f.prefix = sym s.here in
    let l = (rising_parts f fs r).0 in
    rw q (record {
      gives = rw (same_refl f.prefix);
      puts = λ h. rw (same_refl f.prefix) (put_front (record { prefix = f.prefix; hop = h }) fs l);
      leaves = rw (same_refl f.prefix) (without_none f.prefix fs (leads_has f fs l));
    })
standing (f ∷ fs) p (suc i) r s =
    let w = s.within in
    let l = rising_parts f fs r in
    let ih = standing fs p i l.1 (record { within = omega arith; here = s.here }) in
    let b : before f.prefix p ≡ true = rw s.here at (leads_at f fs i l.0 (omega arith)) in
    record {
      gives = at_past f fs p b ∙ ih.gives;
      puts = λ h. put_past f fs p b h ∙ ap (λ (x : Entries). f ∷ x) (ih.puts h);
      leaves = without_past f fs p b ∙ ap (λ (x : Entries). f ∷ x) ih.leaves;
    }

-- a prefix that does not stand, and would at i

pub record Lacking (t : Entries) (p : Bits) (i : ℕ) : Type 0 where
  pub none : at t p ≡ None
  pub puts : (h : ℕ) → put (record { prefix = p; hop = h }) t ≡ inserted t i (record { prefix = p; hop = h })
  pub leaves : without p t ≡ t

has_at : (t : Entries) (p : Bits) → has p t ≡ false → at t p ≡ None
unfolding has pick
has_at [] p h = refl
has_at (e ∷ es) p h = let s = or_parts (same p e.prefix) (has p es) h in rw s.0 (has_at es p s.1)

leads_all : (e : Entry) (t : Entries) → ((k : ℕ) → k < length t → before e.prefix (prefix_at t k) ≡ true) → leads e t ≡ true
unfolding every
leads_all e [] h = refl
leads_all e (f ∷ fs) h = and_from _ _ (h zero (omega arith)) (leads_all e fs (λ k l. h (suc k) (omega arith)))

pub lacking : (t : Entries) (p : Bits) (i : ℕ) → Missing t p i → Lacking t p i
lacking t p zero m =
    let l = leads_all (record { prefix = p; hop = 0 }) t (λ k h. m.above k (omega arith) h) in
    let n = leads_has (record { prefix = p; hop = 0 }) t l in
    record { none = has_at t p n; puts = λ h. put_front (record { prefix = p; hop = h }) t l; leaves = without_none p t n }
lacking [] p (suc i) m = absurd (omega (arith, m.within))
lacking (f ∷ fs) p (suc i) m =
    let w = m.within in
    let ih = lacking fs p i (record { within = omega arith; below = λ k h. m.below (suc k) (omega arith); above = λ k h l. m.above (suc k) (omega arith) (omega arith) }) in
    let b : before f.prefix p ≡ true = m.below zero (omega arith) in
    record {
      none = at_past f fs p b ∙ ih.none;
      puts = λ h. put_past f fs p b h ∙ ap (λ (x : Entries). f ∷ x) (ih.puts h);
      leaves = without_past f fs p b ∙ ap (λ (x : Entries). f ∷ x) ih.leaves;
    }

-- lists of routes changed at a place, under a function of routes

module _ {X : Type 0} (f : Route → X) where
  pub map_inserted : (rs : List Route) (i : ℕ) (r : Route) → map f (inserted rs i r) ≡ inserted (map f rs) i (f r)
  map_inserted rs i r = simp (map-append, take-map, drop-map)

  pub map_removed : (rs : List Route) (i : ℕ) → map f (remove rs i) ≡ remove (map f rs) i
  map_removed rs i = simp (map-append, take-map, drop-map)

-- the networks of the routes stay where a route is put over another of the same prefix
pub networks_stay : (rs : List Route) (i : ℕ) (r : Route) → Stands (map entry_of rs) (bits r.prefix) i → map network_of (set rs i r) ≡ map network_of rs
networks_stay rs i r s =
    let h : i < length rs = omega (arith, s.within, length-map rs entry_of) in
    let e : network_of r ≡ get_or (map network_of rs) i 0 = ap (number 32) (sym s.here) ∙ sym (network_at rs i h) in
    map-set network_of rs i r ∙ ap (set (map network_of rs) i) e ∙ set-get_or (map network_of rs) i 0
