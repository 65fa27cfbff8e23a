-- The vectors of a table: what they hold after a change at a place, and what that does to its lines. Assumes nothing.
use Rattle.std.proofs.Common.{◌≡◌, ℕ, ◌<◌, true, List, [], ◌∷◌, map, length, get_or, set, vec_items, Some, None, Ok, Err, Result, sym, refl, ap, ◌∙◌, arith}
use Rattle.std.specs.Result.{result_ok}
use Rattle.std.specs.List.{insert, remove}
use Rattle.std.proofs.lemmas.List.{length-map, map-set}
use Rattle.std.proofs.lemmas.Bool.{and_from, le-leb}
use Rattle.prefix.specs.Bits.{Bits}
use Rattle.prefix.specs.Model.{bits}
use Rattle.table.specs.declared.route.Route.{Route}
use Rattle.table.specs.declared.table.Table.{Table}
use Rattle.table.specs.Tables.{Entry, fits, at, put, without, rising, every}
use Rattle.table.specs.Routes.{entry_of, network_of}
use Rattle.table.specs.Search.{Located, Stands, Missing}
use Rattle.table.specs.Model.{entries, AllSound}
use Rattle.table.proofs.Rising.{rising_distinct, rising_put, rising_without}
use Rattle.table.proofs.Places.{standing, lacking, key_short, map_inserted, map_removed, networks_stay, entry_at_lem}

-- a place of a line is one of a route
pub place : (t : Table) (i : ℕ) → i < length (entries t) → i < length (vec_items t.routes)
place t i h = omega (arith, length-map (vec_items t.routes) entry_of)

-- what a search tells that is asked only where the line of p stands
module _ (t : Table) (p : Bits) where
  pub stands : (r : Result ℕ ℕ) (i : ℕ) → Located (entries t) p r → Some i ≡ result_ok r → Stands (entries t) p i
  stands (Ok j) i s e = let same : i ≡ j = cc in rw same s
  stands (Err j) i m e = absurd (cc)

  pub lacks : (r : Result ℕ ℕ) → Located (entries t) p r → None ≡ result_ok r → (None ≡ at (entries t) p) × (entries t ≡ without p (entries t))
  lacks (Ok j) s e = absurd (cc)
  lacks (Err j) m e = let l = lacking (entries t) p j m in (sym l.none, sym l.leaves)

-- what a table's vectors must satisfy
abbrev pub Sound : List Route → List ℕ → Type 0
Sound rs ns = record { ordered : rising (map entry_of rs) ≡ true; indexed : ns ≡ map network_of rs }

module _ (t : Table) where
  -- a route that stands, put over by another, and taken away
  module _ (p : Bits) (i : ℕ) (s : Stands (entries t) p i) where
    pub gives : (r : Route) → r ≡ get_or (vec_items t.routes) i r → Some r.next_hop ≡ at (entries t) p
    gives r e = sym ((standing (entries t) p i t.ordered s).gives ∙ ap (λ (x : Entry). Some x.hop) (entry_at_lem (vec_items t.routes) i r (place t i s.within) e))

    pub gone_is : map entry_of (remove (vec_items t.routes) i) ≡ without p (entries t)
    gone_is = map_removed entry_of (vec_items t.routes) i ∙ sym (standing (entries t) p i t.ordered s).leaves

    pub gone_sound : (rs : List Route) (ns : List ℕ) → rs ≡ remove (vec_items t.routes) i → ns ≡ remove (vec_items t.networks) i → Sound rs ns
    gone_sound rs ns e f =
        rw (e, f) (record {
          ordered = rw gone_is (rising_without p (entries t) t.ordered);
          indexed = ap (λ (ns : List ℕ). remove ns i) t.indexed ∙ sym (map_removed network_of (vec_items t.routes) i);
        })

  module _ (r : Route) (i : ℕ) (s : Stands (entries t) (bits r.prefix) i) where
    pub over_is : map entry_of (set (vec_items t.routes) i r) ≡ put (entry_of r) (entries t)
    over_is = map-set entry_of (vec_items t.routes) i r ∙ sym ((standing (entries t) (bits r.prefix) i t.ordered s).puts r.next_hop)

    pub over_sound : Sound (set (vec_items t.routes) i r) (vec_items t.networks)
    over_sound =
        record {
          ordered = rw over_is (rising_put (entry_of r) (entries t) t.ordered);
          indexed = t.indexed ∙ sym (networks_stay (vec_items t.routes) i r s);
        }

  -- a route put between others
  module _ (r : Route) (i : ℕ) (m : Missing (entries t) (bits r.prefix) i) where
    pub between_is : map entry_of (insert (vec_items t.routes) i r) ≡ put (entry_of r) (entries t)
    between_is = map_inserted entry_of (vec_items t.routes) i r ∙ sym ((lacking (entries t) (bits r.prefix) i m).puts r.next_hop)

    pub between_sound : (rs : List Route) (ns : List ℕ) → rs ≡ insert (vec_items t.routes) i r → ns ≡ insert (vec_items t.networks) i (network_of r) → Sound rs ns
    between_sound rs ns e f =
        rw (e, f) (record {
          ordered = rw between_is (rising_put (entry_of r) (entries t) t.ordered);
          indexed = ap (λ (ns : List ℕ). insert ns i (network_of r)) t.indexed ∙ sym (map_inserted network_of (vec_items t.routes) i r);
        })

-- every table is sound

fits_all : (rs : List Route) → fits 32 (map entry_of rs) ≡ true
unfolding every
fits_all [] = refl
fits_all (r ∷ rs) =
    and_from _ _ (and_from _ _ (le-leb _ _ (key_short r.prefix)) (le-leb _ _ r.octet)) (fits_all rs)

pub all_sound : AllSound
all_sound t = (and_from _ _ (rising_distinct (entries t) t.ordered) (fits_all (vec_items t.routes)), t.ordered)
