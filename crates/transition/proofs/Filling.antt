-- Filling the front of a slice with the writes of a plan, length by length. Assumes nothing.
use Rattle.std.proofs.Common.{◌≡◌, ℕ, suc, ◌+◌, ◌-◌, ◌<◌, ◌≤◌, Bool, true, ◌&&◌, leb, List, [], ◌∷◌, ◌++◌, map, length, take, drop, filter, sym, ap, ◌∙◌, append-nil, arith}
use Rattle.std.specs.List.{AllByRecursion}
use Rattle.std.proofs.ByRecursion.{all_kept_by}
use Rattle.std.proofs.lemmas.List.{take_all, length-map, nil_from_length}
use Rattle.std.proofs.lemmas.Bool.{and_parts}
use Rattle.std.proofs.lemmas.Grind.{common_steps}
use Rattle.std.proofs.lemmas.Bool.Decides.{nat_tests}
use Rattle.prefix.specs.Bits.{before}
use Rattle.table.specs.declared.table.Table.{Table}
use Rattle.table.specs.declared.route.Route.{Route}
use Rattle.table.specs.Tables.{Entry, Entries, every, fits, rising, distinct}
use Rattle.table.specs.Routes.{entry_of}
use Rattle.table.specs.Model.{entries}
use Rattle.table.proofs.Picks.{every_parts}
use Rattle.table.proofs.Rising.{rising_parts}
use Rattle.table.proofs.Held.{all_sound}
use Rattle.transition.specs.declared.write.Write.{Write}
use Rattle.transition.specs.Writes.{Writing}
use Rattle.transition.specs.Passes.{GoesThrough}
use Rattle.transition.specs.Plans.{by_length, sorted_by}
use Rattle.transition.specs.Model.{writings_of}
use Rattle.transition.proofs.Lines.{length_sorted}
use Rattle.transition.proofs.Tiers.{tier, tiers, turns, sorted_turns}

-- A SLICE THAT IS FILLED

-- the first n of `out` are written, and `rest` is left to write
pub record Filled (total : List Writing) (out : List Write) (n : ℕ) (rest : List Writing) : Type 0 where
  pub front : writings_of (take n out) ++ rest ≡ total
  pub within : n ≤ length out

filled_length : (total : List Writing) (out : List Write) (n : ℕ) (rest : List Writing) → Filled total out n rest → n + length rest ≡ length total
filled_length total out n rest f =
    let d = ap length f.front in
    grind (arith, common_steps)

-- where as many are written as there are places and writes, all is written
filled_full : (total : List Writing) (out : List Write) (n : ℕ) (rest : List Writing) → Filled total out n rest → n ≡ length out → length out ≡ length total → writings_of out ≡ total
filled_full total out n rest f e h =
    let l = filled_length total out n rest f in
    let z : rest ≡ [] = nil_from_length rest (omega arith) in
    ap writings_of (sym (take_all n out (omega arith))) ∙ sym (append-nil (writings_of (take n out))) ∙ rw z at f.front

-- ROUTES GONE THROUGH LENGTH BY LENGTH

module _ (make : Entry → Writing) (test : Entry → Bool) (rs : List Route) where
  -- the writes for the routes that pass the test, of these lengths
  abbrev pub remaining : List ℕ → List Writing
  remaining ns = map make (tiers ns (filter test (map entry_of rs)))

  -- the writes for those of length n from the place i on, and then for those of other lengths
  abbrev pub partial : ℕ → List ℕ → ℕ → List Writing
  partial n ns i = map make (tier n (filter test (map entry_of (drop i rs))) ++ tiers ns (filter test (map entry_of rs)))

-- BY TURNS

-- so many turns as there are lengths
module _ (turns_in_all : ℕ) (make : Entry → Writing) (test : Entry → Bool) (rs : List Route) (f : ℕ → ℕ) where
  -- the writes from a turn on, and from the place i of the lines within a turn on
  abbrev pub at_turn : ℕ → List Writing
  at_turn n = remaining make test rs (turns f (turns_in_all - n) n)

  abbrev pub within_turn : ℕ → ℕ → List Writing
  within_turn n i = partial make test rs (f n) (turns f (turns_in_all - (n + 1)) (n + 1)) i

  pub turn_begins : (n : ℕ) → n < turns_in_all → at_turn n ≡ within_turn n 0
  unfolding tiers turns
  turn_begins n h =
      let e : turns_in_all - n ≡ suc (turns_in_all - (n + 1)) = omega arith in
      let z : n + 1 ≡ suc n = omega arith in
      rw (e, z)

  pub no_turn : (n : ℕ) → turns_in_all ≤ n → at_turn n ≡ []
  unfolding tiers turns
  no_turn n h = let e : turns_in_all - n ≡ 0 = omega arith in rw e

every_kept : (f g : Entry → Bool) (t : Entries) → every f t ≡ true → every f (filter g t) ≡ true
unfolding every
every_kept f g [] h = h
every_kept f g (e ∷ es) h =
    let s = every_parts f e es h in let ih = every_kept f g es s.1 in grind (arith, common_steps)

rising_kept : (g : Entry → Bool) (t : Entries) → rising t ≡ true → rising (filter g t) ≡ true
unfolding rising
rising_kept g [] h = h
rising_kept g (e ∷ es) h =
    let s = rising_parts e es h in let ih = rising_kept g es s.1 in grind (arith, common_steps, every_kept (λ f. before e.prefix f.prefix) g es)

fits_short : (t : Entries) → fits 32 t ≡ true → AllByRecursion (λ e. length e.prefix ≤ 32) t
fits_short [] h = tt
fits_short (e ∷ es) h =
    let s = every_parts (λ f. leb (length f.prefix) 32 && leb f.hop 255) e es h in
    (grind (arith, nat_tests, common_steps), fits_short es s.1)

-- all of a table's lines that pass the test are written, to as many places
module _ (first : ℕ → ℕ → Bool) (make : Entry → Writing) (test : Entry → Bool) (f : ℕ → ℕ) (through : GoesThrough 32 first f) (t : Table) (rs : List Route) (are : map entry_of rs ≡ entries t)
    (out : List Write) (n : ℕ) (long : length out ≡ length (filter test (entries t))) where
  turns_are : at_turn 33 make test rs f 0 ≡ map make (sorted_by (by_length first) (filter test (entries t)))
  turns_are =
      let short = fits_short (entries t) (and_parts (distinct (entries t)) (fits 32 (entries t)) (all_sound t).0).1 in
      ap (λ (es : Entries). map make (tiers (turns f 33 0) (filter test es))) are
      ∙ ap (map make) (sym (sorted_turns 32 first f through (filter test (entries t)) (all_kept_by test (λ e. length e.prefix ≤ 32) (entries t) short) (rising_kept test (entries t) t.ordered)))

  turns_count : length out ≡ length (at_turn 33 make test rs f 0)
  turns_count =
      long
      ∙ sym (ap length turns_are
      ∙ length-map (sorted_by (by_length first) (filter test (entries t))) make
      ∙ length_sorted (by_length first) (filter test (entries t)))

  -- no place is left
  pub all_places : (rest : List Writing) → Filled (at_turn 33 make test rs f 0) out n rest → n ≡ length out → writings_of out ≡ map make (sorted_by (by_length first) (filter test (entries t)))
  all_places rest d e = filled_full (at_turn 33 make test rs f 0) out n rest d e turns_count ∙ turns_are

  -- no turn is left
  pub all_turns : (k : ℕ) → 33 ≤ k → Filled (at_turn 33 make test rs f 0) out n (at_turn 33 make test rs f k) → writings_of out ≡ map make (sorted_by (by_length first) (filter test (entries t)))
  all_turns k h d =
      let e = rw (no_turn 33 make test rs f k h) at d in
      let l = filled_length (at_turn 33 make test rs f 0) out n [] e in
      let c = turns_count in
      all_places [] e (omega arith)
