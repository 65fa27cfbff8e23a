-- Tables of the code: what they hold, and the steps of going through their routes. Assumes nothing.
use Rattle.std.proofs.Common.{◌≡◌, ℕ, ◌+◌, ◌≤◌, Bool, true, not, eqb, List, map, length, drop, Some, None, Option, filter, sym, refl, ◌∙◌, arith}
use Rattle.std.specs.Option.{option_eq}
use Rattle.std.proofs.lemmas.Bool.Decides.{nat_tests}
use Rattle.std.proofs.lemmas.List.Sums.{length-filter, count_by-le-length}
use Rattle.table.specs.declared.table.Table.{Table}
use Rattle.table.specs.declared.route.Route.{Route}
use Rattle.table.specs.Tables.{Entry, Entries, distinct, has, holds, at}
use Rattle.table.specs.Routes.{entry_of}
use Rattle.table.specs.Model.{entries}
use Rattle.table.proofs.Rising.{rising_distinct}
use Rattle.transition.specs.Plans.{changed, fresh}
use Rattle.transition.proofs.Lines.{is_hop, holds_at}
use Rattle.transition.proofs.Ending.{both_ways_alike}

pub apart : (t : Table) → distinct (entries t) ≡ true
apart t = rising_distinct (entries t) t.ordered

hop_eq : (x : ℕ) (o : Option ℕ) → option_eq eqb o (Some x) ≡ is_hop x o
hop_eq x None = refl
hop_eq x (Some y) = grind (arith, nat_tests)

-- what stands at a line's prefix is its next hop exactly where the table has the line
pub held_by : (e : Entry) (t : Table) → holds e (entries t) ≡ option_eq eqb (at (entries t) e.prefix) (Some e.hop)
held_by e t = holds_at e (entries t) (apart t) ∙ sym (hop_eq e.hop (at (entries t) e.prefix))

-- counting the routes of a new table that an old one has not: what is counted and what is left are all

abbrev left_over : (Entry → Bool) → List Route → ℕ → ℕ
left_over f rs i = length (filter f (map entry_of (drop i rs)))

abbrev pub unheld : Entries → Entry → Bool
unheld old e = not (holds e old)

abbrev pub unknown : Entries → Entry → Bool
unknown old e = not (has e.prefix old)

pub record Counting (old : Entries) (rs : List Route) (i changed fresh : ℕ) : Type 0 where
  pub changed_within : changed ≤ i
  pub fresh_within : fresh ≤ i
  pub changed_left : changed + left_over (unheld old) rs i ≡ left_over (unheld old) rs 0
  pub fresh_left : fresh + left_over (unknown old) rs i ≡ left_over (unknown old) rs 0

-- the counts of both tables

pub as_many_together : (old new : Table) → length (entries old) + length (fresh (entries old) (entries new)) ≡ length (entries new) + length (fresh (entries new) (entries old))
as_many_together old new = both_ways_alike (entries old) (entries new) (apart old) (apart new)

pub few_changed : (old new : Table) → length (changed (entries old) (entries new)) ≤ length (entries new)
few_changed old new = rw length-filter (count_by-le-length (unheld (entries old)) (entries new))
