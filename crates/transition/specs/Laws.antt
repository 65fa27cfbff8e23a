-- What holds of plans, for tables of any width and any addresses; each statement is a theorem. Assumes nothing.
use Rattle.std.specs.Prelude.{◌≡◌, ℕ, ◌+◌, ◌<◌, ◌≤◌, true, false, not, ◌&&◌, ◌⊎◌, List, [], length, Some, filter}
use Rattle.std.specs.List.{slice_get}
use Rattle.prefix.specs.Bits.{Bits, Address, begins, same}
use Rattle.table.specs.Tables.{Entry, Entries, find, sends, has, holds, distinct, sound, rising}
use Rattle.table.specs.Laws.{SameLines}
use Rattle.table.specs.Limits.{device_limit}
use Rattle.transition.specs.Writes.{Writing, target, written_all, moment, works}
use Rattle.transition.specs.Plans.{changed, fresh, plan, together, crowded, Prescribed}

-- a way to plan: the writes from an old table to a new one
abbrev pub Planner : Type 0
Planner = Entries → Entries → List Writing

-- what an address finds after some writes depends only on those whose prefixes it begins with, in their order
abbrev pub OwnWrites : Type 0
OwnWrites = (us : List Writing) (t : Entries) (a : Bits) → find (written_all us t) a ≡ find (written_all (filter (λ u. begins (target u) a) us) t) a

-- so an address that begins with no prefix that is written notices nothing, at any moment
abbrev pub Untouched : Type 0
Untouched = (us : List Writing) (t : Entries) (a : Bits) → filter (λ u. begins (target u) a) us ≡ [] → (k : ℕ) → find (moment us t k) a ≡ find t a

-- no wrong moment: after any number of writes each address goes where it went before or where it goes after
abbrev pub NoWrongMoment : Planner → Type 0
NoWrongMoment f = (w : ℕ) (old new : Entries) → sound w old ≡ true → sound w new ≡ true → (k : ℕ) (a : Bits) → Address w a →
    (sends (moment (f old new) old k) a ≡ sends old a) ⊎ (sends (moment (f old new) old k) a ≡ sends new a)

-- once new, always new: of any two moments, an address goes the old way at the earlier or the new way at the later.
-- So one that no longer goes the old way goes the new way from then on
abbrev pub OnceNew : Planner → Type 0
OnceNew f = (w : ℕ) (old new : Entries) → sound w old ≡ true → sound w new ≡ true → (k m : ℕ) (a : Bits) → Address w a → k ≤ m →
    (sends (moment (f old new) old k) a ≡ sends old a) ⊎ (sends (moment (f old new) old m) a ≡ sends new a)

-- the same of all that a look-up finds, the length of the line too; of the tables it is asked only that no two lines of one have the same prefix
abbrev pub LookUpsOnce : Planner → Type 0
LookUpsOnce f = (old new : Entries) → distinct old ≡ true → distinct new ≡ true → (k m : ℕ) (a : Bits) → k ≤ m →
    (find (moment (f old new) old k) a ≡ find old a) ⊎ (find (moment (f old new) old m) a ≡ find new a)

-- at the end the table is the new one: the same lines, and as many
abbrev pub Ends : Type 0
Ends = (old new : Entries) → distinct old ≡ true → distinct new ≡ true →
    SameLines (written_all (plan old new) old) new × (length (written_all (plan old new) old) ≡ length new)

-- where both tables are in the order of tables, it is the new one, line for line
abbrev pub EndsRising : Type 0
EndsRising = (old new : Entries) → rising old ≡ true → rising new ≡ true → written_all (plan old new) old ≡ new

-- at no moment are there more lines than the old table and the new lines whose prefixes it does not have
abbrev pub NeverMore : Type 0
NeverMore = (old new : Entries) → distinct old ≡ true → distinct new ≡ true → (k : ℕ) → length (moment (plan old new) old k) ≤ together old new

-- so, where going over is not refused, a device never has to hold more lines than it can
abbrev pub WithinDevice : Type 0
WithinDevice = (old new : Entries) → distinct old ≡ true → distinct new ≡ true → crowded old new ≡ false → (k : ℕ) → length (moment (plan old new) old k) ≤ device_limit

-- it is refused exactly where both tables together have more than a device holds
abbrev pub CrowdedIs : Type 0
CrowdedIs = (old new : Entries) → (crowded old new ≡ true → device_limit < together old new) × (device_limit < together old new → crowded old new ≡ true)

-- no write is idle: each changes the table when its turn comes,
abbrev pub NoneIdle : Type 0
NoneIdle = (old new : Entries) → distinct old ≡ true → distinct new ≡ true →
    (k : ℕ) (u : Writing) → slice_get (plan old new) k ≡ Some u → works u (moment (plan old new) old k) ≡ true

-- and no prefix is written twice
abbrev pub NoneTwice : Type 0
NoneTwice = (old new : Entries) → distinct old ≡ true → distinct new ≡ true →
    (j k : ℕ) (u v : Writing) → j < k → slice_get (plan old new) j ≡ Some u → slice_get (plan old new) k ≡ Some v → same (target u) (target v) ≡ false

-- the plan is as the rules say, and no other list of writes is
abbrev pub PlanIs : Type 0
PlanIs = (old new : Entries) → distinct old ≡ true → distinct new ≡ true →
    Prescribed old new (plan old new) × ((us : List Writing) → Prescribed old new us → us ≡ plan old new)

-- it depends on nothing but what differs: on which lines are new, and which prefixes are gone
abbrev pub ByDifference : Type 0
ByDifference = (old new old' new' : Entries) → distinct old ≡ true → distinct new ≡ true → distinct old' ≡ true → distinct new' ≡ true →
    ((e : Entry) → (holds e new && not (holds e old)) ≡ (holds e new' && not (holds e old'))) →
    ((p : Bits) → (has p old && not (has p new)) ≡ (has p old' && not (has p new'))) →
    plan old new ≡ plan old' new'

-- how many writes it has
abbrev pub PlanCount : Type 0
PlanCount = (old new : Entries) → length (plan old new) ≡ length (changed old new) + length (fresh new old)

-- the lines of both tables together are as many one way as the other
abbrev pub BothWays : Type 0
BothWays = (old new : Entries) → distinct old ≡ true → distinct new ≡ true → together old new ≡ together new old

-- what holds of going over from old to new by some writes: every moment's look-ups are old or new, and once new stay new; the end is the new table;
-- the lines are bounded on the way; no write is idle; and no prefix is written twice
pub record Smooth (old new : Entries) (us : List Writing) : Type 0 where
  pub moments : (k : ℕ) (a : Bits) → (find (moment us old k) a ≡ find old a) ⊎ (find (moment us old k) a ≡ find new a)
  pub once : (k m : ℕ) (a : Bits) → k ≤ m → (find (moment us old k) a ≡ find old a) ⊎ (find (moment us old m) a ≡ find new a)
  pub end : written_all us old ≡ new
  pub few : (k : ℕ) → length (moment us old k) ≤ together old new
  pub busy : (k : ℕ) (u : Writing) → slice_get us k ≡ Some u → works u (moment us old k) ≡ true
  pub apart : (j k : ℕ) (u v : Writing) → j < k → slice_get us j ≡ Some u → slice_get us k ≡ Some v → same (target u) (target v) ≡ false

-- the plan between two tables in the order of tables is smooth
abbrev pub PlanIsSmooth : Type 0
PlanIsSmooth = (old new : Entries) → rising old ≡ true → rising new ≡ true → Smooth old new (plan old new)
