-- Orders of writes that come near and are wrong, each refuted by an example. Assumes nothing.
use Rattle.std.specs.Prelude.{◌≡◌, ℕ, true, false, List, [], ◌∷◌, ◌++◌, map}
use Rattle.prefix.specs.Bits.{Bits, Address}
use Rattle.table.specs.Examples.{line}
use Rattle.table.specs.Tables.{Entries, sends, sound}
use Rattle.transition.specs.Writes.{Writing, Put, Drop, moment}
use Rattle.transition.specs.Plans.{changed, fresh, longest_first, shortest_first, sorted_by, dropping, puts, drops, plan}
use Rattle.transition.specs.Laws.{Planner, NoWrongMoment}

-- putting the shortest first
abbrev pub short_puts_first : Planner
short_puts_first old new = map Put (sorted_by shortest_first (changed old new)) ++ drops old new

-- dropping the longest first
abbrev pub long_drops_first : Planner
long_drops_first old new = puts old new ++ map dropping (sorted_by longest_first (fresh new old))

-- of two lists one and one, by turns, and then the rest of the longer
unfoldable pub turns : List Writing → List Writing → List Writing
turns [] vs = vs
turns (u ∷ us) [] = u ∷ us
turns (u ∷ us) (v ∷ vs) = u ∷ v ∷ turns us vs

-- putting and dropping by turns
abbrev pub by_turns : Planner
by_turns old new = turns (puts old new) (drops old new)

-- a line with next hop 0 put in place of a drop
abbrev pub zeroed : Writing → Writing
zeroed (Put e) = Put e
zeroed (Drop p) = Put (record { prefix = p; hop = 0 })

-- dropping lines by putting next hop 0
abbrev pub by_zeros : Planner
by_zeros old new = map zeroed (plan old new)

-- a wrong moment: after k writes an address of one bit goes to x, where it went neither before nor goes after
pub record Astray (f : Planner) (old new : Entries) (k : ℕ) (a : Bits) (x : ℕ) : Type 0 where
  pub old_sound : sound 1 old ≡ true
  pub new_sound : sound 1 new ≡ true
  pub address : Address 1 a
  pub goes : sends (moment (f old new) old k) a ≡ x
  pub not_old : sends old a ≡ x → ⊥
  pub not_new : sends new a ≡ x → ⊥

-- where each of them goes wrong
abbrev pub WrongMoments : Type 0
WrongMoments =
    -- 0 goes to 1 before and after; the shorter line, put first, sends it to 2
    Astray short_puts_first (line [] 1 ∷ []) (line [] 2 ∷ line (false ∷ []) 1 ∷ []) 1 (false ∷ []) 2 ×
    -- 0 goes to 2 and then nowhere; the longer line, dropped first, leaves it to the shorter
    Astray long_drops_first (line [] 1 ∷ line (false ∷ []) 2 ∷ []) [] 1 (false ∷ []) 1 ×
    -- 1 goes to 1 and then to 3; it is dropped between, since the line for all goes before the line for 1 comes
    Astray by_turns (line [] 1 ∷ []) (line (false ∷ []) 2 ∷ line (true ∷ []) 3 ∷ []) 2 (true ∷ []) 0 ×
    -- 0 goes to 2 and then to 1; the line that should be gone drops it
    Astray by_zeros (line (false ∷ []) 2 ∷ []) (line [] 1 ∷ []) 2 (false ∷ []) 0

-- so none of them is without a wrong moment
abbrev pub Refuted : Type 0
Refuted =
    (NoWrongMoment short_puts_first → ⊥) ×
    (NoWrongMoment long_drops_first → ⊥) ×
    (NoWrongMoment by_turns → ⊥) ×
    (NoWrongMoment by_zeros → ⊥)
