-- The wrong moments of orders that come near. Assumes nothing.
use Rattle.std.proofs.Common.{◌≡◌, ℕ, ◌<◌, sym, refl, ◌∙◌, inl, inr, arith}
use Rattle.prefix.specs.Bits.{Bits, begins, same, before}
use Rattle.table.specs.Tables.{Entries, find, has, distinct, every, holds, without, insert}
use Rattle.transition.specs.Writes.{written_all}
use Rattle.transition.specs.Plans.{insert_by, sorted_by}
use Rattle.transition.specs.Laws.{Planner, NoWrongMoment}
use Rattle.transition.specs.NearMisses.{Astray, WrongMoments, Refuted, turns}

unequal : (x y : ℕ) → x < y → (x ≡ y) → ⊥
unequal x y h e = omega arith

above : (x y : ℕ) → y < x → (x ≡ y) → ⊥
above x y h e = omega arith

pub examples : WrongMoments
unfolding begins same before find has distinct every holds without insert written_all insert_by sorted_by turns
examples = (
  record { old_sound = refl; new_sound = refl; address = refl; goes = refl; not_old = unequal 1 2 (omega arith); not_new = unequal 1 2 (omega arith) },
  record { old_sound = refl; new_sound = refl; address = refl; goes = refl; not_old = above 2 1 (omega arith); not_new = unequal 0 1 (omega arith) },
  record { old_sound = refl; new_sound = refl; address = refl; goes = refl; not_old = above 1 0 (omega arith); not_new = above 3 0 (omega arith) },
  record { old_sound = refl; new_sound = refl; address = refl; goes = refl; not_old = above 2 0 (omega arith); not_new = above 1 0 (omega arith) },
)

refutes : (f : Planner) (old new : Entries) (k : ℕ) (a : Bits) (x : ℕ) → Astray f old new k a x → NoWrongMoment f → ⊥
refutes f old new k a x s h =
    elim (h 1 old new s.old_sound s.new_sound k a s.address) [
      | inl e ↦ s.not_old (sym e ∙ s.goes)
      | inr e ↦ s.not_new (sym e ∙ s.goes)
    ]

pub refuted : Refuted
refuted = (
  refutes _ _ _ _ _ _ examples.0,
  refutes _ _ _ _ _ _ examples.1,
  refutes _ _ _ _ _ _ examples.2,
  refutes _ _ _ _ _ _ examples.3,
)
