use Rattle.std.proofs.Common.{◌≡◌, true, false, [], ◌∷◌, refl, arith}
use Rattle.prefix.specs.Bits.{Bits, Address, begins, same, before}
use Rattle.table.specs.Tables.{find, sends, has, distinct, every, pick, without, insert, rising}
use Rattle.table.specs.Examples.{line}
use Rattle.table.proofs.laws.tables_by_example.Goals as goal

-- the whole and its two halves, at addresses of one bit
halves : (a : Bits) → Address 1 a → sends (line [] 3 ∷ []) a ≡ sends (line (false ∷ []) 3 ∷ line (true ∷ []) 3 ∷ []) a
unfolding begins find
halves [] h = absurd (omega arith)
halves (true ∷ []) h = refl
halves (false ∷ []) h = refl
halves (x ∷ y ∷ a) h = absurd (omega arith)

pub returns : goal.returns
unfolding begins same before find has distinct every pick without insert rising
returns c = record {
  lookups = (refl, refl, refl, refl, refl, refl, refl, refl, refl, refl);
  changes = (refl, refl, refl, refl, refl, refl, refl, refl, refl, refl, refl, refl);
  sending = (
    (λ a _. refl),
    refl,
    (λ h. omega (arith, h (true ∷ true ∷ []) refl)),
    halves,
    λ h. omega (arith, h (false ∷ []) refl),
  );
}
