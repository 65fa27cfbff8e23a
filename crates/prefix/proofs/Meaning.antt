-- The code's prefixes as strings of bits. Assumes nothing.
use Rattle.std.proofs.Common.{◌≡◌, ℕ, ◌+◌, ◌-◌, ◌*◌, ◌/◌, ◌%◌, ◌^◌, ◌≤◌, ◌&&◌, ◌||◌, eqb, ltb, length, take, sym, ap, ◌∙◌, inl, inr, arith}
use Rattle.std.proofs.lemmas.Nat.{shl-shr, mod_low, pow_pos}
use Rattle.std.proofs.lemmas.List.{length-take-le}
use Rattle.std.proofs.lemmas.Bool.{cases_Bool, and_parts, and_from, eqb-true, eq-eqb, both_ways}
use Rattle.prefix.specs.declared.cidr.Prefix.{Prefix}
use Rattle.prefix.specs.Bits.{bits_of, number, before, same}
use Rattle.prefix.specs.Model.{bits}
use Rattle.prefix.specs.Laws.{Faithful}
use Rattle.prefix.proofs.Words.{length_bits, bits_front}
use Rattle.prefix.proofs.Numbers.{number_clean, by_number}
use Rattle.prefix.proofs.Strings.{same_refl, same_eq}

pub bits_length : (p : Prefix) → length (bits p) ≡ p.len
bits_length p = length-take-le p.len (bits_of 32 p.network) (omega (arith, p.short, length_bits 32 p.network))

pub bits_number : (p : Prefix) → number 32 (bits p) ≡ p.network
bits_number p = number_clean 32 p.len p.network p.short p.word p.clean

pub faithful : Faithful
faithful p q e = (sym (bits_number p) ∙ ap (number 32) e ∙ bits_number q, sym (bits_length p) ∙ ap length e ∙ bits_length q)

-- the first n bits of a number with the others cleared
pub bits_cleared : (w n v : ℕ) → n ≤ w → take n (bits_of w (v / 2 ^ (w - n) * 2 ^ (w - n))) ≡ take n (bits_of w v)
bits_cleared w n v h =
    bits_front w n (v / 2 ^ (w - n) * 2 ^ (w - n)) h ∙ ap (bits_of n) (shl-shr (v / 2 ^ (w - n)) (w - n)) ∙ sym (bits_front w n v h)

pub cleared_mod : (v k : ℕ) → v / 2 ^ k * 2 ^ k % 2 ^ k ≡ 0
cleared_mod v k = let e : v / 2 ^ k * 2 ^ k + 0 ≡ v / 2 ^ k * 2 ^ k = omega arith in rw e at (mod_low (v / 2 ^ k) k 0 (pow_pos k))

-- order and sameness by the fields

pub before_fields : (p q : Prefix) → before (bits p) (bits q) ≡ (ltb p.network q.network || (eqb p.network q.network && ltb p.len q.len))
before_fields p q =
    let lp = bits_length p in
    let lq = bits_length q in
    rw (bits_number p, bits_number q, lp, lq) at (by_number 32 (bits p) (bits q) (omega (arith, p.short)) (omega (arith, q.short)))

pub same_fields : (p q : Prefix) → same (bits p) (bits q) ≡ (eqb p.network q.network && eqb p.len q.len)
same_fields p q =
    elim (cases_Bool (eqb p.network q.network && eqb p.len q.len)) [
      | inl y ↦
          let s = and_parts (eqb p.network q.network) (eqb p.len q.len) y in
          let e = eqb-true _ _ s.0 in
          let f = eqb-true _ _ s.1 in
          let b : bits p ≡ bits q = ap (λ v. take p.len (bits_of 32 v)) e ∙ ap (λ n. take n (bits_of 32 q.network)) f in
          ap (same (bits p)) (sym b) ∙ same_refl (bits p) ∙ sym y
      | inr y ↦ rw y (elim (cases_Bool (same (bits p) (bits q))) [
        | inl z ↦
            let e = faithful p q (same_eq (bits p) (bits q) z) in
            absurd (both_ways (eqb p.network q.network && eqb p.len q.len) y (and_from _ _ (eq-eqb _ _ e.0) (eq-eqb _ _ e.1)))
        | inr z ↦ z
      ])
    ]
