use Rattle.std.proofs.Common.{◌≡◌, ℕ, suc, ◌+◌, ◌-◌, ◌*◌, ◌/◌, ◌%◌, ◌^◌, ◌<◌, Bool, take, ap, ◌∙◌, arith}
use mir.Val.{bool_byte}
use Rattle.std.proofs.lemmas.Nat.{shl_whole}
use Rattle.prefix.specs.declared.cidr.Prefix.{Prefix}
use Rattle.prefix.specs.Bits.{bits_of}
use Rattle.prefix.proofs.Meaning.{bits_length}
use Rattle.prefix.proofs.Joins.{join_fits, join_front, join_clean, bit_small}
use Rattle.prefix.proofs.cidr.Prefix.join.Goals as goal

-- the side bit in its place
side_word : (s : Bool) (n : ℕ) → n < 32 → (bool_byte s * 2 ^ (31 - n)) % 2 ^ 32 ≡ bool_byte s * 2 ^ (32 - suc n)
side_word s n h =
    let e : 32 - suc n ≡ 31 - n = omega arith in rw e (shl_whole (bool_byte s) 1 (31 - n) 32 (bit_small s) (omega arith))

-- what is added to the network address, as the code has it
module _ (p q : Prefix) (s : Bool) (side left right : ℕ) (room : p.len + q.len < 32)
    (is : side ≡ bool_byte s) (l : left ≡ (side * 2 ^ (31 - p.len)) % 2 ^ 32) (r : right ≡ q.network / 2 ^ (p.len + 1)) where
  added : left + right ≡ bool_byte s * 2 ^ (32 - suc p.len) + q.network / 2 ^ (p.len + 1)
  added =
      let a = l ∙ ap (λ x. (x * 2 ^ (31 - p.len)) % 2 ^ 32) is ∙ side_word s p.len (omega arith) in omega arith

  fits : p.network + (left + right) < 2 ^ 32
  fits = rw added (join_fits 32 p.len p.network q.network s (omega arith) p.word p.clean q.word)

pub returns-then-self-rest-ge32 : goal.returns-then-self-rest-ge32
returns-then-self-rest-ge32 c = omega (arith, bits_length c.args.self, bits_length c.args.rest)

pub overflow_add-network : goal.overflow_add-network
overflow_add-network c =
    let f = fits c.args.self c.args.rest c.args.side _ _ _ c.if-self-rest-ge32.false c.from.ensures c.shl.ensures c.shr.ensures in omega arith

pub overflow_add-network-2 : goal.overflow_add-network-2
overflow_add-network-2 c =
    let f = fits c.args.self c.args.rest c.args.side _ _ _ c.if-self-rest-ge32.false c.from.ensures c.shl.ensures c.shr.ensures in omega arith

pub invariant_of-result : goal.invariant_of-result
invariant_of-result c =
    let p = c.args.self in
    let q = c.args.rest in
    let f = fits p q c.args.side _ _ _ c.if-self-rest-ge32.false c.from.ensures c.shl.ensures c.shr.ensures in
    let e = added p q c.args.side _ _ _ c.if-self-rest-ge32.false c.from.ensures c.shl.ensures c.shr.ensures in
    record {
      word = f;
      short = omega arith;
      clean = rw e (join_clean 32 p.len p.network q.network c.args.side (omega arith) p.word p.clean q.word q.len (omega arith) q.clean);
    }

pub returns : goal.returns
returns c =
    let p = c.args.self in
    let q = c.args.rest in
    let e = added p q c.args.side _ _ _ c.if-self-rest-ge32.false c.from.ensures c.shl.ensures c.shr.ensures in
    ap (λ x. take (p.len + 1 + q.len) (bits_of 32 (p.network + x))) e
    ∙ join_front 32 p.len p.network q.network c.args.side (omega arith) p.word p.clean q.word q.len (omega arith)
