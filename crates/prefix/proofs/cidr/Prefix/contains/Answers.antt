use Rattle.std.proofs.Common.{leb, sym, ap, ◌∙◌, arith}
use lib.Bits.{bit_xor}
use lib.Count.{count_leading_zeros}
use Rattle.prefix.specs.Bits.{bits_of}
use Rattle.prefix.proofs.Words.{common_leading, length_bits}
use Rattle.prefix.proofs.Strings.{common_is, begins_take}
use Rattle.prefix.proofs.cidr.Prefix.contains.Goals as goal

pub returns : goal.returns
returns c =
    let p = c.args.self in
    let a = c.args.address in
    let e = common_is (bits_of 32 p.network) (bits_of 32 a) _ (common_leading 32 p.network a p.word (omega arith)) in
    ap (λ x. leb x (count_leading_zeros 32 (bit_xor p.network a))) c.from.ensures ∙ ap (λ x. leb p.len x) (sym e)
    ∙ sym (begins_take p.len (bits_of 32 p.network) (bits_of 32 a) (omega (arith, p.short, length_bits 32 p.network)))
