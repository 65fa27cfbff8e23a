use Rattle.std.proofs.Common.{length, ap, ◌∙◌, arith}
use Rattle.std.proofs.lemmas.List.{take_all}
use Rattle.prefix.specs.Bits.{bits_of}
use Rattle.prefix.proofs.Words.{length_bits}
use Rattle.prefix.proofs.cidr.Prefix.host.Goals as goal

pub returns : goal.returns
returns c =
    let e = take_all 32 (bits_of 32 c.args.address) (omega (arith, length_bits 32 c.args.address)) in
    record { value = e; long = ap length e ∙ length_bits 32 c.args.address }
