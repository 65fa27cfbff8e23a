use Rattle.std.proofs.Common.{◌-◌, ◌≤◌, length, take, sym, ap, ◌∙◌, arith, length-take}
use Rattle.std.proofs.lemmas.List.{take-take}
use Rattle.prefix.specs.Bits.{bits_of}
use Rattle.prefix.specs.Model.{bits}
use Rattle.prefix.proofs.Meaning.{bits_cleared, cleared_mod}
use Rattle.prefix.proofs.cidr.Prefix.cut.Goals as goal

pub invariant_of-result : goal.invariant_of-result
invariant_of-result c =
    record {
      word = c.first_bits.type_inv;
      short = omega (arith, c.args.self.short);
      clean = rw c.first_bits.ensures (cleared_mod c.args.self.network (32 - c.args.len));
    }

pub returns : goal.returns
returns c =
    let p = c.args.self in
    let h : c.args.len ≤ 32 = omega (arith, p.short) in
    let e =
    ap (λ v. take c.args.len (bits_of 32 v)) c.first_bits.ensures ∙ bits_cleared 32 c.args.len p.network h
    ∙ sym (take-take c.args.len p.len (bits_of 32 p.network) (omega arith)) in
    record { value = e; long = ap length e ∙ length-take c.args.len (bits p) }
