use Rattle.std.proofs.Common.{◌≡◌, suc, ◌-◌, false, Some, sym, ap, ◌∙◌, arith}
use Rattle.std.proofs.lemmas.Option.{slice_get-get_or}
use Rattle.std.proofs.lemmas.List.{get_or-take}
use Rattle.prefix.specs.Bits.{bits_of, odd}
use Rattle.prefix.specs.Model.{bits}
use Rattle.prefix.proofs.Words.{bits_at}
use Rattle.prefix.proofs.Meaning.{bits_length}
use Rattle.prefix.proofs.cidr.Prefix.bit.Goals as goal

pub returns : goal.returns
returns c =
    let p = c.args.self in
    let i = c.args.place in
    let s = p.short in
    let e : 32 - suc c.args.place ≡ 31 - c.args.place = omega arith in
    let b = rw e at (bits_at 32 i p.network false (omega arith)) in
    ap (λ x. Some (odd x)) c.shr.ensures
    ∙ ap Some (sym b ∙ sym (get_or-take p.len (bits_of 32 p.network) i false c.if-place-self.false))
    ∙ sym (slice_get-get_or (bits p) i false (omega (arith, bits_length p)))
