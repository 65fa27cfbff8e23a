-- What two prefixes have in common is what their network addresses have, as far as both go.
use Rattle.std.proofs.Common.{min, sym, ap, ◌∙◌}
use Rattle.prefix.specs.Bits.{bits_of}
use Rattle.prefix.proofs.Words.{common_leading}
use Rattle.prefix.proofs.Strings.{common_is, common_take}
use Rattle.prefix.proofs.cidr.Prefix.common.Goals as goal

pub returns : goal.returns
returns c =
    let p = c.args.self in
    let q = c.args.other in
    let e = common_is (bits_of 32 p.network) (bits_of 32 q.network) _ (common_leading 32 p.network q.network p.word q.word) in
    c.min-2.ensures ∙ ap (λ x. min x q.len) c.min.ensures ∙ ap (λ x. min (min x p.len) q.len) (sym e)
    ∙ sym (common_take p.len q.len (bits_of 32 p.network) (bits_of 32 q.network))
