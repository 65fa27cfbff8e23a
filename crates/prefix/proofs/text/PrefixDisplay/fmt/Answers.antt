use Rattle.std.proofs.Common.{◌≡◌, ◌∷◌, ◌++◌, sym, ap, ◌∙◌, arith}
use Rattle.std.specs.Prelude.{codes}
use Rattle.std.specs.Fmt.{decimal}
use Rattle.std.specs.Int.{w32, to_be_bytes}
use Rattle.std.specs.Net.Addr.{IsIpv4OfBits, ipv4_octets}
use Rattle.std.specs.Net.Text.{ipv4_text}
use Rattle.std.specs.declared.net.ipv4_addr.Ipv4Addr.{Ipv4Addr}
use Rattle.prefix.specs.declared.cidr.Prefix.{Prefix}
use Rattle.prefix.specs.Text.{cidr_text}
use Rattle.prefix.proofs.text.PrefixDisplay.fmt.Goals as goal

by_address : (p : Prefix) (a : Ipv4Addr) → IsIpv4OfBits a p.network → cidr_text p ≡ ipv4_text (ipv4_octets a) ++ (47 ∷ decimal p.len)
unfolding cidr_text IsIpv4OfBits
by_address p a e =
    let slash : codes "/" ++ decimal p.len ≡ 47 ∷ decimal p.len = grind arith in
    ap (λ x. ipv4_text (to_be_bytes w32 p.network) ++ x) slash ∙ ap (λ o. ipv4_text o ++ (47 ∷ decimal p.len)) (sym e)

pub returns-clause-writes : goal.returns-clause-writes
returns-clause-writes g c = rw (by_address c.args.self.now _ c.from_bits-address.ensures) c.write.ensures.writes
