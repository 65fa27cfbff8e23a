-- Prefixes as people write them. Assumes nothing.
use Rattle.std.specs.Prelude.{ℕ, List, ◌++◌, codes}
use Rattle.std.specs.Fmt.{decimal}
use Rattle.std.specs.Int.{w32, to_be_bytes}
use Rattle.std.specs.Net.Text.{ipv4_text}
use Rattle.prefix.specs.declared.cidr.Prefix.{Prefix}

-- CIDR notation: the network address in dotted form, a slash, and the length, as 10.0.0.0/8
unfoldable pub cidr_text : Prefix → List ℕ
cidr_text p = ipv4_text (to_be_bytes w32 p.network) ++ (codes "/" ++ decimal p.len)
