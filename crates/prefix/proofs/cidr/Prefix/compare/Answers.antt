use Rattle.std.proofs.Common.{arith}
use Rattle.std.proofs.lemmas.Bool.Decides.{nat_tests}
use Rattle.prefix.proofs.Meaning.{before_fields, same_fields}
use Rattle.prefix.proofs.cidr.Prefix.compare.Goals as goal

pub returns : goal.returns
returns c = rw (before_fields c.args.self c.args.other, same_fields c.args.self c.args.other) (grind (arith, nat_tests))
