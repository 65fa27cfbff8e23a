use Rattle.std.proofs.Common.{sym, ap, ◌∙◌, arith}
use Rattle.std.proofs.lemmas.Bool.Decides.{nat_tests}
use Rattle.prefix.specs.Model.{bits}
use Rattle.prefix.proofs.Meaning.{faithful}
use Rattle.table.specs.Tables.{Entry}
use Rattle.table.specs.Model.{entries}
use Rattle.table.proofs.Places.{entry_at_lem, missing_after}
use Rattle.table.proofs.Held.{place}
use Rattle.table.proofs.table.Table.search.Goals as goal

pub returns-in-Some-2 : goal.returns-in-Some-2
returns-in-Some-2 c =
    let t = c.args.self.now in
    let r = c.index.result.now in
    missing_after (entries t) (bits c.args.prefix) c.in-Some.i t.ordered c.in-Some.ensures (λ e.
    let w = c.in-Some.ensures.within in
    let f = faithful r.prefix c.args.prefix (sym (ap (λ (x : Entry). x.prefix) (entry_at_lem t.routes.items c.in-Some.i r (place t c.in-Some.i (omega arith)) c.index.ensures)) ∙ e) in
    grind (arith, nat_tests))
