use Rattle.std.proofs.Common.{map, ap, ◌∙◌}
use Rattle.prefix.specs.Model.{bits}
use Rattle.table.specs.Routes.{entry_of}
use Rattle.table.proofs.Held.{stands, lacks, gives, gone_is, gone_sound}
use Rattle.table.proofs.table.Table.remove.Goals as goal

pub returns-in_err-i-clause-value : goal.returns-in_err-i-clause-value
returns-in_err-i-clause-value c = c.from_residual.ensures ∙ (lacks c.args.self.now (bits c.args.prefix) _ c.search.ensures c.in_err-i.ensures.value).0

pub returns-in_err-i-clause-after : goal.returns-in_err-i-clause-after
returns-in_err-i-clause-after c = (lacks c.args.self.now (bits c.args.prefix) _ c.search.ensures c.in_err-i.ensures.value).1

pub invariant_of-self : goal.invariant_of-self
invariant_of-self c =
    let s = stands c.args.self.now (bits c.args.prefix) _ c.in_ok-i.i c.search.ensures c.in_ok-i.ensures.value in
    gone_sound c.args.self.now _ _ s _ _ c.remove-2.ensures.items c.remove.ensures.items

pub returns-clause-value : goal.returns-clause-value
returns-clause-value c =
    let s = stands c.args.self.now (bits c.args.prefix) _ c.in_ok-i.i c.search.ensures c.in_ok-i.ensures.value in gives c.args.self.now _ _ s _ c.remove-2.ensures.value

pub returns-clause-after : goal.returns-clause-after
returns-clause-after c =
    let s = stands c.args.self.now (bits c.args.prefix) _ c.in_ok-i.i c.search.ensures c.in_ok-i.ensures.value in
    ap (map entry_of) c.remove-2.ensures.items ∙ gone_is c.args.self.now _ _ s
