use Rattle.std.proofs.Common.{◌<◌, length, take, sym, ap, ◌∙◌}
use Rattle.prefix.specs.Bits.{Bits, common}
use Rattle.prefix.specs.Model.{address_bits, bits}
use Rattle.table.specs.Model.{entries}
use Rattle.table.proofs.Longest.{Narrowed}
use Rattle.table.proofs.Steps.{step_none, step_found, step_shorter}
use Rattle.table.proofs.table.Table.lookup.Goals as goal

pub returns-in_err-last : goal.returns-in_err-last
returns-in_err-last c = c.from_residual.ensures ∙ step_none c.args.self.now (address_bits c.args.address) (bits c.shorter.key) c.shorter.invariant c.in_err-last.ensures

pub returns-then-shared-len : goal.returns-then-shared-len
returns-then-shared-len c =
    step_found c.args.self.now (address_bits c.args.address) (bits c.shorter.key) c.shorter.invariant c.in_ok-last.last c.in_ok-last.ensures
    c.index-route.result.now c.common-shared.result c.index-route.ensures
    (c.common-shared.ensures ∙ ap (λ (b : Bits). common (bits c.index-route.result.now.prefix) b) c.host-host.ensures.value)
    (c.if-shared-len.true ∙ c.len.ensures)

-- the next turn's key
next : (c : goal.After-cut-key) → Narrowed (entries c.args.self.now) (address_bits c.args.address) (bits c.cut-key.result) × (length (bits c.cut-key.result) < length (bits c.shorter.key))
next c =
    step_shorter c.args.self.now (address_bits c.args.address) (bits c.shorter.key) c.shorter.invariant c.in_ok-last.last c.in_ok-last.ensures
    c.index-route.result.now c.common-shared.result c.index-route.ensures
    (c.common-shared.ensures ∙ ap (λ (b : Bits). common (bits c.index-route.result.now.prefix) b) c.host-host.ensures.value)
    (λ e. c.if-shared-len.false (e ∙ sym c.len.ensures))
    (bits c.cut-key.result) (c.cut-key.ensures.value ∙ ap (take c.common-shared.result) c.host-host.ensures.value)

pub shorter-preserved : goal.shorter-preserved
shorter-preserved c = (next c).0

pub shorter-smaller : goal.shorter-smaller
shorter-smaller c = (next c).1
