use Rattle.std.proofs.Common.{map, Some, vec_items, sym, ap, ◌∙◌, subst, arith}
use Rattle.std.specs.List.{insert}
use Rattle.std.proofs.lemmas.Result.{err_from_is_err_and}
use Rattle.prefix.specs.Model.{bits}
use Rattle.table.specs.declared.route.Route.{Route}
use Rattle.table.specs.Routes.{entry_of}
use Rattle.table.specs.Search.{Missing}
use Rattle.table.specs.Tables.{Entries, put}
use Rattle.table.specs.Model.{entries}
use Rattle.table.proofs.Places.{lacking}
use Rattle.table.proofs.Held.{gives, over_is, over_sound, between_is, between_sound}
use Rattle.table.proofs.table.Table.put.Goals as goal

-- over a route with the same prefix

pub invariant_of-self : goal.invariant_of-self
invariant_of-self c = rw c.replace-old.ensures.after (over_sound c.args.self.now c.args.route c.in-Ok.i c.in-Ok.ensures)

pub returns-in-Ok-clause-value : goal.returns-in-Ok-clause-value
returns-in-Ok-clause-value c = ap (λ (r : Route). Some r.next_hop) c.replace-old.ensures.value ∙ gives c.args.self.now _ _ c.in-Ok.ensures _ c.index_mut.ensures.value

pub returns-in-Ok-clause-after : goal.returns-in-Ok-clause-after
returns-in-Ok-clause-after c = rw c.replace-old.ensures.after (over_is c.args.self.now c.args.route c.in-Ok.i c.in-Ok.ensures)

-- where none has it

pub returns-in_err-reserve-in-Err-clause-full : goal.returns-in_err-reserve-in-Err-clause-full
returns-in_err-reserve-in-Err-clause-full c =
    rw (err_from_is_err_and c.from_residual.result c.from_residual.ensures.1).1 ((lacking (entries c.args.self.now) (bits c.args.route.prefix) _ c.in-Err.ensures).none, omega (arith, c.in_err-reserve-in-Err.ensures.cases))

pub invariant_of-self-in-Err : goal.invariant_of-self-in-Err
invariant_of-self-in-Err c =
    let u = c.reserve.new.self in
    let r = rw (c.insert-in-Err.ensures.succeeds (omega (arith, c.in_ok-reserve-in-Err.ensures.cases))) at c.insert-in-Err.ensures.items in
    let n = c.in_ok-insert-in-Err.ensures.items ∙ ap (insert (vec_items u.networks) c.in-Err.i) c.network.ensures in
    between_sound u c.args.route c.in-Err.i (subst (λ (t : Entries). Missing t (bits c.args.route.prefix) c.in-Err.i) (sym c.in_ok-reserve-in-Err.ensures.same) c.in-Err.ensures) _ _ r n

pub returns-in_ok-insert-in-Err-2-clause-value : goal.returns-in_ok-insert-in-Err-2-clause-value
returns-in_ok-insert-in-Err-2-clause-value c = sym (lacking (entries c.args.self.now) (bits c.args.route.prefix) _ c.in-Err.ensures).none

pub returns-in_ok-insert-in-Err-2-clause-after : goal.returns-in_ok-insert-in-Err-2-clause-after
returns-in_ok-insert-in-Err-2-clause-after c =
    let u = c.reserve.new.self in
    ap (map entry_of) c.in_ok-insert-in-Err-2.ensures.items
    ∙ between_is u c.args.route c.in-Err.i (subst (λ (t : Entries). Missing t (bits c.args.route.prefix) c.in-Err.i) (sym c.in_ok-reserve-in-Err.ensures.same) c.in-Err.ensures)
    ∙ ap (put (entry_of c.args.route)) c.in_ok-reserve-in-Err.ensures.same
