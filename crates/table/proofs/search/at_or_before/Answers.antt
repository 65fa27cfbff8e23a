use Rattle.std.proofs.Common.{leb, map, length, get_or, sym, ap, ◌∙◌, arith}
use Rattle.std.proofs.lemmas.List.{length-map}
use Rattle.prefix.specs.Model.{bits}
use Rattle.table.specs.declared.route.Route.{Route}
use Rattle.table.specs.Routes.{entry_of, network_of}
use Rattle.table.specs.Search.{prefix_at}
use Rattle.table.specs.Tables.{Entry}
use Rattle.table.proofs.Places.{entry_at_lem, network_at, prefix_short, key_short, by_network, by_length}
use Rattle.table.proofs.search.at_or_before.Goals as goal

pub bounds-networks-place : goal.bounds-networks-place
bounds-networks-place c = omega (arith, c.requires.within, ap length c.requires.indexed, length-map c.args.routes.now network_of)

pub returns-then-network : goal.returns-then-network
returns-then-network c =
    let rs = c.args.routes.now in
    let i = c.args.place in
    let p = bits c.args.key in
    let q = prefix_at (map entry_of rs) i in
    let n = ap (λ xs. get_or xs i 0) c.requires.indexed ∙ network_at rs i c.requires.within in
    rw (n, c.network-then-network.ensures)
    (by_network 32 p q (key_short c.args.key) (prefix_short rs i) (λ e. c.if-network.true (n ∙ e ∙ sym c.network.ensures)))

pub returns : goal.returns
returns c =
    let rs = c.args.routes.now in
    let i = c.args.place in
    let p = bits c.args.key in
    let q = prefix_at (map entry_of rs) i in
    let n = ap (λ xs. get_or xs i 0) c.requires.indexed ∙ network_at rs i c.requires.within in
    let e = ap (λ (x : Entry). length x.prefix) (entry_at_lem rs i c.index-routes-place.result c.requires.within c.index-routes-place.is) in
    ap (λ x. leb x c.len-2.result) (c.len.ensures ∙ ap (λ (x : Route). length (bits x.prefix)) (sym c.index-routes-place.is) ∙ sym e) ∙ ap (λ x. leb (length q) x) c.len-2.ensures
    ∙ by_length 32 p q (key_short c.args.key) (prefix_short rs i) (sym n ∙ c.if-network.false ∙ c.network.ensures)
