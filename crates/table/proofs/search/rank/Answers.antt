-- The place in the middle tells of one side of it, since the routes rise.
use Rattle.std.proofs.Common.{◌+◌, ◌-◌, ◌/◌, ◌<◌, map, length, sym, ap, ◌∙◌, arith}
use Rattle.std.proofs.lemmas.List.{length-map}
use Rattle.std.proofs.lemmas.Bool.{not-true, not-false}
use Rattle.prefix.specs.Model.{bits}
use Rattle.table.specs.Routes.{entry_of, network_of}
use Rattle.table.proofs.Places.{low_side, high_side}
use Rattle.table.proofs.search.rank.Goals as goal

pub loop-low-init : goal.loop-low-init
loop-low-init c =
    let l = ap length c.requires.indexed ∙ length-map c.args.routes.now network_of in
    let m = length-map c.args.routes.now entry_of in
    (omega arith, omega arith, λ k h. absurd (omega arith), λ k h i. absurd (omega arith))

pub at_or_before-requires : goal.at_or_before-requires
at_or_before-requires c =
    let l = ap length c.requires.indexed ∙ length-map c.args.routes.now network_of in
    let i = c.loop-low.invariant in
    record { within = omega (arith, i.0, i.1); indexed = c.requires.indexed }

pub loop-low-preserved-then-at_or_before : goal.loop-low-preserved-then-at_or_before
loop-low-preserved-then-at_or_before c =
    let l = ap length c.requires.indexed ∙ length-map c.args.routes.now network_of in
    let m = length-map c.args.routes.now entry_of in
    let i = c.loop-low.invariant in
    let middle = c.loop-low.low + (c.loop-low.high - c.loop-low.low) / 2 in
    let h : c.loop-low.low + (c.loop-low.high - c.loop-low.low) / 2 < length (map entry_of c.args.routes.now) = omega (arith, i.0, i.1) in (
      omega (arith, i.0),
      i.1,
      (λ k b. low_side (map entry_of c.args.routes.now) (bits c.args.key) k middle c.requires.ordered h (not-true _ (sym c.if-at_or_before.ensures)) (omega arith)),
      i.3,
    )

pub loop-low-preserved : goal.loop-low-preserved
loop-low-preserved c =
    let i = c.loop-low.invariant in
    let middle = c.loop-low.low + (c.loop-low.high - c.loop-low.low) / 2 in (
      omega arith,
      omega (arith, i.0, i.1),
      i.2,
      λ k b e. high_side (map entry_of c.args.routes.now) (bits c.args.key) middle k c.requires.ordered (not-false _ (sym c.if-at_or_before.ensures)) b e,
    )

pub returns : goal.returns
returns c =
    let l = ap length c.requires.indexed ∙ length-map c.args.routes.now network_of in
    let m = length-map c.args.routes.now entry_of in
    let i = c.loop-low.invariant in
    record { within = omega (arith, i.0, i.1); upto = i.2; after = λ k b e. i.3 k (omega (arith, i.0)) e }
