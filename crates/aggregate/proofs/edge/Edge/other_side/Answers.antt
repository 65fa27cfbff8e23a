use Rattle.std.proofs.Common.{◌≡◌, not, [], ◌∷◌, ◌++◌, take, Some, None, sym, ap, ◌∙◌, arith, rules}
use Rattle.std.specs.List.{slice_get}
use Rattle.std.proofs.lemmas.Option.{slice_get_within}
use Rattle.std.proofs.lemmas.Grind.{common_steps}
use Rattle.prefix.specs.Bits.{Bits}
use Rattle.prefix.specs.Model.{bits}
use Rattle.table.specs.Examples.{line}
use Rattle.table.proofs.Places.{key_short}
use Rattle.aggregate.specs.Routes.{line_of}
use Rattle.aggregate.proofs.Sides.{bit_past, bit_at, none_aside, other_aside, own_aside}
use Rattle.aggregate.proofs.edge.Edge.other_side.Goals as goal

pub returns-in_err-bit : goal.returns-in_err-bit
returns-in_err-bit c =
    let r : c.from_residual.result ≡ None = search rules in
    let e : None ≡ slice_get (bits c.args.self.node) c.args.place = search rules in
    ap line_of r ∙ none_aside c.args.bit c.args.self.hop (take c.args.place (bits c.args.self.node)) _ (bit_past (bits c.args.self.node) c.args.place e)

pub returns-then-branch-bit : goal.returns-then-branch-bit
returns-then-branch-bit c =
    let e : Some c.in_ok-bit.field-0 ≡ slice_get (bits c.args.self.node) c.args.place = search rules in
    other_aside c.args.bit c.in_ok-bit.field-0 c.args.self.hop (take c.args.place (bits c.args.self.node)) _ (bit_at (bits c.args.self.node) c.args.place _ e) (λ q. grind (arith, common_steps))

-- a bit at this place is not the last but all of an address
pub returns-in_err-prefix : goal.returns-in_err-prefix
returns-in_err-prefix c =
    let e : Some c.in_ok-bit.field-0 ≡ slice_get (bits c.args.self.node) c.args.place = search rules in
    absurd (omega (arith, c.in_err-prefix.ensures, c.cut.ensures.long, slice_get_within (bits c.args.self.node) c.args.place _ (sym e), key_short c.args.self.node))

pub returns : goal.returns
returns c =
    let e : Some c.args.bit ≡ slice_get (bits c.args.self.node) c.args.place = grind (arith, common_steps) in
    let child : bits c.in_ok-prefix.prefix ≡ take c.args.place (bits c.args.self.node) ++ (not c.args.bit ∷ []) =
    c.in_ok-prefix.ensures ∙ ap (λ (q : Bits). q ++ (not c.args.bit ∷ [])) c.cut.ensures.value in
    ap (λ (q : Bits). line q c.args.self.hop ∷ []) child ∙
    own_aside c.args.bit c.args.self.hop (take c.args.place (bits c.args.self.node)) _ (bit_at (bits c.args.self.node) c.args.place _ e)
