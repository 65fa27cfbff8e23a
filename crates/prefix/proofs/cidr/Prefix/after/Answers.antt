use Rattle.std.proofs.Common.{◌≡◌, ◌+◌, ◌-◌, ◌∷◌, ◌++◌, take, sym, ap, ◌∙◌, arith}
use Rattle.std.proofs.lemmas.Option.{slice_get_within}
use Rattle.prefix.specs.Bits.{Bits, bits_of}
use Rattle.prefix.specs.Model.{bits}
use Rattle.prefix.proofs.Strings.{split_here}
use Rattle.prefix.proofs.Joins.{shift_front, shift_clean}
use Rattle.prefix.proofs.Meaning.{bits_length}
use Rattle.prefix.proofs.cidr.Prefix.after.Goals as goal

pub invariant_of-rest : goal.invariant_of-rest
invariant_of-rest c =
    let p = c.args.self in
    let s = p.short in
    let h = slice_get_within (bits p) c.args.n c.in_ok-side.side (sym c.in_ok-side.ensures) in
    let l = bits_length p in
    let e : c.args.n + 1 + (c.args.self.len - c.args.n - 1) ≡ c.args.self.len = omega arith in
    record {
      word = c.shl.type_inv;
      short = omega arith;
      clean = rw c.shl.ensures (shift_clean 32 (c.args.n + 1) p.network (omega arith) (p.len - c.args.n - 1) (omega arith) (rw e p.clean));
    }

pub returns : goal.returns
returns c =
    let p = c.args.self in
    let n = c.args.n in
    let s = p.short in
    let h = slice_get_within (bits p) n c.in_ok-side.side (sym c.in_ok-side.ensures) in
    let l = bits_length p in
    let e : c.args.n + 1 + (c.args.self.len - c.args.n - 1) ≡ c.args.self.len = omega arith in
    let r = rw e at (shift_front 32 (n + 1) p.network (omega arith) (p.len - n - 1) (omega arith)) in
    split_here (bits p) n c.in_ok-side.side (sym c.in_ok-side.ensures)
    ∙ ap (λ (x : Bits). take n (bits p) ++ (c.in_ok-side.side ∷ x)) (sym r ∙ ap (λ v. take (p.len - n - 1) (bits_of 32 v)) (sym c.shl.ensures))
