-- Each way's answer follows from how many bits are shared, and from how each prefix splits there.
use Rattle.std.proofs.Common.{◌≡◌, ℕ, arith}
use Rattle.prefix.specs.declared.cidr.Prefix.{Prefix}
use Rattle.prefix.specs.Bits.{common}
use Rattle.prefix.specs.Model.{bits}
use Rattle.prefix.proofs.Words.{Common}
use Rattle.prefix.proofs.Strings.{shares, parted_same, parted_below, parted_above, parted_apart}
use Rattle.prefix.proofs.cidr.Prefix.parting.Goals as goal

shared : (p q : Prefix) (n : ℕ) → n ≡ common (bits p) (bits q) → Common (bits p) (bits q) n
shared p q n e = rw e (shares (bits p) (bits q))

pub returns-in-None-None : goal.returns-in-None-None
returns-in-None-None c =
    let s = shared c.args.self c.args.other _ c.common-n.ensures in
    let h = rw c.in-None-None.is-0 at c.after.ensures in
    let k = rw c.in-None-None.is-1 at c.after-2.ensures in
    parted_same (bits c.args.self) (bits c.args.other) c.common-n.result s (omega (arith, s.in_p, h)) (omega (arith, s.in_q, k))

pub returns-in-Some-None : goal.returns-in-Some-None
returns-in-Some-None c =
    let s = shared c.args.self c.args.other _ c.common-n.ensures in
    let k = rw c.in-Some-None.is-1 at c.after-2.ensures in
    parted_below (bits c.args.self) (bits c.args.other) c.common-n.result _ _ s (omega (arith, s.in_q, k)) c.in-Some-None.ensures

pub returns-in-None-Some : goal.returns-in-None-Some
returns-in-None-Some c =
    let s = shared c.args.self c.args.other _ c.common-n.ensures in
    let h = rw c.in-None-Some.is-0 at c.after.ensures in
    parted_above (bits c.args.self) (bits c.args.other) c.common-n.result _ _ s (omega (arith, s.in_p, h)) c.in-None-Some.ensures

pub returns-in-Some-Some : goal.returns-in-Some-Some
returns-in-Some-Some c =
    let s = shared c.args.self c.args.other _ c.common-n.ensures in
    parted_apart (bits c.args.self) (bits c.args.other) _ c.common-n.result _ _ _ _ s c.cut.ensures.value c.in-Some-Some.ensures c.in-Some-Some.ensures'
