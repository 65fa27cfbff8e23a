use Rattle.std.proofs.Common.{◌≡◌, ◌+◌, length, drop, ap, ◌∙◌, arith}
use Rattle.std.proofs.lemmas.List.{length-take-le}
use Rattle.table.specs.Model.{entries}
use Rattle.transition.specs.Plans.{puts, drops, plan}
use Rattle.transition.proofs.Ending.{plan_count}
use Rattle.transition.proofs.Halves.{halves_written, halves_left, as_smooth, held}
use Rattle.transition.proofs.transition.Transition.plan_into.Goals as goal

pub returns : goal.returns
returns c =
    let old = entries c.args.self.old.now in
    let new = entries c.args.self.new.now in
    let e = c.in_ok-puts.ensures in
    let s = c.split_at_mut-front.ensures in
    let n = c.in_ok-puts.field-0.puts in
    let m = c.in_ok-puts.field-0.drops in
    let back = c.split_at_mut-front.result.1.now in
    let front = c.fill.new.out in
    let free = c.fill-2.new.out in
    let count : n + m ≡ length (plan old new) = omega (arith, e.puts, e.drops, plan_count old new) in
    let long : length front ≡ n = c.fill.auto.out ∙ s.front_len in
    let on : length free ≡ m = c.fill-2.auto.out ∙ length-take-le m back (omega (arith, s.back_len, c.if-out-puts.false)) in
    let all = halves_written (puts old new) (drops old new) front free (drop m back) n m long on c.fill.ensures c.fill-2.ensures in
    record {
      refused = grind (arith, count);
      count = count;
      written = all;
      left = halves_left (puts old new) (drops old new) front free (drop m back) n m long on c.args.out.now (ap (drop m) s.back);
      held = held old new (length c.args.out.now) e.refused _ c.args.self.old.now.ordered c.args.self.new.now.ordered all;
      smooth = as_smooth old new _ c.args.self.old.now.ordered c.args.self.new.now.ordered all;
    }
