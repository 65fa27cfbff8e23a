-- All that holds of the plan between two tables in the order of tables. Assumes nothing.
use Rattle.std.proofs.Common.{arith}
use Rattle.table.proofs.Rising.{rising_distinct}
use Rattle.transition.specs.Laws.{PlanIsSmooth}
use Rattle.transition.proofs.Moments.{look_ups_once}
use Rattle.transition.proofs.Ending.{ends_rising, never_more}
use Rattle.transition.proofs.Idle.{none_idle, none_twice}

pub plan_is_smooth_lem : PlanIsSmooth
plan_is_smooth_lem old new ro rn =
    let od = rising_distinct old ro in
    let nd = rising_distinct new rn in
    record {
      moments = λ k a. look_ups_once old new od nd k k a (omega arith);
      once = look_ups_once old new od nd;
      end = ends_rising old new ro rn;
      few = never_more old new od nd;
      busy = none_idle old new od nd;
      apart = none_twice old new od nd;
    }
