-- A slice filled in two parts, the second in the free end that the first left; and what a plan is refused by. Assumes nothing.
use Rattle.std.proofs.Common.{◌≡◌, ℕ, ◌+◌, ◌≤◌, true, false, List, ◌++◌, length, take, drop, None, ap, ◌∙◌, arith, append_assoc, length-append, drop-drop}
use Rattle.std.proofs.Math.Seq.{take-append_seam, drop-append_seam}
use Rattle.std.proofs.lemmas.List.{map-append}
use Rattle.std.proofs.lemmas.Bool.Decides.{nat_tests}
use Rattle.std.proofs.lemmas.Grind.{common_steps}
use Rattle.table.specs.Limits.{device_limit}
use Rattle.table.specs.Tables.{Entries, rising}
use Rattle.table.proofs.Rising.{rising_distinct}
use Rattle.transition.specs.declared.write.Write.{Write}
use Rattle.transition.specs.Writes.{Writing, moment}
use Rattle.transition.specs.Plans.{plan, crowded}
use Rattle.transition.specs.Laws.{Smooth}
use Rattle.transition.specs.Model.{writings_of, refusal}
use Rattle.transition.proofs.Ending.{within_device}
use Rattle.transition.proofs.Smoothness.{plan_is_smooth_lem}

-- p is written to the front, and d to the free end behind it as far as it goes
module _ (p d : List Writing) (front free rest : List Write) (n m : ℕ) (long : length front ≡ n) (on : length free ≡ m) where
  both_long : n + m ≡ length (front ++ free)
  both_long = simp length-append (omega arith)

  pub halves_written : writings_of front ≡ p → writings_of free ≡ d → writings_of (take (n + m) (front ++ (free ++ rest))) ≡ p ++ d
  halves_written h k = rw (← append_assoc, both_long, take-append_seam, map-append, h, k)

  pub halves_left : (was : List Write) → rest ≡ drop m (drop n was) → drop (n + m) (front ++ (free ++ rest)) ≡ drop (n + m) was
  halves_left was h = rw (← append_assoc) (ap (λ k. drop k ((front ++ free) ++ rest)) both_long ∙ drop-append_seam (front ++ free) rest ∙ h ∙ drop-drop m n was)

-- writes that are the plan's are smooth
pub as_smooth : (old new : Entries) (us : List Writing) → rising old ≡ true → rising new ≡ true → us ≡ plan old new → Smooth old new us
as_smooth old new us ro rn e = rw e (plan_is_smooth_lem old new ro rn)

-- where the count is no reason to refuse, the places are, or nothing is
module _ (old new : Entries) (places : ℕ) (fine : None ≡ refusal old new) where
  off : crowded old new ≡ false
  off = grind (arith, nat_tests, common_steps)

  -- at no moment more lines than a device holds
  pub held : (us : List Writing) → rising old ≡ true → rising new ≡ true → us ≡ plan old new → (k : ℕ) → length (moment us old k) ≤ device_limit
  held us ro rn e k = rw e (within_device old new (rising_distinct old ro) (rising_distinct new rn) off k)
