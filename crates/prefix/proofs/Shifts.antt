-- Shifts by as many bits as a word has, or more, leave nothing; so division and multiplication say what they do. Assumes nothing.
use Rattle.std.proofs.Common.{◌≡◌, ℕ, ◌+◌, ◌-◌, ◌*◌, ◌/◌, ◌%◌, ◌^◌, ◌<◌, ◌≤◌, nat_lt, mul_assoc, sym, ap, ◌∙◌, arith}
use Rattle.std.specs.Prelude.{if◌then◌else◌}
use Rattle.std.proofs.Math.Nat.{div-eq_of_lt, pow-le-pow_right, mul-mod_left}
use Rattle.std.proofs.lemmas.Nat.{pow-add}
use Rattle.std.proofs.lemmas.Bool.Decides.{nat_tests}

all_gone : (v n : ℕ) → v < 2 ^ 32 → 32 ≤ n → v / 2 ^ n ≡ 0
all_gone v n h k = let p = pow-le-pow_right {n = 2} (omega arith) k in div-eq_of_lt (omega (arith, h, p))

pub shr_any : (v n : ℕ) → v < 2 ^ 32 → (if nat_lt n 32 then v / 2 ^ n else 0) ≡ v / 2 ^ n
shr_any v n h = let g : 32 ≤ n → v / 2 ^ n ≡ 0 = all_gone v n h in grind (arith, nat_tests)

all_zeros : (v n : ℕ) → 32 ≤ n → (v * 2 ^ n) % 2 ^ 32 ≡ 0
all_zeros v n h =
    let e : (n - 32) + 32 ≡ n = omega arith in
    let p : 2 ^ n ≡ 2 ^ (n - 32) * 2 ^ 32 = rw e at (pow-add 2 (n - 32) 32) in
    ap (λ x. (v * x) % 2 ^ 32) p ∙ ap (λ x. x % 2 ^ 32) (sym (mul_assoc v (2 ^ (n - 32)) (2 ^ 32))) ∙ mul-mod_left (v * 2 ^ (n - 32)) (2 ^ 32)

pub shl_any : (v n : ℕ) → (if nat_lt n 32 then (v * 2 ^ n) % 2 ^ 32 else 0) ≡ (v * 2 ^ n) % 2 ^ 32
shl_any v n = let g : 32 ≤ n → (v * 2 ^ n) % 2 ^ 32 ≡ 0 = all_zeros v n in grind (arith, nat_tests)
