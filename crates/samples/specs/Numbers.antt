-- Numbers that look random, and check sums. Assumes nothing.
use Rattle.std.specs.Prelude.{◌≡◌, ℕ, ◌+◌, ◌*◌, ◌%◌, ◌^◌, Some, Option}
use Rattle.samples.specs.declared.numbers.Numbers.{Numbers}

-- the number after another
abbrev pub following : ℕ → ℕ
following n = (n * 6364136223846793005 + 1442695040888963407) % 2 ^ 64

-- each number is the one after that of before, and the sequence goes on from it
abbrev pub Follows : Numbers → Option ℕ → Numbers → Type 0
Follows from next to = (next ≡ Some (following from.0)) × (to.0 ≡ following from.0)

-- a check sum with one number more
abbrev pub added : ℕ → ℕ → ℕ
added sum n = (sum * 31 + n) % 2 ^ 64
