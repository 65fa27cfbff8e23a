-- How many lines tables may have: the values of the code's `WANTED_LIMIT` and `DEVICE_LIMIT`. Assumes nothing.
use Rattle.std.specs.Prelude.{ℕ}

-- the most lines of a wanted table
abbrev pub wanted_limit : ℕ
wanted_limit = 32768

-- the most lines of a device's table
abbrev pub device_limit : ℕ
device_limit = 16384
