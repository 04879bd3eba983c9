-- Words of the laws on a program's integer root (proofs/Laws/RootWhole): how many digits are dropped, and what is kept. Definitions only; assumes nothing.
use Rattle.std.specs.Prelude.{ℕ, ◌+◌, ◌-◌, ◌*◌, ◌/◌, ◌^◌}
use Prim.Native.Nat.{compare}
use Rattle.std.specs.Float.{Format}
use Rattle.std.specs.Float.Ieee.{prec, size, nearest}
use Rattle.numbers.specs.Arithmetic.{whole}

abbrev pub dropped : Format → ℕ → ℕ
dropped f n = size (whole n) - prec f

abbrev pub middle : ℕ → ℕ → ℕ
middle q k = (2 * q + 1) * 2 ^ k

abbrev pub kept : ℕ → ℕ → ℕ
kept n k = nearest (whole n / 2 ^ k) (compare (4 * n) (middle (whole n / 2 ^ k) k * middle (whole n / 2 ^ k) k))
