-- What is known where the lower half of a root's digits is found by one division (proofs/Laws/RootDivide): t has the root s, and n is t * a * a. Definitions
-- only; assumes nothing.
use Rattle.std.specs.Prelude.{◌≡◌, ℕ, ◌*◌, ◌%◌, ◌^◌, ◌<◌, ◌≤◌}
use Rattle.numbers.specs.Laws.Squares.{IsRoot}

-- a is the weight of the lower digits, and there are no more of them than of the upper ones
pub record Split (n t s a : ℕ) : Type 0 where
  pub is : IsRoot t s
  pub size : t < 2 ^ 54
  pub small : a ≤ 2 ^ 27
  pub even : a % 2 ≡ 0
  pub some : 0 < a
  pub full : a * a ≤ 4 * t
  pub all : t * (a * a) ≡ n
