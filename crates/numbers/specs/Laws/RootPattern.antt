-- Words of the law on the pattern of a root from the pattern b of x, which is finite and above zero (proofs/Laws/RootPattern): k and m are x's exponent and
-- significand, z zeros put the leading digit of m in its place, with one zero more where the exponent n = k + e - 1 - z is odd. Definitions only; assumes
-- nothing.
use Rattle.std.specs.Prelude.{ℕ, ◌+◌, ◌-◌, ◌*◌, ◌/◌, ◌%◌, ◌^◌, ◌<◌, ◌≤◌}
use Rattle.std.specs.Int.Count.{count_leading_zeros}

abbrev pub zeros : ℕ → ℕ → ℕ
zeros p m = count_leading_zeros 64 m + p - 64

abbrev pub power : ℕ → ℕ → ℕ → ℕ → ℕ
power p e k m = k + e - 1 - zeros p m

abbrev pub wide : ℕ → ℕ → ℕ → ℕ → ℕ
wide p e k m = m * 2 ^ (zeros p m + power p e k m % 2)

-- what a format's p and e are
pub record Sizes (p e : ℕ) : Type 0 where
  pub two : 2 ≤ p
  pub most : p ≤ 53
  pub reach : p ≤ e
  pub last : e ≤ 1023

-- ---- the zeros that put the leading digit of m at place p - 1
pub record Shift (p m : ℕ) : Type 0 where
  pub enough : 64 ≤ count_leading_zeros 64 m + p
  pub few : zeros p m ≤ p - 1
  pub low : 2 ^ (p - 1) ≤ m * 2 ^ zeros p m
  pub high : m * 2 ^ zeros p m < 2 ^ p

-- ---- what the code knows of its k, and of s, which is k shifted
pub record Known (p e b k s : ℕ) : Type 0 where
  pub less : s ≤ b
  pub field : k < 2 * e
  pub shift : Shift p (b - s)
  pub wide_under : wide p e k (b - s) < 2 ^ (p + 1)
  pub wide_over : 2 ^ (p + 1) ≤ 4 * wide p e k (b - s)
  pub half_under : power p e k (b - s) / 2 * 2 ^ (p - 1) < 2 ^ 63
