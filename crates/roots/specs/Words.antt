-- The words of `root_pattern`'s contract, which speaks of both formats at once. Definitions only.
use Rattle.std.specs.Prelude.{◌≡◌, ℕ, ◌+◌, ◌-◌, ◌*◌, ◌^◌, ◌<◌}
use Rattle.std.specs.Float.{Format}
use Rattle.std.specs.Float.Ieee.{prec, emax, ones, hid, of_bits}
use Rattle.numbers.specs.Arithmetic.{rooted}

-- p and e are the digits and the largest exponent of a format, and b is the pattern of one of its values that are finite and above zero
pub record IsFormat (p e b : ℕ) : Type 0 where
  pub format : Format
  pub digits : p ≡ prec format
  pub reach : e ≡ emax format
  pub above : 0 < b
  pub finite : b < (2 * e + 1) * 2 ^ (p - 1)

-- r is the pattern of the root of b's value, and it is finite, in the format whose numbers p and e are
abbrev pub RootOf : ℕ → ℕ → ℕ → ℕ → Type 0
RootOf p e b r = (f : Format) → p ≡ prec f → e ≡ emax f → (of_bits f r ≡ rooted f (of_bits f b)) × (r < ones f * hid f)
