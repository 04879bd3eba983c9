-- The word of the contracts inside `narrow`, which speak of magnitudes: the sign is put back at the end. Definitions only.
use Rattle.std.specs.Prelude.{◌≡◌, ℕ, ◌+◌, ◌/◌, ◌%◌, ◌^◌, Bool, cond, to_bits}
use Rattle.std.specs.Float.{binary32, binary64}
use Rattle.std.specs.Float.Ieee.{of_fields}
use Rattle.numbers.specs.Arithmetic.{narrowed}

-- r is the binary32 pattern, less its sign, of what a binary64 pattern with the fields of m narrows to, whichever its sign
abbrev pub Nearest32 : ℕ → ℕ → Type 0
Nearest32 m r = (s : Bool) → to_bits binary32 (narrowed (of_fields binary64 s (m / 2 ^ 52) (m % 2 ^ 52))) ≡ cond s (2 ^ 31) 0 + r
