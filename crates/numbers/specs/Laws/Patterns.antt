-- The parts of a bit pattern in either format: the exponent, the significand, and the pattern that is put together of them. The laws on them are in
-- proofs/Laws/Patterns. Definitions only; assumes nothing.
use Rattle.std.specs.Prelude.{ℕ, ◌+◌, ◌-◌, ◌*◌, ◌/◌, ◌^◌, Bool, cond}
use Rattle.std.specs.Float.{Format}
use Rattle.std.specs.Float.Ieee.{hid, top}

-- The exponent and the significand of the pattern b of a value that is not negative, in a format of p digits: its value is sig * 2 ^ expo of the smallest
-- values. A field of 0 counts as a field of 1.
abbrev pub expo : ℕ → ℕ → ℕ
expo p b = b / 2 ^ (p - 1) - 1

abbrev pub sig : ℕ → ℕ → ℕ
sig p b = b - expo p b * 2 ^ (p - 1)

-- the pattern's parts: the sign, the exponent and the digits. A q of prec + 1 digits, a carry, moves the exponent up.
abbrev pub pattern : Format → Bool → ℕ → ℕ → ℕ
pattern f s k q = cond s (top f) 0 + (k * hid f + q)
