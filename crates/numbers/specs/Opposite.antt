-- What "the same" and "negated" mean between two values of one computation and of the one with every sign turned: +0 and -0 count as equal, a NaN matches
-- a NaN. Negated operands give the negated result but for a sum that is exactly zero, which is +0 both times; so no closer relation is kept by `add`.
-- Definitions only.
use Rattle.std.specs.Prelude.{◌≡◌, Bool, false, T, ◌⊎◌, pos, ◌==◌, Float}
use Rattle.std.specs.Float.{nan, inf, fin}
use Rattle.std.specs.Float.Ieee.{neg}

-- +0 or -0
abbrev pub is_zero : Float → Bool
is_zero nan = false
is_zero (inf s) = false
is_zero (fin s m e) = m == 0

-- y is x, or both are zeros
abbrev pub Alike : Float → Float → Type 0
Alike x y = (x ≡ y) ⊎ (T (is_zero x) × T (is_zero y))

-- y is x negated, or both are zeros
abbrev pub Opposite : Float → Float → Type 0
Opposite x y = Alike (neg x) y

-- y is x negated, or both are +0
abbrev pub NegatedOrZero : Float → Float → Type 0
NegatedOrZero x y = (y ≡ neg x) ⊎ ((x ≡ fin false 0 (pos 0)) × (y ≡ fin false 0 (pos 0)))
