-- Worked values, by computation: floor, ceiling (P8 and P9 take the ceiling of 3·sigma), clamp, sign, the lesser and the larger, and the exponential at 0.
-- `fin s m (negsuc k)` is ±m * 2 ^ -(k + 1).
use Rattle.std.specs.Prelude.{◌≡◌, true, false, pos, negsuc, refl}
use Rattle.std.specs.Float.{nan, inf, fin, binary64}
use Rattle.std.specs.Float.Ieee.{of_bits, round, mul, div, sub, of_int, lt, is_nan, to_unsigned}
use Rattle.numbers.specs.Arithmetic.{narrowed, floored, ceiled, stepped, clamped, signed, least, largest, series, squared, exp_neg}

pub steps :
    (ceiled (mul binary64 (fin false 3 (pos 0)) (fin false 1 (negsuc 0))) ≡ fin false 1 (pos 1))  -- P8: 3 * 0.5 gives 2
    × (ceiled (mul binary64 (fin false 3 (pos 0)) (fin false 3 (pos 1))) ≡ fin false 9 (pos 1))  -- P9: 3 * 6.0 gives 18
    × (floored (fin true 0 (pos 0)) ≡ fin true 0 (pos 0))  -- -0 stays -0
    × (floored (fin true 1 (negsuc 0)) ≡ fin true 1 (pos 0))  -- the floor of -0.5 is -1
    × (ceiled (fin true 1 (negsuc 0)) ≡ fin true 0 (pos 0))  -- the ceiling of -0.5 is -0
    × (floored (fin false 5 (negsuc 0)) ≡ fin false 1 (pos 1))  -- the floor of 2.5 is 2
    × (to_unsigned 64 (fin false 5 (negsuc 0)) ≡ 2)
    × (to_unsigned 64 nan ≡ 0)
unfolding floored ceiled stepped round mul to_unsigned
steps = (refl, refl, refl, refl, refl, refl, refl, refl)

pub picks :
    (clamped (fin true 0 (pos 0)) (fin false 0 (pos 0)) (fin false 1 (pos 0)) ≡ fin true 0 (pos 0))  -- -0 between 0 and 1 stays -0
    × (clamped nan (fin false 0 (pos 0)) (fin false 1 (pos 0)) ≡ nan)
    × (clamped (inf true) (fin false 0 (pos 0)) (fin false 1 (pos 0)) ≡ fin false 0 (pos 0))
    × (signed (fin true 0 (pos 0)) ≡ fin true 1 (pos 0))  -- the sign of -0 is -1
    × (signed (fin false 0 (pos 0)) ≡ fin false 1 (pos 0))  -- that of +0 is 1
    × (least nan (inf false) ≡ inf false)
    × (least (inf false) nan ≡ inf false)
    × (largest (inf true) nan ≡ inf true)
    × (least (fin false 0 (pos 0)) (fin true 0 (pos 0)) ≡ fin false 0 (pos 0))  -- of two zeros the first stays
unfolding signed lt is_nan
picks = (refl, refl, refl, refl, refl, refl, refl, refl, refl)

-- at 0 the exponential is 1; at either infinity the series, and so the result, is +infinity, far from e^-x: the rule is one for every f64, and 01
-- measures it from 0 to 12.5
pub exponentials : (exp_neg (fin false 0 (pos 0)) ≡ fin false 1 (pos 0)) × (exp_neg nan ≡ nan) × (exp_neg (inf false) ≡ inf false) × (exp_neg (inf true) ≡ inf false)
unfolding exp_neg series squared narrowed of_bits of_int mul div sub round
exponentials = (refl, refl, refl, refl)
