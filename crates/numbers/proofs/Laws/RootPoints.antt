-- The special cases of the root, by computation. (The marked cases are in the crate `marked`.)
use Rattle.std.specs.Prelude.{◌≡◌, refl}
use Rattle.std.specs.Float.{nan, binary32, binary64}
use Rattle.std.specs.Float.Ieee.{of_bits, to_bits}
use Rattle.numbers.specs.Arithmetic.{rooted}

pub special :
    (to_bits binary64 (rooted binary64 (of_bits binary64 1)) ≡ 0x1E60000000000000)  -- the smallest subnormal, 2^-1074, gives 2^-537
    × (to_bits binary64 (rooted binary64 (of_bits binary64 0x7FEFFFFFFFFFFFFF)) ≡ 0x5FEFFFFFFFFFFFFF)  -- the largest value
    × (to_bits binary32 (rooted binary32 (of_bits binary32 0x80000000)) ≡ 0x80000000)  -- -0 gives -0
    × (rooted binary32 (of_bits binary32 0xBF800000) ≡ nan)  -- -1 gives NaN
    × (to_bits binary32 (rooted binary32 (of_bits binary32 0x7F800000)) ≡ 0x7F800000)  -- the infinity gives itself
unfolding rooted of_bits to_bits
special = (refl, refl, refl, refl, refl)
