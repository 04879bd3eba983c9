-- Which number each constant is that is written by its pattern (`values`), and which pattern, the code's literal, each that is written as a fraction
-- (`tenth_is` and so on). By computation; assumes nothing.
use Rattle.std.specs.Prelude.{◌≡◌, true, false, pos, refl}
use Rattle.std.specs.Float.{fin, binary32, binary64}
use Rattle.std.specs.Float.Ieee.{round, of_int, of_bits, neg}
use Rattle.numbers.specs.Constants.{zero64, minus_zero64, half64, one64, two64, three64, six64, sixty_four64, minus_zero32, one32, two32, three32, six32, tenth64, ten_thousandth64, millionth64, trillionth32}

pub values :
    (zero64 ≡ of_int binary64 (pos 0))
    × (minus_zero64 ≡ fin true 0 (pos 0))
    × (half64 ≡ round binary64 false 1 2)
    × (one64 ≡ of_int binary64 (pos 1))
    × (two64 ≡ of_int binary64 (pos 2))
    × (three64 ≡ of_int binary64 (pos 3))
    × (six64 ≡ of_int binary64 (pos 6))
    × (sixty_four64 ≡ of_int binary64 (pos 64))
    × (minus_zero32 ≡ fin true 0 (pos 0))
    × (one32 ≡ of_int binary32 (pos 1))
    × (two32 ≡ of_int binary32 (pos 2))
    × (three32 ≡ of_int binary32 (pos 3))
    × (six32 ≡ of_int binary32 (pos 6))
unfolding of_bits of_int round neg
values = (refl, refl, refl, refl, refl, refl, refl, refl, refl, refl, refl, refl, refl)

pub tenth_is : tenth64 ≡ of_bits binary64 0x3FB9_9999_9999_999A
unfolding round of_bits
tenth_is = refl

pub ten_thousandth_is : ten_thousandth64 ≡ of_bits binary64 0x3F1A_36E2_EB1C_432D
unfolding round of_bits
ten_thousandth_is = refl

pub millionth_is : millionth64 ≡ of_bits binary64 0x3EB0_C6F7_A0B5_ED8D
unfolding round of_bits
millionth_is = refl

pub trillionth_is : trillionth32 ≡ of_bits binary32 0x2B8C_BCCC
unfolding round of_bits
trillionth_is = refl
