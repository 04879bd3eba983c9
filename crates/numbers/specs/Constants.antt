-- The constants of 01's rules, each once. A whole number or a half is written by its bit pattern, as a literal of the code stands in a goal; a decimal is
-- the fraction that it means, rounded once. `ConstantValues` proves which number each pattern is, and which pattern each fraction. Definitions only;
-- assumes nothing. (f32's zero is `zero32` of the crate `lists`, which rests on nothing.)
use Rattle.std.specs.Prelude.{◌^◌, false, from_bits, Float}
use Rattle.std.specs.Float.{binary32, binary64}
use Rattle.std.specs.Float.Ieee.{round, neg}

-- ---- whole numbers and halves, in f64

abbrev pub zero64 : Float
zero64 = from_bits binary64 0

-- the sums of samples, of the level and of the orientation start from -0.0
abbrev pub minus_zero64 : Float
minus_zero64 = neg zero64

abbrev pub half64 : Float
half64 = from_bits binary64 0x3FE0_0000_0000_0000

abbrev pub one64 : Float
one64 = from_bits binary64 0x3FF0_0000_0000_0000

abbrev pub two64 : Float
two64 = from_bits binary64 0x4000_0000_0000_0000

abbrev pub three64 : Float
three64 = from_bits binary64 0x4008_0000_0000_0000

abbrev pub six64 : Float
six64 = from_bits binary64 0x4018_0000_0000_0000

abbrev pub sixty_four64 : Float
sixty_four64 = from_bits binary64 0x4050_0000_0000_0000

-- ---- in f32

abbrev pub minus_zero32 : Float
minus_zero32 = neg (from_bits binary32 0)

abbrev pub one32 : Float
one32 = from_bits binary32 0x3F80_0000

abbrev pub two32 : Float
two32 = from_bits binary32 0x4000_0000

abbrev pub three32 : Float
three32 = from_bits binary32 0x4040_0000

abbrev pub six32 : Float
six32 = from_bits binary32 0x40C0_0000

-- ---- decimals

-- 0.1: the padding on each side of the cube
abbrev pub tenth64 : Float
tenth64 = round binary64 false 1 10

-- 1e-4: the tolerance of the default settings
abbrev pub ten_thousandth64 : Float
ten_thousandth64 = round binary64 false 1 (10 ^ 4)

-- 1e-6: the part of the extent that the spacing does not fall below
abbrev pub millionth64 : Float
millionth64 = round binary64 false 1 (10 ^ 6)

-- 1e-12 in f32: the shortest normal that is usable
abbrev pub trillionth32 : Float
trillionth32 = round binary32 false 1 (10 ^ 12)
