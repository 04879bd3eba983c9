-- Edges of document 01's Points and box, by computation: lengths about 1e-12 and the reasons in their order; the box of no points, of one and of two, and
-- the cube round it. Assumes nothing.
use Rattle.std.specs.Prelude.{◌≡◌, refl, true, false, [], ◌∷◌, pos, Ok, Err, Float}
use Rattle.std.specs.Float.{nan, inf, fin, binary32, binary64}
use Rattle.std.specs.Float.Ieee.{of_bits, round, neg, add, sub, mul, div, lt, is_nan}
use Rattle.numbers.specs.Constants.{trillionth32}
use Rattle.numbers.specs.Arithmetic.{rooted}
use Rattle.points.specs.declared.point.Point.{Point}
use Rattle.points.specs.declared.point.Unusable.TheVariants.{PositionNotFinite, LengthNotFinite, NormalTooShort}
use Rattle.points.specs.Points.{length_of, length_usability, placed_of, usability_of}
use Rattle.points.specs.Box.{reached, no_bounds, bounds_of, extent_of, side_of, origin_of}

-- ---- to speak of

abbrev O : Float
O = fin false 0 (pos 0)

-- 1, 2, 3 and a number whose square overflows
abbrev I : Float
I = fin false 1 (pos 0)

abbrev II : Float
II = fin false 1 (pos 1)

abbrev III : Float
III = fin false 3 (pos 0)

abbrev huge : Float
huge = fin false 1 (pos 100)

-- at the origin with this normal along x; at this place along x with the normal (0, 0, 1)
abbrev turned : Float → Point
turned n = record { at = O ∷ O ∷ O ∷ []; normal = n ∷ O ∷ O ∷ [] }

abbrev placed : Float → Point
placed x = record { at = x ∷ O ∷ O ∷ []; normal = O ∷ O ∷ I ∷ [] }

-- ---- the reasons, in their order

pub reasons :
    (usability_of (turned trillionth32) ≡ Ok tt)  -- the f32 nearest 1e-12, which is below it
    × (usability_of (turned (of_bits binary32 0x2B8C_BCCB)) ≡ Err NormalTooShort)  -- one step shorter
    × (usability_of (turned O) ≡ Err NormalTooShort)
    × (usability_of (turned huge) ≡ Err LengthNotFinite)  -- a finite normal whose length overflows
    × (usability_of (turned nan) ≡ Err LengthNotFinite)
    × (usability_of (placed nan) ≡ Err PositionNotFinite)
    × (usability_of (placed (inf true)) ≡ Err PositionNotFinite)
    × (usability_of (record { at = O ∷ nan ∷ O ∷ []; normal = nan ∷ O ∷ O ∷ [] }) ≡ Err PositionNotFinite)  -- the position comes first
unfolding usability_of length_usability placed_of length_of rooted of_bits round add mul lt
reasons = (refl, refl, refl, refl, refl, refl, refl, refl)

-- ---- the box of (1, 0, 0) and (3, 0, 0): 2 wide, the cube 2.4 wide about (2, 0, 0)

pub box :
    (bounds_of [] ≡ no_bounds)
    × (bounds_of (placed III ∷ placed I ∷ []) ≡ record { lo = I ∷ O ∷ O ∷ []; hi = III ∷ O ∷ O ∷ [] })
    × (extent_of (bounds_of (placed III ∷ placed I ∷ [])) ≡ II)
    × (extent_of (bounds_of (placed I ∷ [])) ≡ O)
unfolding bounds_of no_bounds reached extent_of is_nan of_bits sub add neg lt
box = (refl, refl, refl, refl)

pub cube :
    (side_of (bounds_of (placed III ∷ placed I ∷ [])) ≡ of_bits binary64 0x4003_3333_3333_3333)  -- 2.4
    × (origin_of (bounds_of (placed III ∷ placed I ∷ [])) ≡ of_bits binary64 0x3FE9_9999_9999_999A ∷ of_bits binary64 0xBFF3_3333_3333_3333 ∷ of_bits binary64 0xBFF3_3333_3333_3333 ∷ [])  -- 0.8, -1.2
unfolding bounds_of no_bounds reached extent_of side_of origin_of is_nan of_bits round sub add neg mul div lt
cube = (refl, refl)
