-- Edges of document 01's search and Spacing, by computation: infinite and NaN distances; at most, not less; doubles; strides; ranks. Assumes nothing.
use Rattle.std.specs.Prelude.{◌≡◌, refl, Some, None, true, false, [], ◌∷◌, pos, Float}
use Rattle.std.specs.Float.{nan, inf, fin}
use Rattle.std.specs.Float.Ieee.{of_bits, neg, add, sub, mul, lt, le, is_nan}
use Rattle.numbers.specs.Arithmetic.{rooted}
use Rattle.lists.specs.EveryNth.{stride_for, every_from}
use Rattle.points.specs.declared.point.Point.{Point}
use Rattle.search.specs.declared.brute.Least.TheVariants.{Empty, One, Two}
use Rattle.search.specs.Search.{square_of, sorted, nearest_of, any_of, within_of}
use Rattle.search.specs.Spacing.{gap_at, median_of}

-- ---- to speak of

abbrev O : Float
O = fin false 0 (pos 0)

-- 1, 2, 3 and a number whose square overflows
abbrev I : Float
I = fin false 1 (pos 0)

abbrev II : Float
II = fin false 1 (pos 1)

abbrev III : Float
III = fin false 3 (pos 0)

abbrev huge : Float
huge = fin false 1 (pos 100)

-- at this place along x with the normal (0, 0, 1)
abbrev placed : Float → Point
placed x = record { at = x ∷ O ∷ O ∷ []; normal = O ∷ O ∷ I ∷ [] }

-- ---- the two smallest, for every query

pub nearest :
    (nearest_of [] (O ∷ O ∷ O ∷ []) ≡ Empty)
    × (nearest_of (placed III ∷ placed O ∷ placed I ∷ []) (O ∷ O ∷ O ∷ []) ≡ Two O I)
    × (nearest_of (placed huge ∷ placed O ∷ []) (O ∷ O ∷ O ∷ []) ≡ Two O (inf false))  -- an infinite distance counts
    × (nearest_of (placed I ∷ placed O ∷ []) (nan ∷ O ∷ O ∷ []) ≡ Two nan nan)
    × (nearest_of (placed I ∷ []) (inf false ∷ O ∷ O ∷ []) ≡ One (inf false))
unfolding nearest_of sorted square_of rooted is_nan sub add neg mul lt
nearest = (refl, refl, refl, refl, refl)

-- at most the limit, and NaN is not
pub within :
    (within_of (placed II ∷ []) (O ∷ O ∷ O ∷ []) (fin false 1 (pos 2)) ≡ true)
    × (within_of (placed II ∷ []) (O ∷ O ∷ O ∷ []) III ≡ false)
    × (within_of (placed II ∷ []) (O ∷ O ∷ O ∷ []) nan ≡ false)
    × (within_of (placed II ∷ []) (nan ∷ O ∷ O ∷ []) (inf false) ≡ false)
    × (within_of (placed II ∷ []) (inf false ∷ O ∷ O ∷ []) (inf false) ≡ true)
unfolding within_of any_of square_of sub add neg mul le
within = (refl, refl, refl, refl, refl)

-- ---- gaps, strides and ranks

pub gaps :
    (gap_at (placed O ∷ placed III ∷ []) (placed O) ≡ Some III)
    × (gap_at (placed O ∷ placed O ∷ placed III ∷ []) (placed O) ≡ None)  -- an exact double gives none
    × (gap_at (placed O ∷ placed huge ∷ []) (placed O) ≡ Some (inf false))
    × (gap_at (placed O ∷ []) (placed O) ≡ None)
unfolding gap_at nearest_of sorted square_of rooted is_nan of_bits sub add neg mul lt
gaps = (refl, refl, refl, refl)

pub strides : (stride_for 1000 999 ≡ 1) × (stride_for 1000 1999 ≡ 1) × (stride_for 1000 2000 ≡ 2) × (every_from 2 0 (placed O ∷ placed I ∷ placed II ∷ []) ≡ placed O ∷ placed II ∷ [])
strides = (refl, refl, refl, refl)

pub ranks :
    (median_of [] ≡ O)
    × (median_of (III ∷ I ∷ []) ≡ III)
    × (median_of (III ∷ I ∷ II ∷ []) ≡ II)
unfolding median_of sorted of_bits lt
ranks = (refl, refl, refl)
