-- Document 01, "Box, level, orientation, trim": the box of the usable points, its largest extent, and the cube round it. All in f64.
-- Definitions only; assumes nothing.
use Rattle.std.specs.Prelude.{true, false, ℕ, Float}
use mathlib.Core.List.{List, [], ◌∷◌, foldl}
use Rattle.std.specs.Float.{inf, binary64}
use Rattle.std.specs.Float.Ieee.{add, sub, mul, div}
use Rattle.numbers.specs.Constants.{zero64, one64, two64, tenth64}
use Rattle.numbers.specs.Arithmetic.{least, largest}
use Rattle.lists.specs.Lists.{at}
use Rattle.points.specs.declared.point.Point.{Point}
use Rattle.points.specs.declared.bounds.Bounds.{Bounds}

-- ---- low and high

-- the box with one point more
unfoldable pub reached : Bounds → Point → Bounds
reached b p =
    record {
      lo = least (at b.lo 0) (at p.at 0) ∷ least (at b.lo 1) (at p.at 1) ∷ least (at b.lo 2) (at p.at 2) ∷ [];
      hi = largest (at b.hi 0) (at p.at 0) ∷ largest (at b.hi 1) (at p.at 1) ∷ largest (at b.hi 2) (at p.at 2) ∷ [];
    }

-- the box of no points: low is +infinity and high is -infinity
unfoldable pub no_bounds : Bounds
no_bounds = record { lo = inf false ∷ inf false ∷ inf false ∷ []; hi = inf true ∷ inf true ∷ inf true ∷ [] }

unfoldable pub bounds_of : List Point → Bounds
bounds_of ps = foldl reached no_bounds ps

-- ---- the largest extent

-- high less low along axis a
abbrev pub span_of : Bounds → ℕ → Float
span_of b a = sub binary64 (at b.hi a) (at b.lo a)

-- the largest of the three, from +0.0
unfoldable pub extent_of : Bounds → Float
extent_of b = largest (largest (largest zero64 (span_of b 0)) (span_of b 1)) (span_of b 2)

-- ---- the cube: side extent·(1+2·0.1), origin (lo+hi)/2 - side/2 per axis

unfoldable pub side_of : Bounds → Float
side_of b = mul binary64 (extent_of b) (add binary64 one64 (mul binary64 two64 tenth64))

-- one coordinate of the origin
abbrev pub origin_along : Bounds → ℕ → Float
origin_along b a = sub binary64 (div binary64 (add binary64 (at b.lo a) (at b.hi a)) two64) (div binary64 (side_of b) two64)

unfoldable pub origin_of : Bounds → List Float
origin_of b = origin_along b 0 ∷ origin_along b 1 ∷ origin_along b 2 ∷ []
