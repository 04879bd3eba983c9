-- Document 01, "Points", in its order: what a point is, why it is skipped, its normal's length, its units; then the list of usable points, of which
-- everything above speaks. Only `given` and `point_at` know how many numbers a point has. Definitions only; assumes nothing.
use Rattle.std.specs.Prelude.{Bool, cond, ◌&&◌, List, [], ◌∷◌, ℕ, ◌+◌, ◌*◌, ◌/◌, length, filter, Result, Ok, Err, is_ok, Float}
use Rattle.std.specs.Float.{binary32}
use Rattle.std.specs.Float.Ieee.{add, mul, div, lt}
use Rattle.std.specs.Float.Ieee.Scale.{finite}
use Rattle.numbers.specs.Constants.{trillionth32}
use Rattle.numbers.specs.Arithmetic.{rooted}
use Rattle.lists.specs.Lists.{tabulate, at}
use Rattle.points.specs.declared.point.Point.{Point}
use Rattle.points.specs.declared.point.Points.{Points}
use Rattle.points.specs.declared.point.Unusable.{Unusable}
use Rattle.points.specs.declared.point.Unusable.TheVariants.{PositionNotFinite, LengthNotFinite, NormalTooShort}

-- ---- the points that are given

-- six f32 each: position and normal
abbrev pub numbers_per_point : ℕ
numbers_per_point = 6

-- how many points a list of numbers has
abbrev pub given : List Float → ℕ
given xs = length xs / numbers_per_point

-- the i-th of them
unfoldable pub point_at : List Float → ℕ → Point
point_at xs i =
    let k = i * numbers_per_point in
    record {
      at = at xs k ∷ at xs (k + 1) ∷ at xs (k + 2) ∷ [];
      normal = at xs (k + 3) ∷ at xs (k + 4) ∷ at xs (k + 5) ∷ [];
    }

-- all of them
unfoldable pub points_of : List Float → List Point
points_of xs = tabulate (given xs) (point_at xs)

-- those that an iterator has still to give
abbrev pub points_left : Points → List Point
points_left it = points_of it.rest.now

-- ---- which are usable

-- (x·x + y·y) + z·z in f32
abbrev pub squares_of : Float → Float → Float → Float
squares_of x y z = add binary32 (add binary32 (mul binary32 x x) (mul binary32 y y)) (mul binary32 z z)

-- the normal's f32 length, which may overflow or vanish
unfoldable pub length_of : Point → Float
length_of p = rooted binary32 (squares_of (at p.normal 0) (at p.normal 1) (at p.normal 2))

-- what a length says: not finite, or under the f32 nearest 1e-12, or usable
unfoldable pub length_usability : Float → Result (Unit {0}) Unusable
length_usability n = cond (finite n) (cond (lt n trillionth32) (Err NormalTooShort) (Ok tt)) (Err LengthNotFinite)

-- whether each position component is finite
unfoldable pub placed_of : Point → Bool
placed_of p = finite (at p.at 0) && (finite (at p.at 1) && finite (at p.at 2))

-- why a point is skipped, the position first; or that it is usable
unfoldable pub usability_of : Point → Result (Unit {0}) Unusable
usability_of p = cond (placed_of p) (length_usability (length_of p)) (Err PositionNotFinite)

unfoldable pub usable_of : Point → Bool
usable_of p = is_ok (usability_of p)

-- ---- what a usable point is used for: its position and its unit, in f64

unfoldable pub position_of : Point → List Float
position_of p = at p.at 0 ∷ at p.at 1 ∷ at p.at 2 ∷ []

-- component/length in f32; the f64 that it widens to is the same number
unfoldable pub unit_of : Point → List Float
unit_of p = div binary32 (at p.normal 0) (length_of p) ∷ div binary32 (at p.normal 1) (length_of p) ∷ div binary32 (at p.normal 2) (length_of p) ∷ []

-- ---- the usable points, in the order given

unfoldable pub usable_among : List Point → List Point
usable_among ps = filter usable_of ps

-- those among the first i that are given
unfoldable pub usable_to : List Float → ℕ → List Point
usable_to xs i = usable_among (tabulate i (point_at xs))

-- and among all
abbrev pub usables : List Float → List Point
usables xs = usable_to xs (given xs)
