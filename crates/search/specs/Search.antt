-- Document 01, "Spacing" and "trim": what a search among the usable points answers, for every query place, infinite and NaN ones too.
-- The brute loops meet it, and so must any faster search. Definitions only; assumes nothing.
use Rattle.std.specs.Prelude.{Bool, cond, not, ◌&&◌, ◌||◌, Float}
use mathlib.Core.List.{List, [], ◌∷◌, map, foldl}
use Rattle.std.specs.List.{list_any}
use Rattle.std.specs.Float.{binary32}
use Rattle.std.specs.Float.Ieee.{sub, lt, le, is_nan}
use Rattle.numbers.specs.Arithmetic.{rooted}
use Rattle.lists.specs.Lists.{at}
use Rattle.points.specs.declared.point.Point.{Point}
use Rattle.search.specs.declared.brute.Least.{Least}
use Rattle.search.specs.declared.brute.Least.TheVariants.{Empty, One, Two}
use Rattle.points.specs.Points.{squares_of}

-- ---- distances, in f32

-- (dx·dx+dy·dy)+dz·dz, from a query place to a point
unfoldable pub square_of : List Float → Point → Float
square_of q p = squares_of (sub binary32 (at p.at 0) (at q 0)) (sub binary32 (at p.at 1) (at q 1)) (sub binary32 (at p.at 2) (at q 2))

-- its root
abbrev pub distance_of : List Float → Point → Float
distance_of q p = rooted binary32 (square_of q p)

-- ---- an order, and lists in that order

-- whether d stands before a: it is less, or only a is NaN. So NaN ranks last, and an infinity counts
abbrev pub before : Float → Float → Bool
before d a = lt d a || (is_nan a && not (is_nan d))

-- d put into a list that is in order: of d and the first element the one that stands before stays here, and the other goes into the rest
abbrev pub inserted : (Float → Float → Bool) → List Float → Float → List Float
inserted order [] d = d ∷ []
inserted order (a ∷ l) d = cond (order d a) d a ∷ inserted order l (cond (order d a) a d)

unfoldable pub sorted : (Float → Float → Bool) → List Float → List Float
sorted order l = foldl (inserted order) [] l

-- ---- the two smallest distances, or all if there are fewer

-- the first two of a list
abbrev pub least_of : List Float → Least
least_of [] = Empty
least_of (a ∷ []) = One a
least_of (a ∷ (b ∷ l)) = Two a b

unfoldable pub nearest_of : List Point → List Float → Least
nearest_of ps q = least_of (sorted before (map (distance_of q) ps))

-- ---- whether some point lies within a squared limit: at most, and NaN is not

-- whether some point passes a test
unfoldable pub any_of : (Point → Bool) → List Point → Bool
any_of test ps = list_any test ps

unfoldable pub within_of : List Point → List Float → Float → Bool
within_of ps q limit = any_of (λ p. le (square_of q p) limit) ps
