-- Document 01, "Spacing", in its order. Definitions only; assumes nothing.
use Rattle.std.specs.Prelude.{cond, Option, Some, None, List, [], ◌∷◌, ◌++◌, ℕ, ◌/◌, length, get_or, Float}
use Rattle.std.specs.Float.{binary64}
use Rattle.std.specs.Float.Ieee.{mul, lt}
use Rattle.numbers.specs.Constants.{millionth64}
use Rattle.numbers.specs.Arithmetic.{largest}
use Rattle.lists.specs.Lists.{zero32}
use Rattle.lists.specs.EveryNth.{stride_for, every_from}
use Rattle.points.specs.declared.point.Point.{Point}
use Rattle.search.specs.declared.brute.Least.{Least}
use Rattle.search.specs.declared.brute.Least.TheVariants.{Empty, One, Two}
use Rattle.search.specs.Search.{nearest_of, sorted}

-- ---- each gives the first positive of its two smallest distances, itself included

abbrev pub positive_or : Float → Option Float → Option Float
positive_or d g = cond (lt zero32 d) (Some d) g

abbrev pub first_positive : Least → Option Float
first_positive Empty = None
first_positive (One a) = positive_or a None
first_positive (Two a b) = positive_or a (positive_or b None)

-- what point p gives, among the points ps
unfoldable pub gap_at : List Point → Point → Option Float
gap_at ps p = first_positive (nearest_of ps p.at)

-- none or one number
abbrev pub listed : Option Float → List Float
listed None = []
listed (Some d) = d ∷ []

-- what the points l give, among ps
unfoldable pub gaps_among : List Point → List Point → List Float
gaps_among ps [] = []
gaps_among ps (p ∷ l) = listed (gap_at ps p) ++ gaps_among ps l

-- what the points ps give at a stride of s
abbrev pub gaps_by : ℕ → List Point → List Point → List Float
gaps_by s ps l = gaps_among ps (every_from s 0 l)

-- ---- the element of rank length/2 in ascending order, counted from 0; an empty list gives 0

unfoldable pub median_of : List Float → Float
median_of l = get_or (sorted lt l) (length l / 2) zero32

-- ---- points 0, s, 2s.. with s = max(count/1000, 1); then the larger of their median gap and extent·1e-6

unfoldable pub spacing_of : List Point → Float → Float
spacing_of ps extent = largest (median_of (gaps_by (stride_for 1000 (length ps)) ps ps)) (mul binary64 extent millionth64)
