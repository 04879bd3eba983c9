-- Words for the contracts of this crate's inner functions: one number, one gap more. No caller sees them, and no definition rests on them.
use Rattle.std.specs.Prelude.{Bool, true, cond, Option, Some, None, ◌||◌, List, ℕ, ◌%◌, eqb, Float}
use Rattle.std.specs.Float.Ieee.{lt}
use Rattle.points.specs.declared.point.Point.{Point}
use Rattle.search.specs.declared.brute.Least.{Least}
use Rattle.search.specs.declared.brute.Least.TheVariants.{Empty, One, Two}
use Rattle.search.specs.Search.{inserted}
use Rattle.search.specs.Spacing.{gap_at}

-- ---- the two smallest numbers

-- with one number more, by `<` alone
abbrev pub least_with : Least → Float → Least
least_with Empty d = One d
least_with (One a) d = Two (cond (lt d a) d a) (cond (lt d a) a d)
least_with (Two a b) d = Two (cond (lt d a) d a) (cond (lt (cond (lt d a) a d) b) (cond (lt d a) a d) b)

-- whether one number more may change them
abbrev pub open_to : Least → Float → Bool
open_to Empty d = true
open_to (One a) d = true
open_to (Two a b) d = lt d a || lt d b

-- f of each
abbrev pub least_map : (Float → Float) → Least → Least
least_map f Empty = Empty
least_map f (One a) = One (f a)
least_map f (Two a b) = Two (f a) (f b)

-- ---- gaps in ascending order

-- one gap more, if there is one, and how many numbers that is
abbrev pub put_gap : List Float → Option Float → List Float
put_gap l None = l
put_gap l (Some d) = inserted lt l d

abbrev pub size_of : Option Float → ℕ
size_of None = 0
size_of (Some d) = 1

-- what usable point number i gives
abbrev pub gap_by : ℕ → ℕ → List Point → Point → Option Float
gap_by s i ps p = cond (eqb (i % s) 0) (gap_at ps p) None
