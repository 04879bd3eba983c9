-- Document 01, "Box, level, orientation, trim": the level. The cube is in the crate `points`, the box of the vertices in `meshes`, the orientation in
-- `orientation`, the trim in `trim`. Definitions only; assumes nothing.
use mathlib.Core.List.{List, foldl}
use Rattle.std.specs.Prelude.{pos, length, Float}
use Rattle.std.specs.Float.{binary64}
use Rattle.std.specs.Float.Ieee.{of_int, add, div}
use Rattle.numbers.specs.Constants.{minus_zero64}
use Rattle.numbers.specs.Arithmetic.{narrowed}
use Rattle.grid.specs.declared.Grid.{Grid}
use Rattle.grid.specs.Grid.{sampled}
use Rattle.points.specs.declared.point.Point.{Point}
use Rattle.points.specs.Points.{position_of}

-- ---- level: mean of samples at usable points plus offset, narrowed

abbrev pub plus_sample : Grid → List Float → Float → Point → Float
plus_sample g values sum p = add binary64 sum (sampled g values (position_of p))

unfoldable pub level_of : Grid → List Float → List Point → Float → Float
level_of g values ps offset = narrowed (add binary64 (div binary64 (foldl (plus_sample g values) minus_zero64 ps) (of_int binary64 (pos (length ps)))) offset)
