-- Whether a node of the solution is below a level, a word of the law on the boundary (proofs/Laws/BoundaryAlike). Definitions only; assumes nothing.
use Rattle.std.specs.Prelude.{Bool, List, Float}
use Prim.Native.Nat.{ℕ, ◌^◌}
use Rattle.std.specs.Float.Ieee.{lt}
use Rattle.lists.specs.Lists.{at}
use Rattle.closed.specs.Grid.{node}
use Rattle.points.specs.declared.point.Point.{Point}
use Rattle.levels.specs.declared.Problem.{Problem}
use Rattle.levels.specs.Levels.{solution}

-- whether node i j k of the solution is below a level
abbrev pub below : Problem → (ps : List Point) (depth : ℕ) (iso : Float) (i j k : ℕ) → Bool
below t ps depth iso i j k = lt (at (solution t ps depth) (node (2 ^ depth) (2 ^ depth) i j k)) iso
