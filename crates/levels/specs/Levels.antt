-- Document 01, "Solver", from "Depth up to 4 is one level" on: what a level starts from, one level, and the levels up to the depth. ps are the usable points.
-- One level's conjugate gradients are in Solver of the crate `solver`, its right side in Field of the crate `field`. Definitions only; assumes nothing.
use Rattle.std.specs.Prelude.{cond, List, ℕ, zero, suc, ◌+◌, ◌-◌, ◌*◌, ◌^◌, min, Float}
use Rattle.lists.specs.Lists.{tabulate, zero32, zeros32}
use Rattle.numbers.specs.Arithmetic.{narrowed}
use Rattle.grid.specs.declared.Grid.{Grid}
use Rattle.grid.specs.Grid.{grid_of, boundary_node, coords_of, sampled, world_of, all_nodes}
use Rattle.points.specs.declared.point.Point.{Point}
use Rattle.field.specs.Field.{right_side}
use Rattle.solver.specs.Solver.{conjugate}
use Rattle.levels.specs.declared.Problem.{Problem}

-- ---- the grids

-- the coarsest depth
abbrev pub coarsest : ℕ
coarsest = 4

-- all levels lie in one cube
abbrev pub grid_at : Problem → (depth : ℕ) → Grid
grid_at t depth = grid_of t.origin t.size depth

-- how many nodes a level has: n = 2^depth per side
abbrev pub nodes_at : (depth : ℕ) → ℕ
nodes_at depth = 2 ^ depth * 2 ^ depth * 2 ^ depth

-- ---- what a later level starts from: narrowed samples of the one before at its own nodes' places, origin + count·step, boundary 0

unfoldable pub start_at : (coarse g : Grid) (before : List Float) (q : ℕ) → Float
start_at coarse g before q =
    cond (boundary_node g.nodes q) zero32 (narrowed (sampled coarse before (world_of g (coords_of g.nodes g.nodes q))))

abbrev pub start_from : (coarse g : Grid) (before : List Float) → List Float
start_from coarse g before = tabulate (all_nodes g) (start_at coarse g before)

-- ---- one level: conjugate gradients from x on, with the level's own right side

unfoldable pub level_from : Problem → (ps : List Point) (g : Grid) (x : List Float) → List Float
level_from t ps g x = conjugate g t.tolerance t.cap (right_side g ps t.spacing t.smoothing) x

-- ---- the levels: the first starts from zeros, each later one from the one before; k of them are later

unfoldable pub risen : Problem → (ps : List Point) (first k : ℕ) → List Float
risen t ps first zero = level_from t ps (grid_at t first) (zeros32 (all_nodes (grid_at t first)))
risen t ps first (suc k) =
    level_from t ps (grid_at t (first + suc k)) (start_from (grid_at t (first + k)) (grid_at t (first + suc k)) (risen t ps first k))

-- depth up to 4 is one level; above it the levels are 4 to depth
unfoldable pub solution : Problem → (ps : List Point) (depth : ℕ) → List Float
solution t ps depth = risen t ps (min depth coarsest) (depth - coarsest)
