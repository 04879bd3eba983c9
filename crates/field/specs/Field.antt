-- Document 01, "Field", in its order: the points spread over the nodes, and the right side. The blur between them is in Blur of the crate `blur`.
-- All values at the nodes are f32; n is the number of nodes per side, and N = n * n * n. Definitions only; assumes nothing.
use Rattle.std.specs.Prelude.{cond, ℕ, ◌+◌, ◌-◌, ◌*◌, set, Float}
use mathlib.Core.List.{List, foldl}
use Rattle.std.specs.Float.{binary32, binary64}
use Rattle.std.specs.Float.Ieee.{neg, add, sub, mul, div}
use Rattle.lists.specs.Lists.{tabulate, at, zero32, zeros32, fold_to}
use Rattle.numbers.specs.Constants.{minus_zero32, two32}
use Rattle.numbers.specs.Arithmetic.{narrowed}
use Rattle.grid.specs.declared.Grid.{Grid}
use Rattle.grid.specs.declared.Cell.{Cell}
use Rattle.grid.specs.Grid.{cell_at, weight_at, cell_corner, boundary_node, all_nodes}
use Rattle.points.specs.declared.point.Point.{Point}
use Rattle.points.specs.Points.{position_of, unit_of}
use Rattle.blur.specs.Blur.{sigma_of, radius_of, kernel_of, blurred}

-- ---- points in order, corners in order: add the narrowed weight·unit

-- corner c of a cell, for a unit's component u: the product is taken in f64, narrowed once, and added in f32
unfoldable pub corner_added : (n : ℕ) (cell : Cell) (u : Float) (c : ℕ) (v : List Float) → List Float
corner_added n cell u c v =
    set v (cell_corner n cell c) (add binary32 (at v (cell_corner n cell c)) (narrowed (mul binary64 (weight_at cell c) u)))

-- the first c corners
unfoldable pub corners_added : (n : ℕ) (cell : Cell) (u : Float) (c : ℕ) (v : List Float) → List Float
corners_added n cell u c v = fold_to (λ w d. corner_added n cell u d w) v c

-- a point with all eight; a is the component: 0, 1 or 2
unfoldable pub point_added : (g : Grid) (a : ℕ) (v : List Float) (p : Point) → List Float
point_added g a v p = corners_added g.nodes (cell_at g (position_of p)) (at (unit_of p) a) 8 v

-- all points, from zeros
unfoldable pub splatted : (g : Grid) (ps : List Point) (a : ℕ) → List Float
splatted g ps a = foldl (point_added g a) (zeros32 (all_nodes g)) ps

-- ---- the right side

-- (next - previous)/(2·h), along an axis whose neighbours are `stride` numbers apart
unfoldable pub slope_at : (h : Float) (v : List Float) (q stride : ℕ) → Float
slope_at h v q stride = div binary32 (sub binary32 (at v (q + stride)) (at v (q - stride))) (mul binary32 two32 h)

-- the sum over axes 0, 1, 2, from -0.0: x, y, z are the field's components
unfoldable pub divergence_at : (n : ℕ) (h : Float) (x y z : List Float) (q : ℕ) → Float
divergence_at n h x y z q =
    add binary32 (add binary32 (add binary32 minus_zero32 (slope_at h x q (n * n))) (slope_at h y q n)) (slope_at h z q 1)

-- 0 on boundary nodes, else ((-h)·h)·sum
unfoldable pub right_side_at : (n : ℕ) (h : Float) (x y z : List Float) (q : ℕ) → Float
right_side_at n h x y z q = cond (boundary_node n q) zero32 (mul binary32 (mul binary32 (neg h) h) (divergence_at n h x y z q))

-- ---- the whole, over the usable points ps

-- a component of the field
unfoldable pub component_of : (g : Grid) (ps : List Point) (radius : ℕ) (kernel : List Float) (a : ℕ) → List Float
component_of g ps radius kernel a = blurred g.nodes radius kernel (splatted g ps a)

-- the right side at every node, with h narrowed
unfoldable pub right_side_by : (g : Grid) (ps : List Point) (radius : ℕ) (kernel : List Float) → List Float
right_side_by g ps radius kernel =
    let component = component_of g ps radius kernel in
    tabulate (all_nodes g) (right_side_at g.nodes (narrowed g.step) (component 0) (component 1) (component 2))

unfoldable pub right_side : (g : Grid) (ps : List Point) (spacing smoothing : Float) → List Float
right_side g ps spacing smoothing =
    let sigma = sigma_of smoothing spacing g.step in
    right_side_by g ps (radius_of sigma) (kernel_of sigma)
