-- Document 01, "Grid", in its order: the cube and its numbers, the Lattice, trilinear places and samples; and, of "Solver", the places of nodes.
-- A position is the list [i, j, k] of three node counts. Node and edge numbers are `node` and `edge` of the crate `closed`. Definitions only; assumes nothing.
use Rattle.std.specs.Prelude.{Bool, ◌||◌, List, [], ◌∷◌, ℕ, zero, suc, ◌+◌, ◌-◌, ◌*◌, ◌/◌, ◌%◌, ◌^◌, ◌≤◌, ◌<◌, min, pos, eqb, get_or, Float}
use Rattle.std.specs.Float.{binary64}
use Rattle.std.specs.Float.Ieee.{of_int, to_unsigned, add, sub, mul, div}
use Rattle.lists.specs.Lists.{at, fold_to}
use Rattle.numbers.specs.Constants.{zero64, minus_zero64, one64}
use Rattle.numbers.specs.Arithmetic.{floored, clamped}
use Rattle.closed.specs.Grid.{node}
use Rattle.grid.specs.declared.Grid.{Grid}
use Rattle.grid.specs.declared.Lattice.{Lattice}
use Rattle.grid.specs.declared.Along.{Along}
use Rattle.grid.specs.declared.Cell.{Cell}

-- ---- the cube

-- n = 2^depth nodes per side, step h = size/(n-1)
unfoldable pub grid_of : (origin : List Float) (size : Float) (depth : ℕ) → Grid
grid_of origin size depth = record { nodes = 2 ^ depth; origin = origin; step = div binary64 size (of_int binary64 (pos (2 ^ depth - 1))) }

-- the nodes per side that there are: 2^1 to 2^8
pub record Sides (n : ℕ) : Type 0 where
  pub two : 2 ≤ n
  pub most : n ≤ 256

-- N, the number of nodes
abbrev pub all_nodes : Grid → ℕ
all_nodes g = g.nodes * g.nodes * g.nodes

-- ---- numbers and positions, for nx × ny × nz nodes

-- the position lies among the nodes
pub record Position (nx ny nz : ℕ) (at : List ℕ) : Type 0 where
  pub i : get_or at 0 0 < nx
  pub j : get_or at 1 0 < ny
  pub k : get_or at 2 0 < nz

-- the number of the node there
abbrev pub node_at : (ny nz : ℕ) (at : List ℕ) → ℕ
node_at ny nz at = node ny nz (get_or at 0 0) (get_or at 1 0) (get_or at 2 0)

-- the digits i, j, k of the node q, and its position
abbrev pub digit_i : (ny nz q : ℕ) → ℕ
digit_i ny nz q = q / nz / ny

abbrev pub digit_j : (ny nz q : ℕ) → ℕ
digit_j ny nz q = q / nz % ny

abbrev pub digit_k : (nz q : ℕ) → ℕ
digit_k nz q = q % nz

abbrev pub coords_of : (ny nz q : ℕ) → List ℕ
coords_of ny nz q = digit_i ny nz q ∷ digit_j ny nz q ∷ digit_k nz q ∷ []

-- where nodes begin that stand one after the other along the last axis: row r = i·n+j of the cube
abbrev pub row_start : (n r : ℕ) → ℕ
row_start n r = r * n

-- plane i, of ny lines, and its line j, of nz nodes
abbrev pub plane_start : (ny nz i : ℕ) → ℕ
plane_start ny nz i = i * (ny * nz)

abbrev pub line_start : (ny nz i j : ℕ) → ℕ
line_start ny nz i j = plane_start ny nz i + j * nz

-- the node that the edge e goes from, and the axis along which it goes
abbrev pub node_of : (e : ℕ) → ℕ
node_of e = e / 3

abbrev pub axis_of : (e : ℕ) → ℕ
axis_of e = e % 3

-- ---- the boundary of the cube

-- a first or last count
abbrev pub at_end : (n i : ℕ) → Bool
at_end n i = eqb i 0 || eqb i (n - 1)

abbrev pub on_boundary : (n i j k : ℕ) → Bool
on_boundary n i j k = at_end n i || at_end n j || at_end n k

-- of the node q, and of all nodes of the row r = i·n+j, which has the n nodes from r·n on
abbrev pub boundary_node : (n q : ℕ) → Bool
boundary_node n q = on_boundary n (digit_i n n q) (digit_j n n q) (digit_k n q)

abbrev pub boundary_row : (n r : ℕ) → Bool
boundary_row n r = at_end n (r / n) || at_end n (r % n)

-- ---- the Lattice: a count, an origin and a step per axis

-- each count at least 2, their product at most 256^3; none has a bound of its own
pub record Counts (c : List ℕ) : Type 0 where
  pub two_x : 2 ≤ get_or c 0 0
  pub two_y : 2 ≤ get_or c 1 0
  pub two_z : 2 ≤ get_or c 2 0
  pub most : get_or c 0 0 * get_or c 1 0 * get_or c 2 0 ≤ 16777216

unfoldable pub lattice_of : Grid → Lattice
lattice_of g =
    record { counts = g.nodes ∷ g.nodes ∷ g.nodes ∷ []; origin = g.origin; step = g.step ∷ g.step ∷ g.step ∷ [] }

-- ---- trilinear, along one axis

-- u = (p-origin)/h, clamped to 0..n-1
unfoldable pub placed : (n : ℕ) (origin h p : Float) → Float
placed n origin h p = clamped (div binary64 (sub binary64 p origin) h) zero64 (of_int binary64 (pos (n - 1)))

-- the cell: the floor of u, at most n-2. A NaN as a whole number is 0
abbrev pub cell_of : (n : ℕ) (u : Float) → ℕ
cell_of n u = min (to_unsigned 64 (floored u)) (n - 2)

-- the cell, and the fraction: what u is past it
unfoldable pub along_of : (n : ℕ) (origin h p : Float) → Along
along_of n origin h p =
    let u = placed n origin h p in record { cell = cell_of n u; frac = sub binary64 u (of_int binary64 (pos (cell_of n u))) }

-- ---- trilinear, along all three

abbrev pub axis_at : (g : Grid) (p : List Float) (axis : ℕ) → Along
axis_at g p axis = along_of g.nodes (at g.origin axis) g.step (at p axis)

unfoldable pub cell_at : (g : Grid) (p : List Float) → Cell
cell_at g p =
    record {
      base = (axis_at g p 0).cell ∷ (axis_at g p 1).cell ∷ (axis_at g p 2).cell ∷ [];
      frac = (axis_at g p 0).frac ∷ (axis_at g p 1).frac ∷ (axis_at g p 2).frac ∷ [];
    }

-- the cell lies in the cube, so each of its corners is a node
pub record CellInside (n : ℕ) (q : Cell) : Type 0 where
  pub i : get_or q.base 0 0 + 1 < n
  pub j : get_or q.base 1 0 + 1 < n
  pub k : get_or q.base 2 0 + 1 < n

-- corner c = 0..7 takes di, dj, dk from its bits 2, 1, 0
abbrev pub corner_bits : (c : ℕ) → List ℕ
corner_bits c = c / 4 % 2 ∷ c / 2 % 2 ∷ c % 2 ∷ []

-- its weight along one axis: 1-t on the near side, t on the far one
abbrev pub share_along : (d : ℕ) (t : Float) → Float
share_along zero t = sub binary64 one64 t
share_along (suc d) t = t

-- its weight (wi·wj)·wk
unfoldable pub weight_at : (q : Cell) (c : ℕ) → Float
weight_at q c =
    let d = corner_bits c in
    mul binary64
    (mul binary64 (share_along (get_or d 0 0) (at q.frac 0)) (share_along (get_or d 1 0) (at q.frac 1)))
    (share_along (get_or d 2 0) (at q.frac 2))

-- its node
unfoldable pub cell_corner : (n : ℕ) (q : Cell) (c : ℕ) → ℕ
cell_corner n q c =
    let d = corner_bits c in
    node n n (get_or q.base 0 0 + get_or d 0 0) (get_or q.base 1 0 + get_or d 1 0) (get_or q.base 2 0 + get_or d 2 0)

-- ---- a sample

-- a sum with weight·value of corner c
abbrev pub with_corner : (n : ℕ) (values : List Float) (q : Cell) (s : Float) (c : ℕ) → Float
with_corner n values q s c = add binary64 s (mul binary64 (weight_at q c) (at values (cell_corner n q c)))

-- the first c corners, in corner order from -0.0; a sample takes all eight
unfoldable pub sum_to : (n : ℕ) (values : List Float) (q : Cell) (c : ℕ) → Float
sum_to n values q c = fold_to (with_corner n values q) minus_zero64 c

unfoldable pub sampled : (g : Grid) (values p : List Float) → Float
sampled g values p = sum_to g.nodes values (cell_at g p) 8

-- ---- places: origin + count·step along each axis

abbrev pub world_along : (origin h count : Float) → Float
world_along origin h count = add binary64 origin (mul binary64 count h)

-- of a node of the cube
unfoldable pub world_of : (g : Grid) (at : List ℕ) → List Float
world_of g counts =
    world_along (at g.origin 0) g.step (of_int binary64 (pos (get_or counts 0 0)))
    ∷ world_along (at g.origin 1) g.step (of_int binary64 (pos (get_or counts 1 0)))
    ∷ world_along (at g.origin 2) g.step (of_int binary64 (pos (get_or counts 2 0)))
    ∷ []
