-- The words of the contracts: a cell and its faces by the number of its corner 0, and an edge by its number. The laws that turn them into the words of
-- Extraction are in Cells. Definitions only; assumes nothing.
use Rattle.std.specs.Prelude.{Bool, cond, ◌||◌, List, map, ℕ, ◌+◌, ◌-◌, ◌*◌, ◌%◌, ◌≤◌, ◌<◌, eqb, Float, length, get_or}
use Rattle.lists.specs.Lists.{at, tabulate}
use Rattle.closed.specs.Lists.{bit, sum, cells}
use Rattle.closed.specs.Faces.{Face, map_face}
use Rattle.closed.specs.Table.{corner_at, low_of, cube_axis, case_of}
use Rattle.closed.specs.Rows.{emitted}
use Rattle.closed.specs.Grid.{node, edge}
use Rattle.grid.specs.Grid.{line_start, node_of}
use Rattle.grid.specs.declared.Lattice.{Lattice}
use Rattle.cells.specs.Extraction.{count_y, count_z, is_below}

-- ---- a cell by the number n of its corner 0

-- how much greater the number of corner c is, and that of edge e than 3·n
abbrev pub node_offset : (ny nz c : ℕ) → ℕ
node_offset ny nz c = node ny nz (corner_at c).0 (corner_at c).1 (corner_at c).2

abbrev pub edge_offset : (ny nz e : ℕ) → ℕ
edge_offset ny nz e = edge (node_offset ny nz (low_of e)) (cube_axis e)

-- the bits of the side of cells at node n: corners 0 to 3 of the cell there
unfoldable pub side_at : (values : List Float) (ny nz : ℕ) (iso : Float) (n : ℕ) → ℕ
side_at values ny nz iso n =
    bit (is_below (at values n) iso)
    + 2 * bit (is_below (at values (n + ny * nz)) iso)
    + 4 * bit (is_below (at values (n + ny * nz + nz)) iso)
    + 8 * bit (is_below (at values (n + nz)) iso)

-- how many of the nz nodes from n on are below
abbrev pub below_count : (values : List Float) (nz : ℕ) (iso : Float) (n : ℕ) → ℕ
below_count values nz iso n = sum nz (λ k. bit (is_below (at values (n + k)) iso))

-- of the four rows of nodes round the line of cells from n on; and whether that is none of them, or all
abbrev pub line_below : (values : List Float) (ny nz : ℕ) (iso : Float) (n : ℕ) → ℕ
line_below values ny nz iso n =
    below_count values nz iso n + below_count values nz iso (n + ny * nz) + below_count values nz iso (n + ny * nz + nz) + below_count values nz iso (n + nz)

abbrev pub plain_line : (values : List Float) (ny nz : ℕ) (iso : Float) (n : ℕ) → Bool
plain_line values ny nz iso n = eqb (line_below values ny nz iso n) 0 || eqb (line_below values ny nz iso n) (4 * nz)

unfoldable pub case_at : (values : List Float) (ny nz : ℕ) (iso : Float) (n : ℕ) → ℕ
case_at values ny nz iso n = case_of (λ c. is_below (at values (n + node_offset ny nz c)) iso)

-- the faces of a case over the edges from `first` on
unfoldable pub row_faces : (offsets : List ℕ) (first case : ℕ) → List Face
row_faces offsets first case = map (map_face (λ e. first + get_or offsets e 0)) (emitted case)

abbrev pub edge_offsets : (ny nz : ℕ) → List ℕ
edge_offsets ny nz = tabulate 12 (edge_offset ny nz)

unfoldable pub faces_at : (values : List Float) (ny nz : ℕ) (iso : Float) (n : ℕ) → List Face
faces_at values ny nz iso n = row_faces (edge_offsets ny nz) (3 * n) (case_at values ny nz iso n)

-- of the cells of a line whose first node is n; of the first lines of plane i; and of the first planes
abbrev pub line_faces : (values : List Float) (ny nz : ℕ) (iso : Float) (n k : ℕ) → List Face
line_faces values ny nz iso n k = cells k (λ c. faces_at values ny nz iso (n + c))

abbrev pub plane_faces : (values : List Float) (ny nz : ℕ) (iso : Float) (i j : ℕ) → List Face
plane_faces values ny nz iso i j = cells j (λ b. line_faces values ny nz iso (line_start ny nz i b) (nz - 1))

abbrev pub block_faces : (values : List Float) (ny nz : ℕ) (iso : Float) (i : ℕ) → List Face
block_faces values ny nz iso i = cells i (λ a. plane_faces values ny nz iso a (ny - 1))

-- ---- what is asked of a cell

-- the edges of a cell, from `first` on, lie in a table of m
abbrev pub EdgesIn : (offsets : List ℕ) (first m : ℕ) → Type 0
EdgesIn offsets first m = ((e : ℕ) → e < 12 → first + get_or offsets e 0 < m) × (m ≤ 50331648)

-- three of the cube's edges
pub record CubeFace (f : List ℕ) : Type 0 where
  pub a : get_or f 0 0 < 12
  pub b : get_or f 1 0 < 12
  pub c : get_or f 2 0 < 12

-- ---- an edge of the lattice: the number of its upper node is greater by the stride of its axis

unfoldable pub stride : (ny nz axis : ℕ) → ℕ
stride ny nz axis = cond (eqb axis 0) (ny * nz) (cond (eqb axis 1) nz 1)

-- both its nodes have a value, and there are no more of those than there are nodes
pub record Inner (values : List Float) (l : Lattice) (e : ℕ) : Type 0 where
  pub upper : node_of e + stride (count_y l) (count_z l) (e % 3) < length values
  pub most : length values ≤ 16777216
