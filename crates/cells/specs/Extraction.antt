-- Document 01, "Extraction", in its order: which nodes are below the level, the faces and the edges of the vertices, and where a vertex lies.
-- Faces over edge numbers, vertices at first use and faces over vertices are `grid_faces`, `used` and `mesh` of the crate `closed`; the cube's corners, edges
-- and table are there too. Definitions only; assumes nothing.
use Rattle.std.specs.Prelude.{Bool, cond, List, [], ◌∷◌, ◌++◌, ℕ, ◌+◌, eqb, pos, Float, get_or}
use Rattle.std.specs.Float.{binary32, binary64}
use Rattle.std.specs.Float.Ieee.{of_int, add, sub, div, lt}
use Rattle.lists.specs.Lists.{at, zero32}
use Rattle.numbers.specs.Constants.{one32}
use Rattle.numbers.specs.Arithmetic.{clamped, narrowed}
use Rattle.closed.specs.Lists.{bit}
use Rattle.closed.specs.Faces.{Face}
use Rattle.closed.specs.Numbering.{used, mesh}
use Rattle.closed.specs.Grid.{node, grid_faces}
use Rattle.grid.specs.Grid.{coords_of, node_of, axis_of, world_along}
use Rattle.grid.specs.declared.Lattice.{Lattice}

-- ---- below the level

-- "less than iso. Neither equality nor NaN": one test of value and level
unfoldable pub is_below : (value iso : Float) → Bool
is_below value iso = lt value iso

-- of node i j k, among nodes whose last two counts are ny and nz
unfoldable pub below_at : (values : List Float) (ny nz : ℕ) (iso : Float) → ℕ → ℕ → ℕ → Bool
below_at values ny nz iso i j k = is_below (at values (node ny nz i j k)) iso

-- ---- the mesh over the lattice

-- how many nodes along each axis
abbrev pub count_x : Lattice → ℕ
count_x l = get_or l.counts 0 0

abbrev pub count_y : Lattice → ℕ
count_y l = get_or l.counts 1 0

abbrev pub count_z : Lattice → ℕ
count_z l = get_or l.counts 2 0

abbrev pub below : (values : List Float) (l : Lattice) (iso : Float) → ℕ → ℕ → ℕ → Bool
below values l iso = below_at values (count_y l) (count_z l) iso

-- the faces over edge numbers: cells in the order i, j, k, each by its case's row
unfoldable pub edge_faces : (values : List Float) (l : Lattice) (iso : Float) → List Face
edge_faces values l iso = grid_faces (count_x l) (count_y l) (count_z l) (below values l iso)

-- the edges of the vertices 0, 1 .., numbered at first use
unfoldable pub vertex_edges : (values : List Float) (l : Lattice) (iso : Float) → List ℕ
vertex_edges values l iso = used (edge_faces values l iso)

-- the faces over vertex numbers
unfoldable pub extracted_faces : (values : List Float) (l : Lattice) (iso : Float) → List Face
extracted_faces values l iso = mesh (edge_faces values l iso)

-- ---- where a vertex lies

-- t = (iso-v0)/(v1-v0) clamped to 0..1, in f32
abbrev pub crossing : (v0 v1 iso : Float) → Float
crossing v0 v1 iso = clamped (div binary32 (sub binary32 iso v0) (sub binary32 v1 v0)) zero32 one32

-- 1 along the edge's axis and 0 along the others
abbrev pub unit : (axis a : ℕ) → ℕ
unit axis a = bit (eqb a axis)

-- the value at the edge's lower node, and at the next node along its axis
unfoldable pub lower_value : (values : List Float) (ny nz e : ℕ) → Float
lower_value values ny nz e =
    let p = coords_of ny nz (node_of e) in at values (node ny nz (get_or p 0 0) (get_or p 1 0) (get_or p 2 0))

unfoldable pub upper_value : (values : List Float) (ny nz e : ℕ) → Float
upper_value values ny nz e =
    let p = coords_of ny nz (node_of e) in
    let u = unit (axis_of e) in
    at values (node ny nz (get_or p 0 0 + u 0) (get_or p 1 0 + u 1) (get_or p 2 0 + u 2))

-- t is added in f64 to that axis's node count; a coordinate is origin + count·step, narrowed
abbrev pub count_along : (axis a count : ℕ) (t : Float) → Float
count_along axis a count t = cond (eqb a axis) (add binary64 (of_int binary64 (pos count)) t) (of_int binary64 (pos count))

abbrev pub coordinate_along : (l : Lattice) (axis a count : ℕ) (t : Float) → Float
coordinate_along l axis a count t = narrowed (world_along (at l.origin a) (at l.step a) (count_along axis a count t))

-- the three coordinates of the vertex on edge e
unfoldable pub edge_point : (values : List Float) (l : Lattice) (iso : Float) (e : ℕ) → List Float
edge_point values l iso e =
    let p = coords_of (count_y l) (count_z l) (node_of e) in
    let t = crossing (lower_value values (count_y l) (count_z l) e) (upper_value values (count_y l) (count_z l) e) iso in
    coordinate_along l (axis_of e) 0 (get_or p 0 0) t ∷ coordinate_along l (axis_of e) 1 (get_or p 1 0) t ∷ coordinate_along l (axis_of e) 2 (get_or p 2 0) t ∷ []

-- the coordinates of the vertices on these edges, one after the other
unfoldable pub points_of : (point : ℕ → List Float) → List ℕ → List Float
points_of point [] = []
points_of point (e ∷ es) = point e ++ points_of point es

unfoldable pub extracted_vertices : (values : List Float) (l : Lattice) (iso : Float) → List Float
extracted_vertices values l iso = points_of (edge_point values l iso) (vertex_edges values l iso)
