-- What is claimed of the mesh that extraction yields (document 01, "Extraction", and demand 3 of the mission); proofs/Laws/Claims proves it. To read it, read
-- the definitions: Lists, Faces, Numbering, Table, Rows, Grid. `grid_faces nx ny nz below` are the faces over edge numbers of a grid whose node i j k is below
-- the level where `below i j k` says so, `mesh` the same faces over vertex numbers, `used` the edges of the vertices in their order. Definitions only; assumes
-- nothing.
use Rattle.std.specs.Prelude.{◌≡◌, Bool, map, ℕ, ◌+◌, ◌-◌, ◌<◌, length}
use Rattle.closed.specs.Lists.{All, upto, sum3}
use Rattle.closed.specs.Faces.{Apart, map_face}
use Rattle.closed.specs.Numbering.{used, edge_of, mesh}
use Rattle.closed.specs.Table.{flip, low_x, high_x, low_y, high_y, low_z, high_z}
use Rattle.closed.specs.Rows.{triangles}
use Rattle.closed.specs.Grid.{corner_below, cell_case, grid_faces, on_grid, Crossed, crossed_count}

-- What a side yields is opposite to what the neighbour's side yields, over the grid's edges, in any grid.
pub record SidesReversed (ny nz : ℕ) (below : ℕ → ℕ → ℕ → Bool) (i j k : ℕ) : Type 0 where
  pub x : on_grid ny nz i j k (high_x (corner_below below i j k)) ≡ map flip (on_grid ny nz (i + 1) j k (low_x (corner_below below (i + 1) j k)))
  pub y : on_grid ny nz i j k (high_y (corner_below below i j k)) ≡ map flip (on_grid ny nz i (j + 1) k (low_y (corner_below below i (j + 1) k)))
  pub z : on_grid ny nz i j k (high_z (corner_below below i j k)) ≡ map flip (on_grid ny nz i j (k + 1) (low_z (corner_below below i j (k + 1))))

-- Vertices and crossed edges match one to one: the edge of vertex v is `edge_of (grid_faces ..) v`.
pub record OneToOne (nx ny nz : ℕ) (below : ℕ → ℕ → ℕ → Bool) : Type 0 where
  -- different vertices have different edges
  pub different : (v w : ℕ) → v < length (used (grid_faces nx ny nz below)) → w < length (used (grid_faces nx ny nz below))
      → edge_of (grid_faces nx ny nz below) v ≡ edge_of (grid_faces nx ny nz below) w → v ≡ w
  -- no other edge is a vertex's than a crossed one
  pub crossed : (v : ℕ) → v < length (used (grid_faces nx ny nz below)) → Crossed nx ny nz below (edge_of (grid_faces nx ny nz below) v)
  -- every crossed edge is some vertex's
  pub covered : (e : ℕ) → Crossed nx ny nz below e
      → (v : ℕ) × (v < length (used (grid_faces nx ny nz below))) × (edge_of (grid_faces nx ny nz below) v ≡ e)
  -- V is the number of crossed edges, counted over all edges of the grid
  pub counted : length (used (grid_faces nx ny nz below)) ≡ crossed_count nx ny nz below

pub record Sound (nx ny nz : ℕ) (below : ℕ → ℕ → ℕ → Bool) : Type 0 where
  pub one_to_one : OneToOne nx ny nz below
  -- the vertices of a face are those of its edges: read back as edges, the mesh is the faces again
  pub faces : map (map_face (edge_of (grid_faces nx ny nz below))) (mesh (grid_faces nx ny nz below)) ≡ grid_faces nx ny nz below
  -- vertices are numbered at first use: read in order, the corners name 0, 1 .. V - 1, each for the first time in this order
  pub first_use : used (mesh (grid_faces nx ny nz below)) ≡ upto (length (used (grid_faces nx ny nz below)))
  -- each face has three different corners
  pub apart : All Apart (mesh (grid_faces nx ny nz below))
  -- F is the sum of the row lengths, in triples, over all cells
  pub counted : length (mesh (grid_faces nx ny nz below)) ≡ sum3 (nx - 1) (ny - 1) (nz - 1) (λ i j k. length (triangles (cell_case below i j k)))
