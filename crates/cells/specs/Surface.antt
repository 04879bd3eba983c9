-- The words of an Isosurface: its faces, part by part, as the walk goes through them, of the cell at a node, of the line from a node on, of plane i, and all;
-- and what is asked of it. Definitions only; assumes nothing.
use Rattle.std.specs.Prelude.{◌≡◌, List, ℕ, ◌+◌, ◌-◌, ◌*◌, ◌≤◌, ◌<◌, length}
use Rattle.closed.specs.Faces.{Face}
use Rattle.grid.specs.Grid.{Counts}
use Rattle.cells.specs.Extraction.{count_x, count_y, count_z}
use Rattle.cells.specs.Words.{case_at, faces_at, line_faces, plane_faces, block_faces}
use Rattle.cells.specs.declared.Isosurface.{Isosurface}

abbrev pub cell_of : Isosurface → ℕ → List Face
cell_of s n = faces_at s.values.now (count_y s.lattice) (count_z s.lattice) s.iso n

abbrev pub line_of : Isosurface → ℕ → List Face
line_of s n = line_faces s.values.now (count_y s.lattice) (count_z s.lattice) s.iso n (count_z s.lattice - 1)

abbrev pub plane_of : Isosurface → ℕ → List Face
plane_of s i = plane_faces s.values.now (count_y s.lattice) (count_z s.lattice) s.iso i (count_y s.lattice - 1)

abbrev pub block_of : Isosurface → List Face
block_of s = block_faces s.values.now (count_y s.lattice) (count_z s.lattice) s.iso (count_x s.lattice - 1)

-- the case of the cell at node n
abbrev pub case_of : Isosurface → ℕ → ℕ
case_of s n = case_at s.values.now (count_y s.lattice) (count_z s.lattice) s.iso n

-- the side of cells, the cell, and the line of cells at node n have all their nodes
abbrev pub SideInside : Isosurface → ℕ → Type 0
SideInside s n = n + count_y s.lattice * count_z s.lattice + count_z s.lattice < length s.values.now

abbrev pub CellInside : Isosurface → ℕ → Type 0
CellInside s n = n + count_y s.lattice * count_z s.lattice + count_z s.lattice + 1 < length s.values.now

abbrev pub LineInside : Isosurface → ℕ → Type 0
LineInside s n = n + count_y s.lattice * count_z s.lattice + count_z s.lattice + count_z s.lattice ≤ length s.values.now

-- its lattice has nodes enough, and a value for each
pub record Sampled (s : Isosurface) : Type 0 where
  pub counts : Counts s.lattice.counts
  pub nodes : length s.values.now ≡ count_x s.lattice * count_y s.lattice * count_z s.lattice
