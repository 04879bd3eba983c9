-- The words of the second pass's contracts: the state that goes from edge to edge, and what the pass asks and promises. The laws that turn them into the
-- words of Extraction are in proofs/. Definitions only; assumes nothing.
use Rattle.std.specs.Prelude.{◌≡◌, cond, List, [], ◌∷◌, map, ℕ, ◌+◌, ◌-◌, ◌*◌, ◌≤◌, ◌<◌, eqb, Float, length, get_or}
use Rattle.std.proofs.lemmas.List.Edits.{sets}
use Rattle.closed.specs.Lists.{All}
use Rattle.closed.specs.Faces.{Face, corners}
use Rattle.grid.specs.Grid.{Counts}
use Rattle.grid.specs.declared.Lattice.{Lattice}
use Rattle.cells.specs.Extraction.{edge_faces, vertex_edges, edge_point, extracted_faces, extracted_vertices}
use Rattle.cells.specs.Words.{Inner}
use Rattle.cells.specs.declared.Isosurface.{Isosurface}
use Rattle.meshes.specs.declared.MeshSize.{MeshSize}
use Rattle.numbering.specs.Words.{Numberable, edge_table}

-- ---- writing: the coordinates, and how many vertices they are of; the faces

abbrev pub Places : Type 0
Places = List Float × ℕ

-- a vertex is written at the first use of its edge: then its number, one less than the table's entry, is how many are written
abbrev pub place1 : (table : List ℕ) (point : ℕ → List Float) → Places → ℕ → Places
place1 table point s e = cond (eqb (get_or table e 0) (s.1 + 1)) (sets s.0 (3 * s.1) (point e), s.1 + 1) s

unfoldable pub place_all : (table : List ℕ) (point : ℕ → List Float) → Places → List ℕ → Places
place_all table point s [] = s
place_all table point s (e ∷ es) = place_all table point (place1 table point s e) es

-- the vertex of an edge
abbrev pub vertex_in : (table : List ℕ) (e : ℕ) → ℕ
vertex_in table e = get_or table e 0 - 1

-- the faces fs were written, from `had` to `got`, with vs' and os' for the slices vs and os
pub record Written (table : List ℕ) (point : ℕ → List Float) (vs vs' : List Float) (os os' : List ℕ) (had got : MeshSize) (fs : List Face) : Type 0 where
  pub placed : ◌≡◌ {A = Places} (vs', got.vertices) (place_all table point (vs, had.vertices) (corners fs))
  pub written : os' ≡ sets os (3 * had.faces) (map (vertex_in table) (corners fs))
  pub counted : got.faces ≡ had.faces + length fs

-- there is room for them
pub record RoomFor (table : List ℕ) (point : ℕ → List Float) (vs : List Float) (os : List ℕ) (had : MeshSize) (fs : List Face) : Type 0 where
  pub vertices : 3 * (place_all table point (vs, had.vertices) (corners fs)).1 ≤ length vs
  pub faces : 3 * (had.faces + length fs) ≤ length os

-- where the vertex on an edge of a surface lies
abbrev pub point_of : Isosurface → ℕ → List Float
point_of x = edge_point x.values.now x.lattice x.iso

-- the faces fs may be written: their edges are in the table and have both their nodes, and there is room
pub record Placeable (x : Isosurface) (table : List ℕ) (vs : List Float) (os : List ℕ) (had : MeshSize) (fs : List Face) : Type 0 where
  pub counts : Counts x.lattice.counts
  pub edges : All (λ e. (e < length table) × Inner x.values.now x.lattice e) (corners fs)
  pub room : RoomFor table (point_of x) vs os had fs

-- ---- what the pass asks and promises

-- the first pass's table, and slices of exactly the lengths that it counted
pub record Writable (values : List Float) (table : List ℕ) (l : Lattice) (iso : Float) (vertices : List Float) (faces : List ℕ) : Type 0 where
  pub ready : Numberable values table l
  pub numbers : table ≡ edge_table values l iso
  pub points : length vertices ≡ 3 * length (vertex_edges values l iso)
  pub triples : length faces ≡ 3 * length (edge_faces values l iso)

pub record Mesh (values : List Float) (l : Lattice) (iso : Float) (vertices : List Float) (faces : List ℕ) : Type 0 where
  pub points : vertices ≡ extracted_vertices values l iso
  pub triples : faces ≡ corners (extracted_faces values l iso)
