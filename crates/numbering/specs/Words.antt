-- The words of the first pass's contracts: the state that goes from edge to edge, and what the pass asks and promises. The laws that turn them into the
-- words of Extraction are in proofs/. Definitions only; assumes nothing.
use Rattle.std.specs.Prelude.{◌≡◌, cond, List, [], ◌∷◌, ℕ, ◌+◌, ◌*◌, ◌≤◌, ◌<◌, eqb, Float, length, get_or, set}
use Rattle.lists.specs.Lists.{tabulate}
use Rattle.closed.specs.Lists.{All}
use Rattle.closed.specs.Faces.{Face, corners}
use Rattle.closed.specs.Numbering.{slot}
use Rattle.grid.specs.Grid.{Counts}
use Rattle.grid.specs.declared.Lattice.{Lattice}
use Rattle.cells.specs.Extraction.{count_x, count_y, count_z, edge_faces, vertex_edges}
use Rattle.meshes.specs.declared.MeshSize.{MeshSize}

-- ---- numbering: the table, and how many edges have a number

abbrev pub Marks : Type 0
Marks = List ℕ × ℕ

-- an edge gets the next number, one more than its place, unless it has one
abbrev pub mark1 : Marks → ℕ → Marks
mark1 s e = cond (eqb (get_or s.0 e 0) 0) (set s.0 e (s.1 + 1), s.1 + 1) s

unfoldable pub mark_all : Marks → List ℕ → Marks
mark_all s [] = s
mark_all s (e ∷ es) = mark_all (mark1 s e) es

abbrev pub none : MeshSize
none = record { vertices = 0; faces = 0 }

-- the faces fs were gone through, from `had` to `got`, with the table t' for t
pub record Numbered (t t' : List ℕ) (had got : MeshSize) (fs : List Face) : Type 0 where
  pub marks : ◌≡◌ {A = Marks} (t', got.vertices) (mark_all (t, had.vertices) (corners fs))
  pub counted : got.faces ≡ had.faces + length fs

-- the faces fs may be gone through: their edges are in the table, and there are few enough
pub record Markable (table : List ℕ) (had : MeshSize) (fs : List Face) : Type 0 where
  pub edges : All (λ e. e < length table) (corners fs)
  pub vertices : had.vertices + 3 * length fs ≤ 4294967295
  pub faces : had.faces + length fs ≤ 4294967295

-- ---- what the pass asks and promises

-- the values and the edge table of a lattice
pub record Numberable (values : List Float) (table : List ℕ) (l : Lattice) : Type 0 where
  pub counts : Counts l.counts
  pub nodes : length values ≡ count_x l * count_y l * count_z l
  pub edges : length table ≡ 3 * (count_x l * count_y l * count_z l)

-- each edge's number: one more than its vertex, or 0
abbrev pub edge_table : (values : List Float) (l : Lattice) (iso : Float) → List ℕ
edge_table values l iso = tabulate (3 * (count_x l * count_y l * count_z l)) (slot (vertex_edges values l iso))

-- the table is numbered at first use; V and F are the lengths of the definitions
pub record Counted (values : List Float) (table : List ℕ) (l : Lattice) (iso : Float) (r : MeshSize) : Type 0 where
  pub numbers : table ≡ edge_table values l iso
  pub vertices : r.vertices ≡ length (vertex_edges values l iso)
  pub faces : r.faces ≡ length (edge_faces values l iso)
