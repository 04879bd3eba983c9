-- Demand 3 of the mission, in its words and order: "Take any accepted call without trimming, even one whose field holds infinities or NaN. Call a node below
-- if its value is less than the level. The vertices match one to one the grid edges with one end below and one not. Every face names three different
-- vertices. For any two vertices, as many faces run from the first to the second as from the second to the first."
-- Said of what a call leaves: its answer, and the first 3V and 3F elements of the two result slices. The grid, its edges, faces over edges and their
-- numbering are those of the crate `closed`, below the level is that of `cells`, the values are the solver's field and the level is the answer's own.
-- Definitions only; assumes nothing.
use Rattle.std.specs.Prelude.{◌≡◌, Bool, List, ℕ, ◌-◌, ◌*◌, ◌^◌, ◌<◌, length, get_or, take, Float}
use Rattle.closed.specs.Lists.{All, sum3}
use Rattle.closed.specs.Faces.{Balanced, Apart, faces}
use Rattle.closed.specs.Numbering.{used, edge_of}
use Rattle.closed.specs.Rows.{triangles}
use Rattle.closed.specs.Grid.{node, cell_case, grid_faces, Crossed, crossed_count}
use Rattle.cells.specs.Extraction.{below_at, edge_point, points_of}
use Rattle.points.specs.Points.{usables}
use Rattle.settings.specs.declared.Settings.{Settings}
use Rattle.answers.specs.declared.Answer.{Answer}
use Rattle.ending.specs.Slices.{Slices}
use Rattle.scan.specs.Reconstruction.{Results, lattice_for, field_for}

-- ---- a closed mesh over a cube of n nodes per side

-- `below` tells which nodes are below the level, `place` where an edge is crossed; V is m.answer.vertices, F is m.answer.faces
pub record ClosedMesh (n : ℕ) (below : ℕ → ℕ → ℕ → Bool) (place : ℕ → List Float) (m : Results) : Type 0 where
  -- "The vertices match one to one the grid edges with one end below and one not": different vertices have different edges,
  pub different : (v w : ℕ) → v < m.answer.vertices → w < m.answer.vertices
      → edge_of (grid_faces n n n below) v ≡ edge_of (grid_faces n n n below) w → v ≡ w
  -- each vertex's edge is crossed, and each crossed edge is some vertex's
  pub crossed : (v : ℕ) → v < m.answer.vertices → Crossed n n n below (edge_of (grid_faces n n n below) v)
  pub covered : (e : ℕ) → Crossed n n n below e → (v : ℕ) × (v < m.answer.vertices) × (edge_of (grid_faces n n n below) v ≡ e)
  -- the vertices in the result slice: three coordinates each, those of its edge's point, in the order of the vertices
  pub vertex_total : length m.vertices ≡ 3 * m.answer.vertices
  pub places : m.vertices ≡ points_of place (used (grid_faces n n n below))
  -- V is the number of crossed edges, counted over all edges of the grid, and F the sum of the row lengths, in triples, over all cells
  pub vertex_count : m.answer.vertices ≡ crossed_count n n n below
  pub face_count : m.answer.faces ≡ sum3 (n - 1) (n - 1) (n - 1) (λ i j k. length (triangles (cell_case below i j k)))
  -- the faces in the result slice: three numbers each, all of vertices that there are
  pub face_total : length m.faces ≡ 3 * m.answer.faces
  pub named : (k : ℕ) → k < length m.faces → get_or m.faces k 0 < m.answer.vertices
  -- "Every face names three different vertices"
  pub apart : All Apart (faces m.faces)
  -- "For any two vertices, as many faces run from the first to the second as from the second to the first"
  pub balanced : Balanced (faces m.faces)

-- ---- at a call's values

-- the nodes per side
abbrev pub side_nodes : Settings → ℕ
side_nodes st = 2 ^ st.depth

-- "Call a node below if its value is less than the level"
abbrev pub Closed : (xs : List Float) → Settings → (m : Results) → Type 0
Closed xs st m =
    ClosedMesh (side_nodes st)
    (below_at (field_for (usables xs) st) (side_nodes st) (side_nodes st) m.answer.level)
    (edge_point (field_for (usables xs) st) (lattice_for (usables xs) st) m.answer.level)
    m

-- what a call left, read as a mesh: the answer, and as many elements of the two result slices as it tells
abbrev pub delivered : Answer → (after : Slices) → Results
delivered r after =
    record {
      answer = r;
      vertices = take (3 * r.vertices) after.vertices;
      faces = take (3 * r.faces) after.faces;
    }

pub record Demand3 (xs : List Float) (st : Settings) (r : Answer) (after : Slices) : Type 0 where
  pub closed : Closed xs st (delivered r after)
  -- the field has a value for every node, so no node that is looked at lies past its end
  pub node_read : (i j k : ℕ) → i < side_nodes st → j < side_nodes st → k < side_nodes st
      → node (side_nodes st) (side_nodes st) i j k < length (field_for (usables xs) st)
