-- Document 01, the whole call: its modules' definitions put together in the order of the data's way, and nothing else; then its verdict in the order of
-- checking, its answer, and what stands in the result slices. Definitions only; assumes nothing.
use Rattle.std.specs.Prelude.{cond, List, [], ◌∷◌, ℕ, length, Float}
use Rattle.closed.specs.Faces.{Face, corners}
use Rattle.grid.specs.declared.Grid.{Grid}
use Rattle.grid.specs.declared.Lattice.{Lattice}
use Rattle.grid.specs.Grid.{grid_of, lattice_of}
use Rattle.points.specs.declared.point.Point.{Point}
use Rattle.points.specs.Points.{usables}
use Rattle.points.specs.Box.{bounds_of, extent_of, side_of, origin_of}
use Rattle.search.specs.Spacing.{spacing_of}
use Rattle.settings.specs.declared.Settings.{Settings}
use Rattle.settings.specs.declared.Lengths.{Lengths}
use Rattle.answers.specs.declared.Answer.{Answer}
use Rattle.answers.specs.Answers.{Verdict, accepts, answer_under, ◌then◌}
use Rattle.settings.specs.Refusals.{early_verdict, usable_verdict, extent_verdict, vertex_room_verdict, face_room_verdict, mesh_verdict}
use Rattle.levels.specs.declared.Problem.{Problem}
use Rattle.levels.specs.Levels.{solution}
use Rattle.trim.specs.Trim.{trimmed_vertices, trimmed_faces}
use Rattle.cells.specs.Extraction.{vertex_edges, edge_faces, extracted_vertices, extracted_faces}
use Rattle.meshes.specs.FlatMesh.{vertex_count}
use Rattle.meshes.specs.BoxOfVertices.{box_of}
use Rattle.orientation.specs.Orientation.{oriented_faces}
use Rattle.surface.specs.Surface.{level_of}
use Rattle.ending.specs.Slices.{Slices}

-- ---- the stages, over the usable points

-- the largest extent of the points
abbrev pub extent_for : (ps : List Point) → Float
extent_for ps = extent_of (bounds_of ps)

-- the grid over the cube round them
unfoldable pub grid_for : (ps : List Point) → Settings → Grid
grid_for ps st = grid_of (origin_of (bounds_of ps)) (side_of (bounds_of ps)) st.depth

abbrev pub lattice_for : (ps : List Point) → Settings → Lattice
lattice_for ps st = lattice_of (grid_for ps st)

-- what the solver is asked
abbrev pub problem_for : (ps : List Point) → Settings → Problem
problem_for ps st =
    record {
      origin = origin_of (bounds_of ps);
      size = side_of (bounds_of ps);
      spacing = spacing_of ps (extent_for ps);
      smoothing = st.smoothing;
      cap = st.max_iterations;
      tolerance = st.tolerance;
    }

-- the solver's field, one value a node
unfoldable pub field_for : (ps : List Point) → Settings → List Float
field_for ps st = solution (problem_for ps st) ps st.depth

-- the level
unfoldable pub level_for : (ps : List Point) → Settings → Float
level_for ps st = level_of (grid_for ps st) (field_for ps st) ps st.iso_offset

-- the untrimmed mesh: extracted at the level, then oriented
unfoldable pub whole_vertices : (ps : List Point) → Settings → List Float
whole_vertices ps st = extracted_vertices (field_for ps st) (lattice_for ps st) (level_for ps st)

unfoldable pub whole_faces : (ps : List Point) → Settings → List Face
whole_faces ps st =
    oriented_faces (grid_for ps st) (field_for ps st) (whole_vertices ps st) (extracted_faces (field_for ps st) (lattice_for ps st) (level_for ps st))

-- its V and F
unfoldable pub vertex_total : (ps : List Point) → Settings → ℕ
vertex_total ps st = length (vertex_edges (field_for ps st) (lattice_for ps st) (level_for ps st))

unfoldable pub face_total : (ps : List Point) → Settings → ℕ
face_total ps st = length (edge_faces (field_for ps st) (lattice_for ps st) (level_for ps st))

-- the mesh that is returned: after trimming
unfoldable pub kept_vertices : (ps : List Point) → Settings → List Float
kept_vertices ps st = trimmed_vertices st.trimming ps (whole_vertices ps st) (whole_faces ps st)

unfoldable pub kept_faces : (ps : List Point) → Settings → List Face
kept_faces ps st = trimmed_faces st.trimming ps (whole_vertices ps st) (whole_faces ps st)

-- ---- the verdict: 7, 1, 2, 3, 8, 4, 5, 9, 10, 6

-- how long the lent slices are: the two for the mesh, the seven of a value a node, the edge table, and the one of a distance a point
abbrev pub lengths_of : Slices → Lengths
lengths_of lent =
    record {
      vertices = length lent.vertices;
      faces = length lent.faces;
      grids =
          length lent.scratch.s0
          ∷ length lent.scratch.s1
          ∷ length lent.scratch.s2
          ∷ length lent.scratch.s3
          ∷ length lent.scratch.s4
          ∷ length lent.scratch.s5
          ∷ length lent.scratch.s6
          ∷ [];
      edges = length lent.scratch.edges;
      distances = length lent.scratch.distances;
    }

-- 9, 10, then 6 before and after trimming
unfoldable pub late_verdict : (ps : List Point) → Settings → Lengths → Verdict
late_verdict ps st lent =
    vertex_room_verdict (vertex_total ps st) lent
    then face_room_verdict (face_total ps st) lent
    then mesh_verdict (face_total ps st)
    then mesh_verdict (length (kept_faces ps st))

unfoldable pub verdict_of : (xs : List Float) → Settings → Lengths → Verdict
verdict_of xs st lent =
    early_verdict xs st lent
    then usable_verdict (length (usables xs))
    then extent_verdict (extent_for (usables xs))
    then late_verdict (usables xs) st lent

-- ---- the answer and the results

-- of an accepted call: for so many usable points, a level, so many faces, and the vertices, of which V and the box are told
abbrev pub mesh_answer : (usable : ℕ) (level : Float) (faces : ℕ) (vertices : List Float) → Answer
mesh_answer usable level faces vertices =
    record {
      number = 0;
      usable = usable;
      vertices = vertex_count vertices;
      faces = faces;
      level = level;
      low = (box_of vertices).low;
      high = (box_of vertices).high;
    }

-- V, F and box are those of the mesh that is returned
unfoldable pub accepted_answer : (ps : List Point) → Settings → Answer
accepted_answer ps st = mesh_answer (length ps) (level_for ps st) (length (kept_faces ps st)) (kept_vertices ps st)

-- an answer, and what stands at the front of the two result slices
pub record Results : Type 0 where
  pub answer : Answer
  pub vertices : List Float
  pub faces : List ℕ

-- a refusal has no mesh
abbrev pub results_under : Verdict → (ps : List Point) → Settings → Results
results_under v ps st =
    record {
      answer = answer_under v (accepted_answer ps st);
      vertices = cond (accepts v) (kept_vertices ps st) [];
      faces = cond (accepts v) (corners (kept_faces ps st)) [];
    }

unfoldable pub reconstructed : (xs : List Float) → Settings → Lengths → Results
reconstructed xs st lent = results_under (verdict_of xs st lent) (usables xs) st
