-- The untrimmed mesh as two flat lists: V places and F triples of numbers below V, oriented or not; V is at most 3N and 3F fits a u32. By the numbering at
-- first use and the bounds of the crate `closed`. Assumes nothing.
use Rattle.std.specs.Prelude.{◌≡◌, ℕ, ◌*◌, ◌≤◌, ◌<◌, length, get_or, Float}
use Rattle.std.proofs.Math.Path.{refl}
use Rattle.std.proofs.Common.{arith}
use mathlib.Core.List.{List, [], ◌∷◌}
use Rattle.std.proofs.Math.ListN.{length-append}
use Rattle.closed.specs.Faces.{corners}
use Rattle.closed.specs.Numbering.{mesh}
use Rattle.closed.proofs.Laws.Renumber.{in_at}
use Rattle.closed.proofs.Laws.Turning.{length_corners}
use Rattle.closed.proofs.Laws.Mesh.{mesh_length, corner_lt}
use Rattle.closed.proofs.Laws.Bounds.{vertices_le}
use Rattle.grid.specs.declared.Lattice.{Lattice}
use Rattle.grid.specs.Grid.{Counts}
use Rattle.cells.specs.Extraction.{count_x, count_y, count_z, below, edge_faces, vertex_edges, extracted_faces, extracted_vertices, edge_point, points_of}
use Rattle.cells.specs.Laws.Cells as Cells
use Rattle.meshes.specs.FlatMesh.{vertex_count, Meshed}

module _ (values : List Float) (l : Lattice) (iso : Float) where
  -- three coordinates a vertex
  three_each : (es : List ℕ) → length (points_of (edge_point values l iso) es) ≡ 3 * length es
  unfolding points_of edge_point
  three_each [] = refl
  three_each (e ∷ es) = omega (arith, length-append (edge_point values l iso e) (points_of (edge_point values l iso) es), three_each es)

  pub length_vertices : length (extracted_vertices values l iso) ≡ 3 * length (vertex_edges values l iso)
  unfolding extracted_vertices
  length_vertices = three_each (vertex_edges values l iso)

  pub count_vertices : vertex_count (extracted_vertices values l iso) ≡ length (vertex_edges values l iso)
  count_vertices = omega (arith, length_vertices)

  pub length_faces : length (extracted_faces values l iso) ≡ length (edge_faces values l iso)
  unfolding extracted_faces
  length_faces = mesh_length (edge_faces values l iso)

  number_below : (k : ℕ) → k < length (corners (extracted_faces values l iso)) → get_or (corners (extracted_faces values l iso)) k 0 < length (vertex_edges values l iso)
  unfolding extracted_faces vertex_edges
  number_below k h = corner_lt (edge_faces values l iso) _ (in_at (corners (mesh (edge_faces values l iso))) 0 k h)

  pub extracted_meshed : Meshed (extracted_vertices values l iso) (corners (extracted_faces values l iso))
  extracted_meshed =
      record {
        places = omega (arith, length_vertices);
        triples = omega (arith, length_corners (extracted_faces values l iso));
        below = λ k h. omega (arith, count_vertices, number_below k h);
      }

  -- ---- how many there can be

  module _ (c : Counts l.counts) where
    pub few_vertices : length (vertex_edges values l iso) ≤ 3 * (count_x l * count_y l * count_z l)
    unfolding vertex_edges edge_faces
    few_vertices = vertices_le (count_x l) (count_y l) (count_z l) c.two_x c.two_y c.two_z (below values l iso)

    -- five a cell
    pub few_faces : length (edge_faces values l iso) ≤ 5 * (count_x l * count_y l * count_z l)
    few_faces = Cells.few_faces values l iso c
