-- Demand 3 for the mesh that extraction writes, said over the values, the lattice and the level: vertices and crossed edges match one to one and lie where
-- those edges are crossed, V and F are what is counted over edges and cells, each face has three different vertices, and where all outer nodes are on one
-- side as many faces run from one vertex to another as back. Each claim is one of the crate `closed`, at this `below`. Assumes nothing.
use Rattle.std.specs.Prelude.{◌≡◌, Bool, List, ◌-◌, Float, length}
use Rattle.std.proofs.Math.Path.{refl}
use Rattle.closed.specs.Lists.{All, sum3}
use Rattle.closed.specs.Faces.{Balanced, Apart}
use Rattle.closed.specs.Numbering.{used}
use Rattle.closed.specs.Rows.{triangles}
use Rattle.closed.specs.Grid.{cell_case, grid_faces, Outer}
use Rattle.closed.proofs.Laws.Claims.{grid_sound, grid_closed}
use Rattle.closed.specs.Laws.Claims.{OneToOne, Sound}
use Rattle.grid.specs.Grid.{Counts}
use Rattle.grid.specs.declared.Lattice.{Lattice}
use Rattle.cells.specs.Extraction.{count_x, count_y, count_z, below, edge_faces, vertex_edges, extracted_faces, extracted_vertices, edge_point, points_of}

module _ (values : List Float) (l : Lattice) (iso : Float) (counts : Counts l.counts) where
  pub one_to_one : OneToOne (count_x l) (count_y l) (count_z l) (below values l iso)
  one_to_one = (grid_sound (count_x l) (count_y l) (count_z l) counts.two_x counts.two_y counts.two_z (below values l iso)).one_to_one

  -- the coordinates are those of the vertices' edges, in their order
  pub places : extracted_vertices values l iso ≡ points_of (edge_point values l iso) (used (grid_faces (count_x l) (count_y l) (count_z l) (below values l iso)))
  unfolding extracted_vertices vertex_edges edge_faces
  places = refl

  pub sound : Sound (count_x l) (count_y l) (count_z l) (below values l iso)
  sound = grid_sound (count_x l) (count_y l) (count_z l) counts.two_x counts.two_y counts.two_z (below values l iso)

  pub three_different : All Apart (extracted_faces values l iso)
  unfolding extracted_faces edge_faces
  three_different = sound.apart

  pub faces_counted : length (extracted_faces values l iso)
      ≡ sum3 (count_x l - 1) (count_y l - 1) (count_z l - 1) (λ i j k. length (triangles (cell_case (below values l iso) i j k)))
  unfolding extracted_faces edge_faces
  faces_counted = sound.counted

  pub closed : (s : Bool) → Outer (count_x l) (count_y l) (count_z l) (below values l iso) s → Balanced (extracted_faces values l iso)
  unfolding extracted_faces edge_faces
  closed s outer = grid_closed (count_x l) (count_y l) (count_z l) counts.two_x counts.two_y counts.two_z (below values l iso) s outer
