-- Worked examples, computed: the definitions give what document 01 says they should (P12 and the 3×3×3 case), and what the theorem asks can be met.
-- Nothing cites this file. Assumes nothing.
use Rattle.std.specs.Prelude.{◌≡◌, refl, Bool, true, false, ◌&&◌, List, [], ◌∷◌, ℕ, ◌+◌, ◌*◌, pos, negsuc, length, eqb}
use Rattle.std.proofs.Common.{arith}
use Rattle.closed.specs.Lists.{count, member, sum, sum3, cells, cells3}
use Rattle.closed.specs.Faces.{Face, face, Balanced}
use Rattle.closed.specs.Numbering.{index_of, note, grow, dedup, used, mesh}
use Rattle.closed.specs.Table.{arc, arcs, balanced_test, low_x, low_of, cube_axis}
use Rattle.closed.specs.Rows.{rows, row, triangles, emitted, entry}
use Rattle.closed.specs.Grid.{node, edge, cell_faces, grid_faces, crossed_count, Outer}
use Rattle.closed.proofs.Laws.Arcs.{faces_by_test}
use Rattle.closed.proofs.Laws.Claims.{grid_closed}

-- ---- lists

-- cells run i, j, k: the last index changes first
cell_order : cells3 2 2 2 (λ i j k. (4 * i + 2 * j + k) ∷ []) ≡ 0 ∷ 1 ∷ 2 ∷ 3 ∷ 4 ∷ 5 ∷ 6 ∷ 7 ∷ []
unfolding cells3 cells
cell_order = refl

first_use : dedup (30 ∷ 10 ∷ 30 ∷ 20 ∷ 10 ∷ []) ≡ 30 ∷ 10 ∷ 20 ∷ []
unfolding dedup grow note member
first_use = refl

place : index_of 20 (30 ∷ 10 ∷ 20 ∷ []) ≡ 2
unfolding index_of
place = refl

-- ---- a tetrahedron over the edges 10, 21, 32, 43 is closed; a face alone is not

tetra : List Face
tetra = face 10 21 32 ∷ face 10 43 21 ∷ face 21 43 32 ∷ face 32 43 10 ∷ []

tetra_closed : Balanced tetra
unfolding tetra balanced_test count
tetra_closed = faces_by_test tetra refl refl

tetra_mesh : mesh tetra ≡ face 0 1 2 ∷ face 0 3 1 ∷ face 1 3 2 ∷ face 2 3 0 ∷ []
unfolding tetra mesh used dedup grow note member index_of
tetra_mesh = refl

alone : balanced_test (arcs (face 10 21 32 ∷ [])) ≡ false
unfolding balanced_test count
alone = refl

-- ---- the table: case 1, corner 0 alone below the level

case_1 : (triangles 1 ≡ face 0 8 3 ∷ []) × (emitted 1 ≡ face 0 3 8 ∷ []) × (entry 1 2 ≡ pos 3) × (entry 1 3 ≡ negsuc 0)
unfolding emitted triangles entry row rows
case_1 = (refl, refl, refl, refl)

-- its lower x side yields one directed edge, which the emitted face 0 3 8 has
case_1_side : low_x (λ c. eqb c 0) ≡ arc 3 8 ∷ []
case_1_side = refl

-- edge 3 of a cube, named from corner 3 to corner 0, starts at corner 0 and goes along y
edge_3 : (low_of 3 ≡ 0) × (cube_axis 3 ≡ 1)
edge_3 = (refl, refl)

-- ---- P12: nodes 2×2×2, only (0,0,0) below the level: the edges from it along x, y and z, and the face 0 1 2. It is open.

corner_below : ℕ → ℕ → ℕ → Bool
corner_below i j k = eqb i 0 && eqb j 0 && eqb k 0

p12_edges : used (grid_faces 2 2 2 corner_below) ≡ edge (node 2 2 0 0 0) 0 ∷ edge (node 2 2 0 0 0) 1 ∷ edge (node 2 2 0 0 0) 2 ∷ []
unfolding corner_below grid_faces cell_faces cells3 cells node edge emitted triangles row rows used dedup grow note member
p12_edges = refl

p12_face : mesh (grid_faces 2 2 2 corner_below) ≡ face 0 1 2 ∷ []
unfolding corner_below grid_faces cell_faces cells3 cells node edge emitted triangles row rows mesh used dedup grow note member index_of
p12_face = refl

p12_count : crossed_count 2 2 2 corner_below ≡ 3
unfolding corner_below crossed_count sum3 sum
p12_count = refl

p12_open : balanced_test (arcs (mesh (grid_faces 2 2 2 corner_below))) ≡ false
unfolding corner_below grid_faces cell_faces cells3 cells node edge emitted triangles row rows mesh used dedup grow note member index_of balanced_test count
p12_open = refl

-- ---- nodes 3×3×3, only the centre below the level: 6 vertices, 8 faces, closed. The first three vertices lie on the edges from (1,1,0) along z, from (1,0,1)
-- along y and from (0,1,1) along x.

centre_below : ℕ → ℕ → ℕ → Bool
centre_below i j k = eqb i 1 && eqb j 1 && eqb k 1

centre_edges : used (grid_faces 3 3 3 centre_below)
    ≡ edge (node 3 3 1 1 0) 2 ∷ edge (node 3 3 1 0 1) 1 ∷ edge (node 3 3 0 1 1) 0
    ∷ edge (node 3 3 1 1 1) 2 ∷ edge (node 3 3 1 1 1) 1 ∷ edge (node 3 3 1 1 1) 0 ∷ []
unfolding centre_below grid_faces cell_faces cells3 cells node edge emitted triangles row rows used dedup grow note member
centre_edges = refl

centre_faces : length (mesh (grid_faces 3 3 3 centre_below)) ≡ 8
unfolding centre_below grid_faces cell_faces cells3 cells node edge emitted triangles row rows mesh
centre_faces = refl

centre_count : crossed_count 3 3 3 centre_below ≡ 6
unfolding centre_below crossed_count sum3 sum
centre_count = refl

-- its outer nodes are all above, so that it is closed by the theorem
centre_outer : Outer 3 3 3 centre_below false
unfolding centre_below
centre_outer =
    record {
      low_x = λ j k bj bk. refl;
      high_x = λ j k bj bk. refl;
      low_y = λ i k bi bk. middle (eqb i 1) (eqb k 1);
      high_y = λ i k bi bk. middle (eqb i 1) (eqb k 1);
      low_z = λ i j bi bj. end (eqb i 1 && eqb j 1);
      high_z = λ i j bi bj. end (eqb i 1 && eqb j 1);
    }
  where
    middle : (s t : Bool) → (s && false && t) ≡ false
    middle true t = refl
    middle false t = refl

    end : (s : Bool) → (s && false) ≡ false
    end true = refl
    end false = refl

centre_closed : Balanced (mesh (grid_faces 3 3 3 centre_below))
centre_closed = grid_closed 3 3 3 (omega arith) (omega arith) (omega arith) centre_below false centre_outer
