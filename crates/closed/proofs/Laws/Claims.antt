-- What is claimed of the mesh that extraction yields (document 01, "Extraction", and demand 3 of the mission). To read it, read the definitions: Lists, Faces,
-- Numbering, Table, Rows, Grid. `grid_faces nx ny nz below` are the faces over edge numbers of a grid whose node i j k is below the level where `below i j k`
-- says so, `mesh` the same faces over vertex numbers, `used` the edges of the vertices in their order. Each claim is proved by the laws it cites.
-- Assumes nothing.
use Rattle.std.specs.Prelude.{◌≡◌, Bool, List, map, ℕ, ◌+◌, ◌-◌, ◌≤◌, length}
use Rattle.std.proofs.Common.{sym, ap, ◌∙◌, add-zero}
use Rattle.std.proofs.lemmas.List.{length-map}
use Rattle.closed.specs.Lists.{All, sum3}
use Rattle.closed.specs.Faces.{Face, Balanced, Apart, turn, map_face}
use Rattle.closed.specs.Numbering.{index_of, used, edge_of, mesh}
use Rattle.closed.specs.Table.{Table, flip}
use Rattle.closed.specs.Rows.{triangles, emit, emitted}
use Rattle.closed.specs.Grid.{cell_case, cell_edge, cell_faces, grid_faces, Outer}
use Rattle.closed.proofs.Laws.Sums.{sum3_cong}
use Rattle.closed.proofs.Laws.Counting.{length_cells3}
use Rattle.closed.proofs.Laws.Turning.{balanced_turn, all_apart_turn}
use Rattle.closed.proofs.Laws.Mesh.{mesh_balanced, mesh_apart, mesh_length, mesh_edges, mesh_first_use, edge_of_injective, edge_used, number_lt, edge_of_number}
use Rattle.closed.proofs.Laws.Tested as tested
use Rattle.closed.proofs.Laws.Cells.{low_x_is, high_x_is, low_y_is, high_y_is, low_z_is, high_z_is, grid_faces_apart, grid_faces_balanced}
use Rattle.closed.proofs.Laws.Crossings.{crossed_used, used_crossed}
use Rattle.closed.proofs.Laws.Vertices.{vertices_count}
use Rattle.closed.specs.Laws.Cells.{side_x, side_y, side_z}
use Rattle.closed.specs.Laws.Claims.{SidesReversed, OneToOne, Sound}

-- ---- the table

-- All 256 rows keep the rule: exactly the crossed edges, three different ones a triple, and directed edges that depend on the sides' corners alone.
pub table_rule : Table emitted
table_rule = tested.table_rule

pub neighbours_opposite : (ny nz : ℕ) (below : ℕ → ℕ → ℕ → Bool) (i j k : ℕ) → SidesReversed ny nz below i j k
neighbours_opposite ny nz below i j k =
    record {
      x = high_x_is ny nz below i j k
          ∙ sym (ap (map flip) (low_x_is ny nz below (i + 1) j k ∙ ap (λ (a : ℕ). side_x ny nz below a j k) (add-zero (i + 1))));
      y = high_y_is ny nz below i j k
          ∙ sym (ap (map flip) (low_y_is ny nz below i (j + 1) k ∙ ap (λ (a : ℕ). side_y ny nz below i a k) (add-zero (j + 1))));
      z = high_z_is ny nz below i j k
          ∙ sym (ap (map flip) (low_z_is ny nz below i j (k + 1) ∙ ap (λ (a : ℕ). side_z ny nz below i j a) (add-zero (k + 1))));
    }

-- ---- what holds in every grid, from 2 nodes an axis up

-- F, over edge numbers
pub grid_length : (nx ny nz : ℕ) (below : ℕ → ℕ → ℕ → Bool)
    → length (grid_faces nx ny nz below) ≡ sum3 (nx - 1) (ny - 1) (nz - 1) (λ i j k. length (triangles (cell_case below i j k)))
unfolding grid_faces cell_faces emitted
grid_length nx ny nz below =
    length_cells3 (nx - 1) (ny - 1) (nz - 1) (cell_faces ny nz below)
    ∙ sum3_cong (nx - 1) (ny - 1) (nz - 1) _ _ (λ i j k bi bj bk.
    length-map (emitted (cell_case below i j k)) (map_face (cell_edge ny nz i j k)) ∙ length-map (triangles (cell_case below i j k)) emit)

pub grid_one_to_one : (nx ny nz : ℕ) → 2 ≤ nx → 2 ≤ ny → 2 ≤ nz → (below : ℕ → ℕ → ℕ → Bool) → OneToOne nx ny nz below
grid_one_to_one nx ny nz hx hy hz below =
    let fs : List Face = grid_faces nx ny nz below in
    record {
      different = edge_of_injective fs;
      crossed = λ v h. used_crossed nx ny nz hx hy hz below (edge_of fs v) (edge_used fs v h);
      covered = λ e c.
          let m = crossed_used nx ny nz hx hy hz below e c in
          (index_of e (used fs), number_lt fs e m, edge_of_number fs e m);
      counted = vertices_count nx ny nz hx hy hz below;
    }

pub grid_sound : (nx ny nz : ℕ) → 2 ≤ nx → 2 ≤ ny → 2 ≤ nz → (below : ℕ → ℕ → ℕ → Bool) → Sound nx ny nz below
grid_sound nx ny nz hx hy hz below =
    let fs : List Face = grid_faces nx ny nz below in
    record {
      one_to_one = grid_one_to_one nx ny nz hx hy hz below;
      faces = mesh_edges fs;
      first_use = mesh_first_use fs;
      apart = mesh_apart fs (grid_faces_apart nx ny nz hx hy hz below);
      counted = mesh_length fs ∙ grid_length nx ny nz below;
    }

-- ---- where the outer nodes are all on one side the mesh is closed

pub grid_closed : (nx ny nz : ℕ) → 2 ≤ nx → 2 ≤ ny → 2 ≤ nz → (below : ℕ → ℕ → ℕ → Bool) (s : Bool) → Outer nx ny nz below s
    → Balanced (mesh (grid_faces nx ny nz below))
grid_closed nx ny nz hx hy hz below s outer = mesh_balanced (grid_faces nx ny nz below) (grid_faces_balanced nx ny nz hx hy hz below s outer)

-- ---- both are kept when all faces are turned

pub grid_closed_turned : (nx ny nz : ℕ) → 2 ≤ nx → 2 ≤ ny → 2 ≤ nz → (below : ℕ → ℕ → ℕ → Bool) (s : Bool) → Outer nx ny nz below s
    → Balanced (map turn (mesh (grid_faces nx ny nz below)))
grid_closed_turned nx ny nz hx hy hz below s outer = balanced_turn (mesh (grid_faces nx ny nz below)) (grid_closed nx ny nz hx hy hz below s outer)

pub grid_apart_turned : (nx ny nz : ℕ) → 2 ≤ nx → 2 ≤ ny → 2 ≤ nz → (below : ℕ → ℕ → ℕ → Bool) → All Apart (map turn (mesh (grid_faces nx ny nz below)))
grid_apart_turned nx ny nz hx hy hz below = all_apart_turn (mesh (grid_faces nx ny nz below)) (grid_sound nx ny nz hx hy hz below).apart
