-- Numbers and positions undo each other and stay in range. A node's number has its position as digits, to the bases ny and nz, and an edge's number has
-- its axis as the last digit to base 3. So they are one to one: said without the undoing, that is `node_unique` and `edge_unique` in Crossings of the
-- crate `closed`. Assumes nothing.
use Rattle.std.specs.Prelude.{◌≡◌, refl, List, [], ◌∷◌, ℕ, ◌+◌, ◌*◌, ◌/◌, ◌%◌, ◌<◌}
use Rattle.std.proofs.Common.{ap, ◌∙◌, add_assoc, add-mul, mul_assoc, one-mul, div-add-mod', arith}
use Rattle.std.proofs.Math.Arith.{digits_div, digits_mod}
use Rattle.closed.specs.Grid.{node, edge}
use Rattle.closed.proofs.Laws.Crossings.{node_lt}
use Rattle.grid.specs.Grid.{Position, node_at, coords_of, row_start, line_start, node_of, axis_of}
use Rattle.grid.specs.Laws.Rows.{row_of}

-- ---- nodes

pub node_below : {nx ny nz : ℕ} {at : List ℕ} → Position nx ny nz at → node_at ny nz at < nx * ny * nz
node_below h = node_lt _ _ _ _ _ _ h.i h.j h.k

pub coords_of_node : {ny nz : ℕ} (i : ℕ) {j k : ℕ} → j < ny → k < nz → coords_of ny nz (node ny nz i j k) ≡ i ∷ j ∷ k ∷ []
unfolding node
coords_of_node {ny} i {j} hj hk = rw (digits_div (i * ny + j) hk, digits_mod (i * ny + j) hk, digits_div i hj, digits_mod i hj)

pub node_of_coords : (ny nz q : ℕ) → node_at ny nz (coords_of ny nz q) ≡ q
unfolding node
node_of_coords ny nz q = ap (λ (r : ℕ). r * nz + q % nz) (div-add-mod' (q / nz) ny) ∙ div-add-mod' q nz

pub coords_below : {q : ℕ} (nx ny nz : ℕ) → q < nx * ny * nz → Position nx ny nz (coords_of ny nz q)
coords_below nx ny nz h =
    let row = row_of (nx * ny) nz h in
    let plane = row_of nx ny row.0 in
    record { i = plane.0; j = plane.1; k = row.1 }

-- a node is found from the start of its line, and in the cube from the start of its row
pub line_node : (ny nz i j k : ℕ) → node ny nz i j k ≡ line_start ny nz i j + k
unfolding node
line_node ny nz i j k = omega (arith, add-mul (i * ny) j nz, mul_assoc i ny nz)

pub row_node : (n i j k : ℕ) → node n n i j k ≡ row_start n (i * n + j) + k
unfolding node
row_node n i j k = refl

-- one step along an axis is ny * nz, nz or 1 in the number
pub node_next : (ny nz i j k : ℕ)
    → (node ny nz (i + 1) j k ≡ node ny nz i j k + ny * nz)
    × (node ny nz i (j + 1) k ≡ node ny nz i j k + nz)
    × (node ny nz i j (k + 1) ≡ node ny nz i j k + 1)
unfolding node
node_next ny nz i j k =
    let plane : (i + 1) * ny + j ≡ i * ny + j + ny = omega (arith, add-mul i 1 ny, one-mul ny) in (
      ap (λ (r : ℕ). r * nz + k) plane ∙ omega (arith, add-mul (i * ny + j) ny nz),
      omega (arith, add-mul (i * ny + j) 1 nz, one-mul nz, ap (λ (r : ℕ). r * nz) (add_assoc (i * ny) j 1)),
      omega arith,
    )

-- ---- edges

pub node_of_edge : (n : ℕ) {axis : ℕ} → axis < 3 → node_of (edge n axis) ≡ n
unfolding edge
node_of_edge n h = omega arith

pub axis_of_edge : (n : ℕ) {axis : ℕ} → axis < 3 → axis_of (edge n axis) ≡ axis
unfolding edge
axis_of_edge n h = omega arith

pub edge_of_both : (e : ℕ) → edge (node_of e) (axis_of e) ≡ e
unfolding edge
edge_of_both e = omega arith

pub edge_below : {n axis all : ℕ} → n < all → axis < 3 → edge n axis < 3 * all
unfolding edge
edge_below h a = omega arith

pub edge_node_below : {e all : ℕ} → e < 3 * all → node_of e < all
edge_node_below h = omega arith

pub axis_below : (e : ℕ) → axis_of e < 3
axis_below e = omega arith
