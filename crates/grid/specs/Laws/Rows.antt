-- A slice as m rows of n elements, row r from r·n on: where a row ends, which row an element is in, and what the boundary of a cube is row by row. A loop
-- over the rows of a cube takes m = n * n. An element's row and its place there are its digits to base n: `digits_div`, `digits_mod` and `digits_lt` of
-- lib.Arith. Assumes nothing.
use Rattle.std.specs.Prelude.{◌≡◌, refl, Bool, true, false, ◌||◌, List, [], ◌∷◌, ℕ, zero, suc, ◌+◌, ◌-◌, ◌*◌, ◌/◌, ◌%◌, ◌<◌, ◌≤◌, eqb, get_or}
use Rattle.std.proofs.Common.{subst, true≢false, not-suc-le-zero, mul-zero, suc-mul, add-mul, one-mul, mul_comm, mul_assoc, mul-le-mul, mul-le-mul_right, mod-lt, div-lt_iff_lt-mul, div-mul-le_self, le-mul_of_pos_right, div-add-mod', arith, eq-eqb, ne_eqb}
use Rattle.std.proofs.Math.Nat.{lt-mul-div-succ}
use Rattle.std.proofs.lemmas.Bool.{eqb-false}
use lib.Arith.{digits_div, digits_mod}
use Rattle.closed.specs.Grid.{node}
use Rattle.grid.specs.Grid.{Sides, Counts, line_start, at_end, on_boundary, boundary_node, boundary_row}

-- ---- m rows of n elements

pub row_end : {r m : ℕ} (n : ℕ) → r < m → r * n + n ≤ m * n
row_end {r} {m} n h = subst (λ (k : ℕ). k ≤ m * n) (suc-mul r n) (mul-le-mul_right n h)

pub row_next : (r n : ℕ) → (r + 1) * n ≡ r * n + n
row_next r n = omega (arith, add-mul r 1 n, one-mul n)

-- rows that hold an element are not empty
pub row_some : {q : ℕ} (m n : ℕ) → q < m * n → 0 < n
row_some {q} m zero h = absurd (not-suc-le-zero (subst (λ (k : ℕ). q < k) (mul-zero m) h))
row_some m (suc n) h = omega arith

-- the row of an element, and its place there
pub row_of : {q : ℕ} (m n : ℕ) → q < m * n → (q / n < m) × (q % n < n)
row_of {q} m n h = ((div-lt_iff_lt-mul (row_some m n h)).1 h, mod-lt q (row_some m n h))

-- ---- the cube

pub square_most : {n : ℕ} → n ≤ 256 → n * n ≤ 65536
square_most h = mul-le-mul h h

pub cube_most : {n : ℕ} → n ≤ 256 → n * n * n ≤ 16777216
cube_most h = mul-le-mul (square_most h) h

-- the cube is a Lattice
pub cube_counts : {n : ℕ} → Sides n → Counts (n ∷ n ∷ n ∷ [])
cube_counts h = record { two_x = h.two; two_y = h.two; two_z = h.two; most = cube_most h.most }

-- a row is no longer than a plane
pub row_plane : {n : ℕ} → 0 < n → n ≤ n * n
row_plane {n} h = le-mul_of_pos_right n h

-- ---- the lines of a Lattice

-- there are no more planes, and no more lines to a plane, than nodes
pub counts_few : {c : List ℕ} → Counts c → (get_or c 0 0 ≤ 16777216) × (get_or c 1 0 ≤ 16777216)
counts_few {c} h =
    let nx = get_or c 0 0 in
    let ny = get_or c 1 0 in
    let nz = get_or c 2 0 in
    let one : 1 ≤ nx = omega (arith, h.two_x) in
    let row : 0 < nz = omega (arith, h.two_z) in
    let lines : ny ≤ ny * nz = le-mul_of_pos_right ny row in
    let plane : 0 < ny * nz = omega (arith, h.two_y, lines) in
    let planes : nx ≤ nx * (ny * nz) = le-mul_of_pos_right nx plane in
    (omega (arith, planes, mul_assoc nx ny nz, h.most), omega (arith, lines, mul-le-mul_right (ny * nz) one, one-mul (ny * nz), mul_assoc nx ny nz, h.most))

-- a line that is neither in the last plane nor the last of its plane has a next line, and both have theirs in the next plane
pub line_inside : {nx ny : ℕ} (nz i j : ℕ) → i + 1 < nx → j + 1 < ny → line_start ny nz i j + ny * nz + (nz + nz) ≤ nx * ny * nz
line_inside {nx} {ny} nz i j hi hj =
    let planes : i + 2 ≤ nx = omega arith in
    let lines : j + 2 ≤ ny = omega arith in
    omega (arith, mul-le-mul_right (ny * nz) planes, add-mul i 2 (ny * nz), mul-le-mul_right nz lines, add-mul j 2 nz, mul_assoc nx ny nz)

-- ---- the boundary, row by row

-- the element k of the row r is on the boundary where the row is, and at the row's two ends
pub boundary_row_lem : (n r : ℕ) {k : ℕ} → k < n → boundary_node n (r * n + k) ≡ boundary_row n r || at_end n k
boundary_row_lem n r h = rw (digits_div r h, digits_mod r h)

-- of the node at a position
pub boundary_node_lem : (n i : ℕ) {j k : ℕ} → j < n → k < n → boundary_node n (node n n i j k) ≡ on_boundary n i j k
unfolding node
boundary_node_lem n i {j} hj hk = rw (digits_div (i * n + j) hk, digits_mod (i * n + j) hk, digits_div i hj, digits_mod i hj)

-- ---- the ends of a row, and what is between them

pub first_end : (n : ℕ) → at_end n 0 ≡ true
first_end n = refl

pub last_end : (n : ℕ) → at_end n (n - 1) ≡ true
last_end n = go (eqb (n - 1) 0) (eq-eqb (n - 1) (n - 1) refl)
  where
    go : (a : Bool) {b : Bool} → b ≡ true → a || b ≡ true
    go true e = refl
    go false e = e

pub no_end : (n i : ℕ) → 0 < i → i + 1 < n → at_end n i ≡ false
no_end n i low high = rw (ne_eqb i 0 (λ e. omega arith), ne_eqb i (n - 1) (λ e. omega arith))

or-false : (a b : Bool) → a || b ≡ false → (a ≡ false) × (b ≡ false)
or-false true b e = absurd (true≢false e)
or-false false b e = (refl, e)

-- a node off the boundary is in a row off it, and between that row's ends
pub off_boundary : (n q : ℕ) → boundary_node n q ≡ false → (boundary_row n (q / n) ≡ false) × (at_end n (q % n) ≡ false)
off_boundary n q e = or-false (boundary_row n (q / n)) (at_end n (q % n)) e

-- a count that is no end has one before it and one after it
pub inner_count : {n i : ℕ} → i < n → at_end n i ≡ false → (0 < i) × (i + 1 < n)
inner_count {n} {i} h e =
    let ends = or-false (eqb i 0) (eqb i (n - 1)) e in
    let first = eqb-false i 0 ends.0 in
    let last = eqb-false i (n - 1) ends.1 in
    (omega arith, omega arith)

-- ---- off the boundary all neighbours are in the cube

-- a row has a plane of nodes before it and one after it
pub inner_row : {r : ℕ} (n : ℕ) → r < n * n → boundary_row n r ≡ false → (n * n ≤ r * n) × (r * n + n + n * n ≤ n * n * n)
inner_row {r} n h e =
    let i = r / n in
    let inner = inner_count (row_of n n h).0 (or-false (at_end n i) (at_end n (r % n)) e).0 in
    let from : 1 * n ≤ i * n = mul-le-mul_right n inner.0 in
    let low : n ≤ r = omega (arith, one-mul n, div-mul-le_self r n) in
    let up : r < n * (i + 1) = lt-mul-div-succ r (row_some n n h) in
    let to : (i + 2) * n ≤ n * n = mul-le-mul_right n (omega arith) in
    let high : r + 1 + n ≤ n * n = omega (arith, mul_comm n (i + 1), add-mul i 1 n, add-mul i 2 n, one-mul n) in
    let last : (r + 1 + n) * n ≤ n * n * n = mul-le-mul_right n high in
    (mul-le-mul_right n low, omega (arith, add-mul (r + 1) n n, add-mul r 1 n, one-mul n))

-- and so has a node of it
pub inner_node : {q : ℕ} (n : ℕ) → q < n * n * n → boundary_row n (q / n) ≡ false → (0 < n) × (n ≤ n * n) × (n * n ≤ q) × (q + n * n < n * n * n)
inner_node {q} n h e =
    let row = row_of (n * n) n h in
    let some = row_some (n * n) n h in
    let inner = inner_row n row.0 e in
    let whole = div-add-mod' q n in
    (some, row_plane some, omega arith, omega arith)
