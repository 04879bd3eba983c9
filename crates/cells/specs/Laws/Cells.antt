-- A cell named by the number of its corner 0 is the cell of its position: numbers of nodes add up, so corners and edges lie at fixed offsets.
-- So the faces that the loops go through, cell by cell, are `grid_faces`. Assumes nothing.
use Rattle.std.specs.Prelude.{◌≡◌, refl, Bool, ℕ, zero, suc, ◌+◌, ◌-◌, ◌*◌, ◌%◌, ◌≤◌, ◌<◌, Float}
use Rattle.std.proofs.Common.{sym, ap₂, ◌∙◌, add-mul, mul-le-mul, mul-le-mul_right, mul_assoc, one-mul, length}
use Rattle.std.proofs.Math.Path.{ap}
use mathlib.Core.List.{List, [], ◌∷◌, map}
use native.Mathlib.Omega.{arith}
use Rattle.std.proofs.Math.ListN.{get_or}
use Rattle.lists.specs.Lists.{at}
use Rattle.lists.specs.Laws.Tabulate.{at_tabulate}
use Rattle.closed.specs.Lists.{bit, All, cells3}
use Rattle.closed.specs.Faces.{Face, face, map_face, corners}
use Rattle.closed.specs.Table.{corner_at, low_of, cube_axis, case_of}
use Rattle.closed.specs.Rows.{emitted}
use Rattle.closed.specs.Grid.{node, edge, corner_below, cell_case, cell_edge, cell_faces, grid_faces, Crossed, along_x, along_y, along_z}
use Rattle.closed.proofs.Laws.Counting.{bit_le, cells_cong, all_map}
use Rattle.closed.proofs.Laws.Bounds.{case_of_lt, faces_le}
use Rattle.closed.proofs.Laws.Renumber.{in_all}
use Rattle.closed.proofs.Laws.Crossings.{used_crossed, crossed_lt, node_lt}
use Rattle.grid.specs.Grid.{Counts, Position, node_at, node_of}
use Rattle.grid.specs.Laws.Numbering.{line_node}
use Rattle.grid.specs.declared.Lattice.{Lattice}
use Rattle.cubes.specs.Words.{place_of}
use Rattle.cubes.specs.Laws.Edges.{in_cube, axis_small}
use Rattle.cubes.specs.Laws.Emitted.{emitted_edges}
use Rattle.cells.specs.Extraction.{is_below, below_at, count_x, count_y, count_z, below, edge_faces, unit}
use Rattle.cells.specs.Words.{node_offset, edge_offset, stride, side_at, case_at, row_faces, edge_offsets, faces_at, block_faces, Inner}

-- ---- numbers of nodes add up

pub node_add : (ny nz i j k a b c : ℕ) → node ny nz (i + a) (j + b) (k + c) ≡ node ny nz i j k + node ny nz a b c
node_add ny nz i j k a b c =
    omega (arith, line_node ny nz (i + a) (j + b) (k + c), line_node ny nz i j k, line_node ny nz a b c, add-mul i a (ny * nz), add-mul j b nz)

pub unit_node : (ny nz a b c : ℕ) → a ≤ 1 → b ≤ 1 → c ≤ 1 → node ny nz a b c ≤ ny * nz + nz + 1
unit_node ny nz a b c ha hb hc =
    omega (arith, line_node ny nz a b c, mul-le-mul_right (ny * nz) ha, mul-le-mul_right nz hb, one-mul (ny * nz), one-mul nz)

-- one step along an axis
pub unit_stride : (ny nz axis : ℕ) → axis < 3 → node ny nz (unit axis 0) (unit axis 1) (unit axis 2) ≡ stride ny nz axis
unfolding stride
unit_stride ny nz zero h = omega (arith, line_node ny nz 1 0 0)
unit_stride ny nz (suc zero) h = omega (arith, line_node ny nz 0 1 0)
unit_stride ny nz (suc (suc zero)) h = omega (arith, line_node ny nz 0 0 1)
unit_stride ny nz (suc (suc (suc a))) h = absurd (omega arith)

-- ---- the case of a cell

pub case_below : (values : List Float) (ny nz : ℕ) (iso : Float) (n : ℕ) → case_at values ny nz iso n < 256
unfolding case_at
case_below values ny nz iso n = case_of_lt (λ c. is_below (at values (n + node_offset ny nz c)) iso)

-- as code makes it: the near side, and sixteen times the far one
module _ (values : List Float) (ny nz : ℕ) (iso : Float) (n : ℕ) where
  pub side_small : side_at values ny nz iso n ≤ 15
  unfolding side_at
  side_small =
      omega (
        arith,
        bit_le (is_below (at values n) iso),
        bit_le (is_below (at values (n + ny * nz)) iso),
        bit_le (is_below (at values (n + ny * nz + nz)) iso),
        bit_le (is_below (at values (n + nz)) iso),
      )

  corner_bit : (c i : ℕ) → i ≡ n + node_offset ny nz c → bit (is_below (at values i) iso) ≡ bit (is_below (at values (n + node_offset ny nz c)) iso)
  corner_bit c i e = ap (λ (m : ℕ). bit (is_below (at values m) iso)) e

  pub two_sides : (near far : ℕ) → near ≡ side_at values ny nz iso n → far ≡ side_at values ny nz iso (n + 1) → near + 16 * far ≡ case_at values ny nz iso n
  unfolding case_at side_at
  two_sides near far e f =
      omega (
        arith,
        corner_bit 0 n (omega (arith, line_node ny nz 0 0 0)),
        corner_bit 1 (n + ny * nz) (omega (arith, line_node ny nz 1 0 0)),
        corner_bit 2 (n + ny * nz + nz) (omega (arith, line_node ny nz 1 1 0)),
        corner_bit 3 (n + nz) (omega (arith, line_node ny nz 0 1 0)),
        corner_bit 4 (n + 1) (omega (arith, line_node ny nz 0 0 1)),
        corner_bit 5 (n + 1 + ny * nz) (omega (arith, line_node ny nz 1 0 1)),
        corner_bit 6 (n + 1 + ny * nz + nz) (omega (arith, line_node ny nz 1 1 1)),
        corner_bit 7 (n + 1 + nz) (omega (arith, line_node ny nz 0 1 1)),
      )

-- ---- the edges of a cell

-- an edge of a cell whose last corner is below N has a number below 3·N
pub edge_small : (ny nz n N e : ℕ) → n + ny * nz + nz + 1 < N → e < 12 → 3 * n + edge_offset ny nz e < 3 * N
unfolding edge
edge_small ny nz n N e h b =
    let q = in_cube e b in
    omega (
      arith,
      axis_small e b,
      unit_node ny nz (corner_at (low_of e)).0 (corner_at (low_of e)).1 (corner_at (low_of e)).2 (omega (arith, q.x)) (omega (arith, q.y)) (omega (arith, q.z)),
    )

pub offset_at : (ny nz e : ℕ) → e < 12 → get_or (edge_offsets ny nz) e 0 ≡ edge_offset ny nz e
offset_at ny nz e b = at_tabulate 0 12 (edge_offset ny nz) e b

-- as code makes an offset: the lower corner's place, its node and the axis
pub corner_inside : (counts : List ℕ) (e low : ℕ) (place : List ℕ) → Counts counts → e < 12 → low ≡ low_of e → place_of place ≡ corner_at low
    → Position (get_or counts 0 0) (get_or counts 1 0) (get_or counts 2 0) place
corner_inside counts e low place h b l p =
    let q = in_cube e b in
    let x : place_of place ≡ corner_at (low_of e) = p ∙ ap corner_at l in
    record {
      i = omega (arith, q.x, ap (λ (t : ℕ × ℕ × ℕ). t.0) x, h.two_x);
      j = omega (arith, q.y, ap (λ (t : ℕ × ℕ × ℕ). t.1) x, h.two_y);
      k = omega (arith, q.z, ap (λ (t : ℕ × ℕ × ℕ). t.2) x, h.two_z);
    }

pub offset_is : (ny nz e low axis n : ℕ) (place : List ℕ) → low ≡ low_of e → place_of place ≡ corner_at low → n ≡ node_at ny nz place → axis ≡ cube_axis e
    → edge n axis ≡ edge_offset ny nz e
offset_is ny nz e low axis n place l p m a =
    ap₂ edge
    (m ∙ ap (λ (t : ℕ × ℕ × ℕ). node ny nz t.0 t.1 t.2) (p ∙ ap corner_at l))
    a

-- ---- cells by number and by position

map_face_cong : (g h : ℕ → ℕ) (fs : List Face) → All (λ e. g e ≡ h e) (corners fs) → map (map_face g) fs ≡ map (map_face h) fs
map_face_cong g h [] a = refl
map_face_cong g h (face x y z ∷ fs) a =
    ap₂ (λ (f : Face) (r : List Face). f ∷ r) (rw (a.0, a.1.0, a.1.1.0) refl) (map_face_cong g h fs a.1.1.1)

case_cong : (b c : ℕ → Bool) → ((k : ℕ) → b k ≡ c k) → case_of b ≡ case_of c
case_cong b c h =
    omega (arith, ap bit (h 0), ap bit (h 1), ap bit (h 2), ap bit (h 3), ap bit (h 4), ap bit (h 5), ap bit (h 6), ap bit (h 7))

module _ (values : List Float) (ny nz : ℕ) (iso : Float) (i j k : ℕ) where
  case_of_cell : case_at values ny nz iso (node ny nz i j k) ≡ cell_case (below_at values ny nz iso) i j k
  unfolding case_at below_at
  case_of_cell =
      case_cong (λ c. is_below (at values (node ny nz i j k + node_offset ny nz c)) iso) (corner_below (below_at values ny nz iso) i j k)
      (λ c. ap (λ (m : ℕ). is_below (at values m) iso) (sym (node_add ny nz i j k (corner_at c).0 (corner_at c).1 (corner_at c).2)))

  edge_of_cell : (e : ℕ) → e < 12 → 3 * node ny nz i j k + get_or (edge_offsets ny nz) e 0 ≡ cell_edge ny nz i j k e
  unfolding edge
  edge_of_cell e b =
      let c = corner_at (low_of e) in
      omega (arith, offset_at ny nz e b, node_add ny nz i j k c.0 c.1 c.2)

  pub faces_of_cell : faces_at values ny nz iso (node ny nz i j k) ≡ cell_faces ny nz (below_at values ny nz iso) i j k
  unfolding faces_at row_faces cell_faces
  faces_of_cell =
      let n = node ny nz i j k in
      let c = case_at values ny nz iso n in
      map_face_cong (λ e. 3 * n + get_or (edge_offsets ny nz) e 0) (cell_edge ny nz i j k) (emitted c)
      (all_map (λ e. e < 12) (λ e. 3 * n + get_or (edge_offsets ny nz) e 0 ≡ cell_edge ny nz i j k e) edge_of_cell (corners (emitted c))
      (emitted_edges c (case_below values ny nz iso n)))
      ∙ ap (λ (m : ℕ). map (map_face (cell_edge ny nz i j k)) (emitted m)) case_of_cell

pub block_is_grid : (values : List Float) (nx ny nz : ℕ) (iso : Float)
    → block_faces values ny nz iso (nx - 1) ≡ grid_faces nx ny nz (below_at values ny nz iso)
unfolding grid_faces cells3
block_is_grid values nx ny nz iso =
    cells_cong (nx - 1) _ _ (λ i bi. cells_cong (ny - 1) _ _ (λ j bj. cells_cong (nz - 1) _ _ (λ k bk.
    ap (faces_at values ny nz iso) (sym (line_node ny nz i j k)) ∙ faces_of_cell values ny nz iso i j k)))

-- ---- all cells of a lattice: each edge is one of 3N, and the faces are those of Extraction

module _ (values : List Float) (l : Lattice) (iso : Float) (counts : Counts l.counts) where
  pub edges_below : All (λ e. e < 3 * (count_x l * count_y l * count_z l)) (corners (edge_faces values l iso))
  unfolding edge_faces
  edges_below =
      in_all (λ e. e < 3 * (count_x l * count_y l * count_z l)) (corners (grid_faces (count_x l) (count_y l) (count_z l) (below values l iso)))
      (λ e m. crossed_lt (count_x l) (count_y l) (count_z l) (below values l iso) e
      (used_crossed (count_x l) (count_y l) (count_z l) counts.two_x counts.two_y counts.two_z (below values l iso) e m))

  pub block_faces_lem : block_faces values (count_y l) (count_z l) iso (count_x l - 1) ≡ edge_faces values l iso
  unfolding edge_faces
  block_faces_lem = block_is_grid values (count_x l) (count_y l) (count_z l) iso

  -- five a cell
  pub few_faces : length (edge_faces values l iso) ≤ 5 * (count_x l * count_y l * count_z l)
  unfolding edge_faces
  few_faces =
      let x = count_x l in
      let y = count_y l in
      let z = count_z l in
      let one : (z - 1) * 5 ≤ z * 5 = mul-le-mul {n₁ = z - 1} {m₁ = 5} {n₂ = z} {m₂ = 5} (omega arith) (omega arith) in
      let two : (y - 1) * ((z - 1) * 5) ≤ y * (z * 5) = mul-le-mul (omega arith) one in
      let three : (x - 1) * ((y - 1) * ((z - 1) * 5)) ≤ x * (y * (z * 5)) = mul-le-mul (omega arith) two in
      let same : x * (y * (z * 5)) ≡ x * y * z * 5 = sym (mul_assoc x y (z * 5)) ∙ sym (mul_assoc (x * y) z 5) in
      omega (arith, faces_le x y z (below values l iso), three, same)

  -- and where there is a value for each node, each edge has one at both its nodes
  module _ (nodes : length values ≡ count_x l * count_y l * count_z l) where
    inner_along : (axis i j k e : ℕ) → axis < 3 → i + unit axis 0 < count_x l → j + unit axis 1 < count_y l → k + unit axis 2 < count_z l
        → e ≡ edge (node (count_y l) (count_z l) i j k) axis → Inner values l e
    unfolding edge
    inner_along axis i j k e b hi hj hk p =
        let n : node_of e ≡ node (count_y l) (count_z l) i j k = omega (arith, p, b) in
        let x : e % 3 ≡ axis = omega (arith, p, b) in
        let s = ap (stride (count_y l) (count_z l)) x ∙ sym (unit_stride (count_y l) (count_z l) axis b) in
        record {
          upper = omega (
            arith,
            n,
            s,
            node_add (count_y l) (count_z l) i j k (unit axis 0) (unit axis 1) (unit axis 2),
            node_lt (count_x l) (count_y l) (count_z l) _ _ _ hi hj hk,
            nodes,
          );
          most = omega (arith, nodes, counts.most);
        }

    inner_crossed : (e : ℕ) → Crossed (count_x l) (count_y l) (count_z l) (below values l iso) e → Inner values l e
    inner_crossed e (along_x i j k bi bj bk p h) = inner_along 0 i j k e (omega arith) bi (omega (arith, bj)) (omega (arith, bk)) p
    inner_crossed e (along_y i j k bi bj bk p h) = inner_along 1 i j k e (omega arith) (omega (arith, bi)) bj (omega (arith, bk)) p
    inner_crossed e (along_z i j k bi bj bk p h) = inner_along 2 i j k e (omega arith) (omega (arith, bi)) (omega (arith, bj)) bk p

    pub edges_inner : All (λ e. Inner values l e) (corners (edge_faces values l iso))
    unfolding edge_faces
    edges_inner =
        in_all (λ e. Inner values l e) (corners (grid_faces (count_x l) (count_y l) (count_z l) (below values l iso)))
        (λ e m. inner_crossed e (used_crossed (count_x l) (count_y l) (count_z l) counts.two_x counts.two_y counts.two_z (below values l iso) e m))
