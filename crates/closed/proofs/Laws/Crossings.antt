-- The edges that the faces of a grid use are exactly its crossed edges: a cell's row uses exactly the cube edges whose ends differ, a crossed edge is an
-- edge of some cell, and a cell's edge has the number that the grid gives it. Also: an edge number names one edge, below three times the number of nodes.
-- Assumes nothing.
use Rattle.std.specs.Prelude.{◌≡◌, refl, Bool, true, false}
use Rattle.std.proofs.Common.{sym, ap, ◌∙◌, subst, subst₂, mul-le-mul_right, add-zero, arith}
use mathlib.Core.List.{List, [], ◌∷◌}
use Prim.Native.Nat.{ℕ, ◌+◌, ◌-◌, ◌*◌, ◌≤◌, ◌<◌}
use Rattle.std.proofs.Math.Decide.{dec_lt}
use Rattle.closed.specs.Lists.{member, In, All}
use Rattle.closed.specs.Faces.{Face, corners}
use Rattle.closed.specs.Table.{cube_edges, differ, crosses}
use Rattle.closed.specs.Rows.{emitted}
use Rattle.closed.specs.Grid.{node, edge, corner_below, cell_case, cell_edge, cell_faces, grid_faces, Crossed, along_x, along_y, along_z}
use Rattle.closed.proofs.Laws.Counting.{all_four}
use Rattle.closed.proofs.Laws.Renumber.{all_in, in_map, map_in}
use Rattle.closed.proofs.Laws.Mesh.{cells3_corner, corner_cells3, corners_map}
use Rattle.closed.proofs.Laws.Tested.{table_rule, exact_known}

-- ---- an edge number names one edge

digits_unique : (n a r b q : ℕ) → r < n → q < n → a * n + r ≡ b * n + q → (a ≡ b) × (r ≡ q)
digits_unique n a r b q hr hq e = by_cases (dec_lt a b) (dec_lt b a)
  where
    by_cases : Dec (a < b) → Dec (b < a) → (a ≡ b) × (r ≡ q)
    by_cases (yes p) t = absurd (omega (arith, mul-le-mul_right n p))
    by_cases (no p) (yes t) = absurd (omega (arith, mul-le-mul_right n t))
    by_cases (no p) (no t) = let s : a ≡ b = omega arith in (s, omega (arith, ap (λ (x : ℕ). x * n) s))

pub node_unique : (ny nz i j k i' j' k' : ℕ) → j < ny → k < nz → j' < ny → k' < nz → node ny nz i j k ≡ node ny nz i' j' k' → (i ≡ i') × (j ≡ j') × (k ≡ k')
unfolding node
node_unique ny nz i j k i' j' k' bj bk bj' bk' e =
    let u = digits_unique nz (i * ny + j) k (i' * ny + j') k' bk bk' e in
    let v = digits_unique ny i j i' j' bj bj' u.0 in
    (v.0, v.1, u.1)

pub edge_unique : (n a m b : ℕ) → a < 3 → b < 3 → edge n a ≡ edge m b → (n ≡ m) × (a ≡ b)
unfolding edge
edge_unique n a m b ha hb e = (omega arith, omega arith)

-- ---- the numbers stay below the number of nodes, and three times that

pub node_lt : (nx ny nz i j k : ℕ) → i < nx → j < ny → k < nz → node ny nz i j k < nx * ny * nz
unfolding node
node_lt nx ny nz i j k bi bj bk =
    let row : i * ny + j < nx * ny = omega (arith, mul-le-mul_right ny bi) in
    omega (arith, mul-le-mul_right nz row)

pub crossed_lt : (nx ny nz : ℕ) (below : ℕ → ℕ → ℕ → Bool) (e : ℕ) → Crossed nx ny nz below e → e < 3 * (nx * ny * nz)
unfolding edge
crossed_lt nx ny nz below e (along_x i j k bi bj bk p h) = omega (arith, p, node_lt nx ny nz i j k (omega arith) bj bk)
crossed_lt nx ny nz below e (along_y i j k bi bj bk p h) = omega (arith, p, node_lt nx ny nz i j k bi (omega arith) bk)
crossed_lt nx ny nz below e (along_z i j k bi bj bk p h) = omega (arith, p, node_lt nx ny nz i j k bi bj (omega arith))

-- ---- each node of a net is a corner of one of its squares: what holds at the four corners of each square holds at each node

spread : (n m : ℕ) (P : ℕ → ℕ → Type 0) → 2 ≤ n → 2 ≤ m
    → ((j k : ℕ) → j + 1 < n → k + 1 < m → P (j + 0) (k + 0) × P (j + 1) (k + 0) × P (j + 0) (k + 1) × P (j + 1) (k + 1))
    → (j k : ℕ) → j < n → k < m → P j k
spread n m P hn hm h j k bj bk = by_cases (dec_lt (j + 1) n) (dec_lt (k + 1) m)
  where
    at : (a b a' b' : ℕ) → a ≡ a' → b ≡ b' → P a b → P a' b'
    at a b a' b' e f p = subst₂ (λ (x y : ℕ). P x y) e f p

    by_cases : Dec (j + 1 < n) → Dec (k + 1 < m) → P j k
    by_cases (yes p) (yes q) = at (j + 0) (k + 0) j k (omega arith) (omega arith) (h j k p q).0
    by_cases (no p) (yes q) = at (j - 1 + 1) (k + 0) j k (omega arith) (omega arith) (h (j - 1) k (omega arith) q).1
    by_cases (yes p) (no q) = at (j + 0) (k - 1 + 1) j k (omega arith) (omega arith) (h j (k - 1) p (omega arith)).2
    by_cases (no p) (no q) = at (j - 1 + 1) (k - 1 + 1) j k (omega arith) (omega arith) (h (j - 1) (k - 1) (omega arith) (omega arith)).3

differ_swap : (s t : Bool) → differ s t ≡ differ t s
differ_swap true true = refl
differ_swap true false = refl
differ_swap false true = refl
differ_swap false false = refl

module _ (nx ny nz : ℕ) (hx : 2 ≤ nx) (hy : 2 ≤ ny) (hz : 2 ≤ nz) (below : ℕ → ℕ → ℕ → Bool) where
  -- the faces use the edge e
  abbrev Used : ℕ → Type 0
  Used e = In e (corners (grid_faces nx ny nz below))

  -- ---- a crossed edge is used

  -- a cell's edge whose ends differ is used by the cell's row, so by the grid's faces
  cell_uses : (i j k : ℕ) → i + 1 < nx → j + 1 < ny → k + 1 < nz → (e : ℕ) → crosses (corner_below below i j k) e ≡ true → Used (cell_edge ny nz i j k e)
  unfolding grid_faces cell_faces
  cell_uses i j k bi bj bk e h =
      let g : ℕ → ℕ = cell_edge ny nz i j k in
      let fs : List Face = emitted (cell_case below i j k) in
      corner_cells3 (nx - 1) (ny - 1) (nz - 1) (cell_faces ny nz below) (g e) i j k (omega arith) (omega arith) (omega arith)
      (ap (member (g e)) (corners_map g fs) ∙ in_map g e (corners fs) ((table_rule (corner_below below i j k)).exact e ∙ h))

  -- the same of an edge that EDGES names from its higher end
  cell_uses_back : (i j k : ℕ) → i + 1 < nx → j + 1 < ny → k + 1 < nz → (e : ℕ) (s t : Bool) → crosses (corner_below below i j k) e ≡ differ s t
      → differ t s ≡ true → Used (cell_edge ny nz i j k e)
  cell_uses_back i j k bi bj bk e s t c h = cell_uses i j k bi bj bk e (c ∙ differ_swap s t ∙ h)

  -- the edge from x, y or z onwards to the next, where it is crossed, is used
  abbrev UsesX : (x x' j k : ℕ) → Type 0
  UsesX x x' j k = differ (below x j k) (below x' j k) ≡ true → Used (edge (node ny nz x j k) 0)

  abbrev UsesY : (y y' i k : ℕ) → Type 0
  UsesY y y' i k = differ (below i y k) (below i y' k) ≡ true → Used (edge (node ny nz i y k) 1)

  abbrev UsesZ : (z z' i j : ℕ) → Type 0
  UsesZ z z' i j = differ (below i j z) (below i j z') ≡ true → Used (edge (node ny nz i j z) 2)

  pub crossed_used : (e : ℕ) → Crossed nx ny nz below e → Used e
  crossed_used e (along_x i j k bi bj bk p h) =
      subst Used (sym p)
      (subst (λ (x : ℕ). UsesX x (i + 1) j k) (add-zero i)
      (spread ny nz (UsesX (i + 0) (i + 1)) hy hz
      (λ j k bj bk. (
        cell_uses i j k bi bj bk 0,
        cell_uses_back i j k bi bj bk 2 (below (i + 1) (j + 1) (k + 0)) (below (i + 0) (j + 1) (k + 0)) refl,
        cell_uses i j k bi bj bk 4,
        cell_uses_back i j k bi bj bk 6 (below (i + 1) (j + 1) (k + 1)) (below (i + 0) (j + 1) (k + 1)) refl,
      ))
      j k bj bk) h)
  crossed_used e (along_y i j k bi bj bk p h) =
      subst Used (sym p)
      (subst (λ (y : ℕ). UsesY y (j + 1) i k) (add-zero j)
      (spread nx nz (UsesY (j + 0) (j + 1)) hx hz
      (λ i k bi bk. (
        cell_uses_back i j k bi bj bk 3 (below (i + 0) (j + 1) (k + 0)) (below (i + 0) (j + 0) (k + 0)) refl,
        cell_uses i j k bi bj bk 1,
        cell_uses_back i j k bi bj bk 7 (below (i + 0) (j + 1) (k + 1)) (below (i + 0) (j + 0) (k + 1)) refl,
        cell_uses i j k bi bj bk 5,
      ))
      i k bi bk) h)
  crossed_used e (along_z i j k bi bj bk p h) =
      subst Used (sym p)
      (subst (λ (z : ℕ). UsesZ z (k + 1) i j) (add-zero k)
      (spread nx ny (UsesZ (k + 0) (k + 1)) hx hy
      (λ i j bi bj. (cell_uses i j k bi bj bk 8, cell_uses i j k bi bj bk 9, cell_uses i j k bi bj bk 11, cell_uses i j k bi bj bk 10))
      i j bi bj) h)

  -- ---- a used edge is crossed

  crossed_x : (x x' j k : ℕ) → x' ≡ x + 1 → x + 1 < nx → j < ny → k < nz → differ (below x j k) (below x' j k) ≡ true → Crossed nx ny nz below (edge (node ny nz x j k) 0)
  crossed_x x x' j k e bi bj bk h = along_x x j k bi bj bk refl (ap (λ (m : ℕ). differ (below x j k) (below m j k)) (sym e) ∙ h)

  crossed_y : (i y y' k : ℕ) → y' ≡ y + 1 → i < nx → y + 1 < ny → k < nz → differ (below i y k) (below i y' k) ≡ true → Crossed nx ny nz below (edge (node ny nz i y k) 1)
  crossed_y i y y' k e bi bj bk h = along_y i y k bi bj bk refl (ap (λ (m : ℕ). differ (below i y k) (below i m k)) (sym e) ∙ h)

  crossed_z : (i j z z' : ℕ) → z' ≡ z + 1 → i < nx → j < ny → z + 1 < nz → differ (below i j z) (below i j z') ≡ true → Crossed nx ny nz below (edge (node ny nz i j z) 2)
  crossed_z i j z z' e bi bj bk h = along_z i j z bi bj bk refl (ap (λ (m : ℕ). differ (below i j z) (below i j m)) (sym e) ∙ h)

  -- a cell's edge, where it crosses, is a crossed edge of the grid
  abbrev Crosses : (i j k e : ℕ) → Type 0
  Crosses i j k e = crosses (corner_below below i j k) e ≡ true → Crossed nx ny nz below (cell_edge ny nz i j k e)

  cell_crossed : (i j k : ℕ) → i + 1 < nx → j + 1 < ny → k + 1 < nz → All (Crosses i j k) cube_edges
  cell_crossed i j k bi bj bk =
      all_four (Crosses i j k) 0 1 2 3 (4 ∷ 5 ∷ 6 ∷ 7 ∷ 8 ∷ 9 ∷ 10 ∷ 11 ∷ [])
      (λ h. x (j + 0) (k + 0) (omega arith) (omega arith) h)
      (λ h. y (i + 1) (k + 0) (omega arith) (omega arith) h)
      (λ h. x (j + 1) (k + 0) (omega arith) (omega arith) (differ_swap (below (i + 0) (j + 1) (k + 0)) (below (i + 1) (j + 1) (k + 0)) ∙ h))
      (λ h. y (i + 0) (k + 0) (omega arith) (omega arith) (differ_swap (below (i + 0) (j + 0) (k + 0)) (below (i + 0) (j + 1) (k + 0)) ∙ h))
      (all_four (Crosses i j k) 4 5 6 7 (8 ∷ 9 ∷ 10 ∷ 11 ∷ [])
      (λ h. x (j + 0) (k + 1) (omega arith) (omega arith) h)
      (λ h. y (i + 1) (k + 1) (omega arith) (omega arith) h)
      (λ h. x (j + 1) (k + 1) (omega arith) (omega arith) (differ_swap (below (i + 0) (j + 1) (k + 1)) (below (i + 1) (j + 1) (k + 1)) ∙ h))
      (λ h. y (i + 0) (k + 1) (omega arith) (omega arith) (differ_swap (below (i + 0) (j + 0) (k + 1)) (below (i + 0) (j + 1) (k + 1)) ∙ h))
      (all_four (Crosses i j k) 8 9 10 11 []
      (λ h. z (i + 0) (j + 0) (omega arith) (omega arith) h)
      (λ h. z (i + 1) (j + 0) (omega arith) (omega arith) h)
      (λ h. z (i + 1) (j + 1) (omega arith) (omega arith) h)
      (λ h. z (i + 0) (j + 1) (omega arith) (omega arith) h)
      tt))
    where
      x : (b c : ℕ) → b < ny → c < nz → differ (below (i + 0) b c) (below (i + 1) b c) ≡ true → Crossed nx ny nz below (edge (node ny nz (i + 0) b c) 0)
      x b c hb hc h = crossed_x (i + 0) (i + 1) b c (omega arith) (omega arith) hb hc h

      y : (a c : ℕ) → a < nx → c < nz → differ (below a (j + 0) c) (below a (j + 1) c) ≡ true → Crossed nx ny nz below (edge (node ny nz a (j + 0) c) 1)
      y a c ha hc h = crossed_y a (j + 0) (j + 1) c (omega arith) ha (omega arith) hc h

      z : (a b : ℕ) → a < nx → b < ny → differ (below a b (k + 0)) (below a b (k + 1)) ≡ true → Crossed nx ny nz below (edge (node ny nz a b (k + 0)) 2)
      z a b ha hb h = crossed_z a b (k + 0) (k + 1) (omega arith) ha hb (omega arith) h

  cell_used : (i j k : ℕ) → i + 1 < nx → j + 1 < ny → k + 1 < nz → (e : ℕ) → In e (corners (cell_faces ny nz below i j k)) → Crossed nx ny nz below e
  unfolding cell_faces
  cell_used i j k bi bj bk e h =
      from (map_in (cell_edge ny nz i j k) e (corners fs) (sym (ap (member e) (corners_map (cell_edge ny nz i j k) fs)) ∙ h))
    where
      fs : List Face
      fs = emitted (cell_case below i j k)

      from : (l : ℕ) × In l (corners fs) × (e ≡ cell_edge ny nz i j k l) → Crossed nx ny nz below e
      from t =
          subst (Crossed nx ny nz below) (sym t.2)
          (all_in (Crosses i j k) cube_edges (cell_crossed i j k bi bj bk) t.0 (exact_known (corner_below below i j k) t.0 t.1)
          (sym ((table_rule (corner_below below i j k)).exact t.0) ∙ t.1))

  pub used_crossed : (e : ℕ) → Used e → Crossed nx ny nz below e
  unfolding grid_faces
  used_crossed e h = from (cells3_corner (nx - 1) (ny - 1) (nz - 1) (cell_faces ny nz below) e h)
    where
      from : (i : ℕ) × (j : ℕ) × (k : ℕ) × (i < nx - 1) × (j < ny - 1) × (k < nz - 1) × In e (corners (cell_faces ny nz below i j k)) → Crossed nx ny nz below e
      from t = cell_used t.0 t.1 t.2 (omega (arith, t.3)) (omega (arith, t.4)) (omega (arith, t.5)) e t.6
