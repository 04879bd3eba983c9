-- The cells of a grid meet what the theorem of the closed mesh asks (Closed): each cell's faces balance but for its sides, which is the table's rule
-- carried from the cube's edges to the grid's; neighbours' sides yield opposite pairs, for they are the same side; and sides of outer nodes, all alike,
-- yield none. Assumes nothing.
use Rattle.std.specs.Prelude.{◌≡◌, refl, ◌⊎◌, Bool, true, false, ℕ, ◌+◌, ◌-◌, ◌≤◌, ◌<◌}
use Rattle.std.proofs.Common.{sym, ap, ◌∙◌, inl, inr, ⊎_elim, mul-le-mul_right, add-zero, arith}
use Rattle.std.proofs.Math.Path.{subst}
use mathlib.Core.List.{List, [], ◌∷◌, ◌++◌, map, map-append}
use Rattle.closed.specs.Lists.{count, member, In, All}
use Rattle.closed.specs.Faces.{Face, face, runs, Balanced, Apart, map_face, corners}
use Rattle.closed.specs.Numbering.{Injective}
use Rattle.closed.specs.Table.{Arc, arc, goes, flip, map_arc, arcs, cube_edges, side, low_x, high_x, low_y, high_y, low_z, high_z, sides, cube_sides}
use Rattle.closed.specs.Rows.{emitted}
use Rattle.closed.specs.Grid.{node, edge, corner_below, cell_case, cell_edge, cell_faces, grid_faces, on_grid, Outer}
use Rattle.closed.proofs.Laws.Counting.{count_nil, count_append, every_all, all_append, all_cells3}
use Rattle.closed.proofs.Laws.Renumber.{in_cases, in_all, all_in, not_in_nil}
use Rattle.closed.proofs.Laws.Mesh.{apart_map_face}
use Rattle.closed.proofs.Laws.Arcs.{ends_append, lift_cell, net_balanced, flip_map, count_arcs, count_flip}
use Rattle.closed.specs.Laws.Arcs.{ends, BalancedArcs}
use Rattle.closed.proofs.Laws.Tested.{table_rule, sides_known, exact_known}
use Rattle.closed.proofs.Laws.Closed.{closed_faces}
use Rattle.closed.specs.Laws.Closed.{PerCell, Matched}
use Rattle.closed.specs.Laws.Cells.{Growing, side_x, side_y, side_z}

-- ---- a map that takes a list to growing numbers takes different numbers to different numbers

growing_above : (g : ℕ → ℕ) (c : ℕ) (l : List ℕ) → Growing (map g (c ∷ l)) → (x : ℕ) → In x l → g c < g x
growing_above g c [] h x m = absurd (not_in_nil x m)
growing_above g c (d ∷ l) h x m =
    ⊎_elim
    (λ e. subst (λ (z : ℕ). g c < g z) (sym e) h.0)
    (λ k. omega (arith, h.0, growing_above g d l h.1 x k))
    (in_cases x d l m)

growing_tail : (g : ℕ → ℕ) (c : ℕ) (l : List ℕ) → Growing (map g (c ∷ l)) → Growing (map g l)
growing_tail g c [] h = tt
growing_tail g c (d ∷ l) h = h.1

growing_injective : (g : ℕ → ℕ) (l : List ℕ) → Growing (map g l) → Injective g l
growing_injective g [] h x y hx hy e = absurd (not_in_nil x hx)
growing_injective g (c ∷ l) h x y hx hy e =
    by_cases (growing_injective g l (growing_tail g c l h)) (in_cases x c l hx) (in_cases y c l hy)
  where
    by_cases : Injective g l → (x ≡ c) ⊎ In x l → (y ≡ c) ⊎ In y l → x ≡ y
    by_cases below (inl p) (inl q) = p ∙ sym q
    by_cases below (inl p) (inr q) = absurd (omega (arith, growing_above g c l h y q, ap g p, e))
    by_cases below (inr p) (inl q) = absurd (omega (arith, growing_above g c l h x p, ap g q, e))
    by_cases below (inr p) (inr q) = below x y p q e

-- ---- the twelve edges of a cell have twelve numbers: here in the order in which these grow

order : List ℕ
order = 0 ∷ 3 ∷ 8 ∷ 4 ∷ 7 ∷ 2 ∷ 11 ∷ 6 ∷ 1 ∷ 9 ∷ 5 ∷ 10 ∷ []

in_order : (e : ℕ) → In e cube_edges → In e order
unfolding member order
in_order e m = all_in (λ x. In x order) cube_edges (every_all (λ x. member x order) cube_edges refl) e m

cell_edge_growing : (ny nz : ℕ) → 2 ≤ ny → 2 ≤ nz → (i j k : ℕ) → Growing (map (cell_edge ny nz i j k) order)
unfolding node edge order
cell_edge_growing ny nz hy hz i j k = omega (arith, mul-le-mul_right nz hy)

pub cell_edge_injective : (ny nz : ℕ) → 2 ≤ ny → 2 ≤ nz → (i j k : ℕ) → Injective (cell_edge ny nz i j k) cube_edges
cell_edge_injective ny nz hy hz i j k x y hx hy' e =
    growing_injective (cell_edge ny nz i j k) order (cell_edge_growing ny nz hy hz i j k) x y (in_order x hx) (in_order y hy') e

-- ---- a side over the edges that g names; four corners that are alike yield nothing

side_map : (g : ℕ → ℕ) (p0 p1 p2 p3 : Bool) (q0 q1 q2 q3 : ℕ) → map (map_arc g) (side p0 p1 p2 p3 q0 q1 q2 q3) ≡ side p0 p1 p2 p3 (g q0) (g q1) (g q2) (g q3)
side_map g false false false false q0 q1 q2 q3 = refl
side_map g false false false true q0 q1 q2 q3 = refl
side_map g false false true false q0 q1 q2 q3 = refl
side_map g false false true true q0 q1 q2 q3 = refl
side_map g false true false false q0 q1 q2 q3 = refl
side_map g false true false true q0 q1 q2 q3 = refl
side_map g false true true false q0 q1 q2 q3 = refl
side_map g false true true true q0 q1 q2 q3 = refl
side_map g true false false false q0 q1 q2 q3 = refl
side_map g true false false true q0 q1 q2 q3 = refl
side_map g true false true false q0 q1 q2 q3 = refl
side_map g true false true true q0 q1 q2 q3 = refl
side_map g true true false false q0 q1 q2 q3 = refl
side_map g true true false true q0 q1 q2 q3 = refl
side_map g true true true false q0 q1 q2 q3 = refl
side_map g true true true true q0 q1 q2 q3 = refl

side_flip : (g : ℕ → ℕ) (p0 p1 p2 p3 : Bool) (q0 q1 q2 q3 : ℕ)
    → map (map_arc g) (map flip (side p0 p1 p2 p3 q0 q1 q2 q3)) ≡ map flip (side p0 p1 p2 p3 (g q0) (g q1) (g q2) (g q3))
side_flip g p0 p1 p2 p3 q0 q1 q2 q3 = sym (flip_map g (side p0 p1 p2 p3 q0 q1 q2 q3)) ∙ ap (map flip) (side_map g p0 p1 p2 p3 q0 q1 q2 q3)

side_even : (s p0 p1 p2 p3 : Bool) (q0 q1 q2 q3 : ℕ) → p0 ≡ s → p1 ≡ s → p2 ≡ s → p3 ≡ s → side p0 p1 p2 p3 q0 q1 q2 q3 ≡ []
side_even s p0 p1 p2 p3 q0 q1 q2 q3 e0 e1 e2 e3 = rw (e0, e1, e2, e3) (both s)
  where
    both : (t : Bool) → side t t t t q0 q1 q2 q3 ≡ []
    both true = refl
    both false = refl

-- ---- what holds of all corners of faces holds of the ends of their arcs, and of those of the arcs the other way round

all_ends_arcs : (P : ℕ → Type 0) (fs : List Face) → All P (corners fs) → All P (ends (arcs fs))
all_ends_arcs P [] h = tt
all_ends_arcs P (face x y z ∷ fs) h = (h.0, (h.1.0, (h.1.0, (h.1.1.0, (h.1.1.0, (h.0, all_ends_arcs P fs h.1.1.1))))))

all_ends_flip : (P : ℕ → Type 0) (xs : List Arc) → All P (ends xs) → All P (ends (map flip xs))
all_ends_flip P [] h = tt
all_ends_flip P (arc x y ∷ xs) h = (h.1.0, (h.0, all_ends_flip P xs h.1.1))

-- ---- a cell: its lower sides are those at its own place, its higher ones those at the next, seen from the other side

module _ (ny nz : ℕ) (below : ℕ → ℕ → ℕ → Bool) (i j k : ℕ) where
  abbrev at : ℕ → Bool
  at c = corner_below below i j k c

  pub low_x_is : on_grid ny nz i j k (low_x (corner_below below i j k)) ≡ side_x ny nz below (i + 0) j k
  unfolding side_x
  low_x_is = side_map (cell_edge ny nz i j k) (at 0) (at 3) (at 7) (at 4) 3 11 7 8

  pub high_x_is : on_grid ny nz i j k (high_x (corner_below below i j k)) ≡ map flip (side_x ny nz below (i + 1) j k)
  unfolding side_x
  high_x_is = side_flip (cell_edge ny nz i j k) (at 1) (at 2) (at 6) (at 5) 1 10 5 9

  pub low_y_is : on_grid ny nz i j k (low_y (corner_below below i j k)) ≡ side_y ny nz below i (j + 0) k
  unfolding side_y
  low_y_is = side_map (cell_edge ny nz i j k) (at 0) (at 4) (at 5) (at 1) 8 4 9 0

  pub high_y_is : on_grid ny nz i j k (high_y (corner_below below i j k)) ≡ map flip (side_y ny nz below i (j + 1) k)
  unfolding side_y
  high_y_is = side_flip (cell_edge ny nz i j k) (at 3) (at 7) (at 6) (at 2) 11 6 10 2

  pub low_z_is : on_grid ny nz i j k (low_z (corner_below below i j k)) ≡ side_z ny nz below i j (k + 0)
  unfolding side_z
  low_z_is = side_map (cell_edge ny nz i j k) (at 0) (at 1) (at 2) (at 3) 0 1 2 3

  pub high_z_is : on_grid ny nz i j k (high_z (corner_below below i j k)) ≡ map flip (side_z ny nz below i j (k + 1))
  unfolding side_z
  high_z_is = side_flip (cell_edge ny nz i j k) (at 4) (at 5) (at 6) (at 7) 4 5 6 7

  cell_sides :
      on_grid ny nz i j k (cube_sides (corner_below below i j k))
      ≡ sides
      (side_x ny nz below (i + 0) j k) (map flip (side_x ny nz below (i + 1) j k))
      (side_y ny nz below i (j + 0) k) (map flip (side_y ny nz below i (j + 1) k))
      (side_z ny nz below i j (k + 0)) (map flip (side_z ny nz below i j (k + 1)))
  cell_sides = simp (map-append, low_x_is, high_x_is, low_y_is, high_y_is, low_z_is, high_z_is)

  -- ---- the faces of a cell

  -- the row uses the cube's edges alone, and they have different numbers
  known : All (λ e. In e cube_edges) (corners (emitted (cell_case below i j k)))
  known = in_all (λ e. In e cube_edges) (corners (emitted (cell_case below i j k))) (exact_known (corner_below below i j k))

  module _ (hy : 2 ≤ ny) (hz : 2 ≤ nz) where
    on : (l : List ℕ) → All (λ e. In e cube_edges) l → Injective (cell_edge ny nz i j k) l
    on l h x y hx hy' e =
        cell_edge_injective ny nz hy hz i j k x y (all_in (λ e. In e cube_edges) l h x hx) (all_in (λ e. In e cube_edges) l h y hy') e

    pub cell_apart : All Apart (cell_faces ny nz below i j k)
    unfolding cell_faces
    cell_apart =
        apart_map_face (cell_edge ny nz i j k) (emitted (cell_case below i j k)) (on (corners (emitted (cell_case below i j k))) known)
        (table_rule (corner_below below i j k)).apart

    -- a cell's faces balance but for its sides
    known_ends : All (λ e. In e cube_edges) (ends (arcs (emitted (cell_case below i j k)) ++ map flip (cube_sides at)))
    known_ends =
        subst (All (λ e. In e cube_edges)) (sym (ends_append (arcs (emitted (cell_case below i j k))) (map flip (cube_sides at))))
        (all_append (λ e. In e cube_edges) (ends (arcs (emitted (cell_case below i j k)))) (ends (map flip (cube_sides at)))
        (all_ends_arcs (λ e. In e cube_edges) (emitted (cell_case below i j k)) known)
        (all_ends_flip (λ e. In e cube_edges) (cube_sides at) (sides_known at)))

    pub cell_even :
        BalancedArcs
        (arcs (cell_faces ny nz below i j k)
        ++ map flip
        (sides
        (side_x ny nz below (i + 0) j k) (map flip (side_x ny nz below (i + 1) j k))
        (side_y ny nz below i (j + 0) k) (map flip (side_y ny nz below i (j + 1) k))
        (side_z ny nz below i j (k + 0)) (map flip (side_z ny nz below i j (k + 1)))))
    unfolding cell_faces
    cell_even =
        let fs : List Face = emitted (cell_case below i j k) in
        subst (λ (l : List Arc). BalancedArcs (arcs (map (map_face (cell_edge ny nz i j k)) fs) ++ map flip l)) cell_sides
        (lift_cell (cell_edge ny nz i j k) fs (cube_sides at) (on (ends (arcs fs ++ map flip (cube_sides at))) known_ends) (net_balanced (arcs fs) (cube_sides at) (table_rule at).even))

-- ---- the outer sides, whose four nodes are alike, yield nothing

module _ (ny nz : ℕ) (below : ℕ → ℕ → ℕ → Bool) (s : Bool) where
  flat_x : (x j k : ℕ) → ((b c : ℕ) → b ≤ j + 1 → c ≤ k + 1 → below x b c ≡ s) → side_x ny nz below x j k ≡ []
  unfolding side_x
  flat_x x j k h =
      side_even s (below x (j + 0) (k + 0)) (below x (j + 1) (k + 0)) (below x (j + 1) (k + 1)) (below x (j + 0) (k + 1))
      (edge (node ny nz x (j + 0) (k + 0)) 1) (edge (node ny nz x (j + 1) (k + 0)) 2) (edge (node ny nz x (j + 0) (k + 1)) 1) (edge (node ny nz x (j + 0) (k + 0)) 2)
      (h (j + 0) (k + 0) (omega arith) (omega arith)) (h (j + 1) (k + 0) (omega arith) (omega arith))
      (h (j + 1) (k + 1) (omega arith) (omega arith)) (h (j + 0) (k + 1) (omega arith) (omega arith))

  flat_y : (i y k : ℕ) → ((a c : ℕ) → a ≤ i + 1 → c ≤ k + 1 → below a y c ≡ s) → side_y ny nz below i y k ≡ []
  unfolding side_y
  flat_y i y k h =
      side_even s (below (i + 0) y (k + 0)) (below (i + 0) y (k + 1)) (below (i + 1) y (k + 1)) (below (i + 1) y (k + 0))
      (edge (node ny nz (i + 0) y (k + 0)) 2) (edge (node ny nz (i + 0) y (k + 1)) 0) (edge (node ny nz (i + 1) y (k + 0)) 2) (edge (node ny nz (i + 0) y (k + 0)) 0)
      (h (i + 0) (k + 0) (omega arith) (omega arith)) (h (i + 0) (k + 1) (omega arith) (omega arith))
      (h (i + 1) (k + 1) (omega arith) (omega arith)) (h (i + 1) (k + 0) (omega arith) (omega arith))

  flat_z : (i j z : ℕ) → ((a b : ℕ) → a ≤ i + 1 → b ≤ j + 1 → below a b z ≡ s) → side_z ny nz below i j z ≡ []
  unfolding side_z
  flat_z i j z h =
      side_even s (below (i + 0) (j + 0) z) (below (i + 1) (j + 0) z) (below (i + 1) (j + 1) z) (below (i + 0) (j + 1) z)
      (edge (node ny nz (i + 0) (j + 0) z) 0) (edge (node ny nz (i + 1) (j + 0) z) 1) (edge (node ny nz (i + 0) (j + 1) z) 0) (edge (node ny nz (i + 0) (j + 0) z) 1)
      (h (i + 0) (j + 0) (omega arith) (omega arith)) (h (i + 1) (j + 0) (omega arith) (omega arith))
      (h (i + 1) (j + 1) (omega arith) (omega arith)) (h (i + 0) (j + 1) (omega arith) (omega arith))

-- ---- the grid

-- how often a side yields an arc, and how often it does seen from the other side
abbrev times : (ℕ → ℕ → ℕ → List Arc) → PerCell
times f i j k a b = count (goes a b) (f i j k)

count_none : (a b : ℕ) (xs : List Arc) → xs ≡ [] → count (goes a b) xs ≡ 0
count_none a b xs e = ap (count (goes a b)) e ∙ count_nil (goes a b)

count_flip_none : (a b : ℕ) (xs : List Arc) → xs ≡ [] → count (goes a b) (map flip xs) ≡ 0
count_flip_none a b xs e = count_flip a b xs ∙ count_none b a xs e

-- the side that two neighbours share
shared : (a b : ℕ) (f : ℕ → List Arc) (i : ℕ) → count (goes a b) (map flip (f (i + 1))) ≡ count (goes b a) (f (i + 1 + 0))
shared a b f i = count_flip a b (f (i + 1)) ∙ ap (λ (x : ℕ). count (goes b a) (f x)) (sym (add-zero (i + 1)))

count_sides : (a b : ℕ) (xm xp ym yp zm zp : List Arc)
    → count (goes a b) (map flip (sides xm xp ym yp zm zp))
    ≡ count (goes b a) xm + count (goes b a) xp + (count (goes b a) ym + count (goes b a) yp) + (count (goes b a) zm + count (goes b a) zp)
count_sides a b xm xp ym yp zm zp =
    omega (
      arith,
      count_flip a b (sides xm xp ym yp zm zp),
      count_append (goes b a) (xm ++ xp ++ (ym ++ yp)) (zm ++ zp),
      count_append (goes b a) (xm ++ xp) (ym ++ yp),
      count_append (goes b a) xm xp,
      count_append (goes b a) ym yp,
      count_append (goes b a) zm zp,
    )

-- a cell's faces, counted
net_sides : (a b : ℕ) (fs : List Face) (xm xp ym yp zm zp : List Arc) → All Apart fs → BalancedArcs (arcs fs ++ map flip (sides xm xp ym yp zm zp))
    → count (runs a b) fs
    + (count (goes b a) xm + count (goes b a) xp + (count (goes b a) ym + count (goes b a) yp) + (count (goes b a) zm + count (goes b a) zp))
    ≡ count (runs b a) fs
    + (count (goes a b) xm + count (goes a b) xp + (count (goes a b) ym + count (goes a b) yp) + (count (goes a b) zm + count (goes a b) zp))
net_sides a b fs xm xp ym yp zm zp apart even =
    omega (
      arith,
      even a b,
      count_append (goes a b) (arcs fs) (map flip (sides xm xp ym yp zm zp)),
      count_append (goes b a) (arcs fs) (map flip (sides xm xp ym yp zm zp)),
      count_arcs a b fs apart,
      count_arcs b a fs apart,
      count_sides a b xm xp ym yp zm zp,
      count_sides b a xm xp ym yp zm zp,
    )

module _ (nx ny nz : ℕ) (hx : 2 ≤ nx) (hy : 2 ≤ ny) (hz : 2 ≤ nz) (below : ℕ → ℕ → ℕ → Bool) where
  -- three different corners, in any grid
  pub grid_faces_apart : All Apart (grid_faces nx ny nz below)
  unfolding grid_faces
  grid_faces_apart =
      all_cells3 Apart (nx - 1) (ny - 1) (nz - 1) (cell_faces ny nz below) (λ i j k bi bj bk. cell_apart ny nz below i j k hy hz)

  module _ (s : Bool) (outer : Outer nx ny nz below s) where
    grid_matched : Matched nx ny nz (λ i j k a b. count (runs a b) (cell_faces ny nz below i j k))
        (times (λ i j k. side_x ny nz below (i + 0) j k)) (times (λ i j k. map flip (side_x ny nz below (i + 1) j k)))
        (times (λ i j k. side_y ny nz below i (j + 0) k)) (times (λ i j k. map flip (side_y ny nz below i (j + 1) k)))
        (times (λ i j k. side_z ny nz below i j (k + 0))) (times (λ i j k. map flip (side_z ny nz below i j (k + 1))))
    grid_matched =
        record {
          cell = λ i j k a b bi bj bk.
              net_sides a b (cell_faces ny nz below i j k)
              (side_x ny nz below (i + 0) j k) (map flip (side_x ny nz below (i + 1) j k))
              (side_y ny nz below i (j + 0) k) (map flip (side_y ny nz below i (j + 1) k))
              (side_z ny nz below i j (k + 0)) (map flip (side_z ny nz below i j (k + 1)))
              (cell_apart ny nz below i j k hy hz) (cell_even ny nz below i j k hy hz);
          next_x = λ i j k a b bi bj bk. shared a b (λ x. side_x ny nz below x j k) i;
          next_y = λ i j k a b bi bj bk. shared a b (λ y. side_y ny nz below i y k) j;
          next_z = λ i j k a b bi bj bk. shared a b (λ z. side_z ny nz below i j z) k;
          first_x = λ j k a b bj bk. count_none a b (side_x ny nz below 0 j k)
              (flat_x ny nz below s 0 j k (λ m n bm bn. outer.low_x m n (omega arith) (omega arith)));
          last_x = λ j k a b bj bk. count_flip_none a b (side_x ny nz below (nx - 2 + 1) j k)
              (flat_x ny nz below s (nx - 2 + 1) j k (λ m n bm bn. ap (λ (x : ℕ). below x m n) (last nx hx) ∙ outer.high_x m n (omega arith) (omega arith)));
          first_y = λ i k a b bi bk. count_none a b (side_y ny nz below i 0 k)
              (flat_y ny nz below s i 0 k (λ m n bm bn. outer.low_y m n (omega arith) (omega arith)));
          last_y = λ i k a b bi bk. count_flip_none a b (side_y ny nz below i (ny - 2 + 1) k)
              (flat_y ny nz below s i (ny - 2 + 1) k (λ m n bm bn. ap (λ (y : ℕ). below m y n) (last ny hy) ∙ outer.high_y m n (omega arith) (omega arith)));
          first_z = λ i j a b bi bj. count_none a b (side_z ny nz below i j 0)
              (flat_z ny nz below s i j 0 (λ m n bm bn. outer.low_z m n (omega arith) (omega arith)));
          last_z = λ i j a b bi bj. count_flip_none a b (side_z ny nz below i j (nz - 2 + 1))
              (flat_z ny nz below s i j (nz - 2 + 1) (λ m n bm bn. ap (λ (z : ℕ). below m n z) (last nz hz) ∙ outer.high_z m n (omega arith) (omega arith)));
        }
      where
        last : (n : ℕ) → 2 ≤ n → n - 2 + 1 ≡ n - 1
        last n h = omega arith

    pub grid_faces_balanced : Balanced (grid_faces nx ny nz below)
    unfolding grid_faces
    grid_faces_balanced = closed_faces nx ny nz (cell_faces ny nz below) _ _ _ _ _ _ grid_matched
