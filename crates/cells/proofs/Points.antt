-- The vertex on an edge as code finds it: the lower node is the edge's, the upper one a stride further, and the counts are small enough to be floats.
-- Assumes nothing.
use mathlib.Core.Path.{◌≡◌, refl, ap, ◌∙◌}
use mathlib.Core.List.{List, [], ◌∷◌}
use Prim.Native.Nat.{ℕ, ◌+◌, ◌/◌, ◌^◌, ◌≤◌, ◌<◌}
use native.Mathlib.Nat.{le_trans, div-le_self, mod-le}
use native.Mathlib.Omega.{arith}
use lib.Dec.{T, le→leb}
use lib.IntN.{pos}
use lib.Ieee.{Float, binary64, in_float}
use lib.ListN.{length, get_or}
use Rattle.lists.specs.Lists.{at}
use Rattle.numbers.specs.Arithmetic.{narrowed}
use Rattle.closed.specs.Grid.{node}
use Rattle.grid.specs.Grid.{coords_of, node_of, axis_of, world_along}
use Rattle.grid.specs.Laws.Numbering.{node_of_coords}
use Rattle.grid.specs.declared.Lattice.{Lattice}
use Rattle.cells.specs.Extraction.{count_y, count_z, crossing, unit, lower_value, upper_value, count_along, edge_point}
use Rattle.cells.specs.Words.{stride, Inner}
use Rattle.cells.specs.Laws.Cells.{node_add, unit_stride}

pub count_float : {n : ℕ} → n ≤ 16777216 → T (in_float binary64 (pos n))
unfolding in_float
count_float {n} h = le→leb n (2 ^ 53) (omega arith)

module _ (values : List Float) (ny nz e : ℕ) where
  lower_is : lower_value values ny nz e ≡ at values (node_of e)
  unfolding lower_value
  lower_is = ap (at values) (node_of_coords ny nz (node_of e))

  upper_is : upper_value values ny nz e ≡ at values (node_of e + stride ny nz (axis_of e))
  unfolding upper_value
  upper_is =
      let p = coords_of ny nz (node_of e) in
      let u = unit (axis_of e) in
      ap (at values)
      (node_add ny nz (get_or p 0 0) (get_or p 1 0) (get_or p 2 0) (u 0) (u 1) (u 2)
      ∙ ap (λ (n : ℕ). n + node ny nz (u 0) (u 1) (u 2)) (node_of_coords ny nz (node_of e))
      ∙ ap (λ (n : ℕ). node_of e + n) (unit_stride ny nz (axis_of e) (omega arith)))

-- the numbers that code holds on the way
pub point_is : (values : List Float) (l : Lattice) (iso : Float) (e : ℕ) {axis q n s : ℕ} {place : List ℕ} {t x y z X Y Z : Float}
    → axis ≡ axis_of e → q ≡ node_of e → place ≡ coords_of (count_y l) (count_z l) q → n ≡ q → s ≡ stride (count_y l) (count_z l) axis
    → t ≡ crossing (at values n) (at values (n + s)) iso
    → x ≡ count_along axis 0 (get_or place 0 0) t → y ≡ count_along axis 1 (get_or place 1 0) t → z ≡ count_along axis 2 (get_or place 2 0) t
    → X ≡ narrowed (world_along (at l.origin 0) (at l.step 0) x)
    → Y ≡ narrowed (world_along (at l.origin 1) (at l.step 1) y)
    → Z ≡ narrowed (world_along (at l.origin 2) (at l.step 2) z)
    → X ∷ Y ∷ Z ∷ [] ≡ edge_point values l iso e
unfolding edge_point
point_is values l iso e ha hq hp hn hs ht hx hy hz hX hY hZ =
    rw (hX, hY, hZ, hx, hy, hz, ht, hp, hs, hn, hq, ha, lower_is values (count_y l) (count_z l) e, upper_is values (count_y l) (count_z l) e) refl

pub upper_inside : {values : List Float} {l : Lattice} {e axis q n s : ℕ} → Inner values l e → axis ≡ axis_of e → q ≡ node_of e → n ≡ q
    → s ≡ stride (count_y l) (count_z l) axis → n + s < length values
upper_inside {l = l} h a b c d = omega (arith, h.upper, d ∙ ap (stride (count_y l) (count_z l)) a)

-- a position's counts are at most the node's number
pub coords_small : {values : List Float} {l : Lattice} {e q : ℕ} {place : List ℕ} → Inner values l e → q ≡ node_of e → place ≡ coords_of (count_y l) (count_z l) q
    → (get_or place 0 0 ≤ 16777216) × (get_or place 1 0 ≤ 16777216) × (get_or place 2 0 ≤ 16777216)
coords_small {l = l} {q = q} h a b =
    let r : q / count_z l ≤ q = div-le_self q (count_z l) in
    let few : q ≤ 16777216 = omega (arith, h.upper, h.most) in
    rw b (
      le_trans (div-le_self (q / count_z l) (count_y l)) (le_trans r few),
      le_trans (mod-le (q / count_z l) (count_y l)) (le_trans r few),
      le_trans (mod-le q (count_z l)) few,
    )
