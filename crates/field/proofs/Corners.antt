-- The points spread over the nodes: a corner lies in the slice, and the slice keeps its length, corner by corner and point by point. By `length-set`.
-- Assumes nothing.
use mathlib.Core.Path.{◌≡◌, refl, sym, ap, ◌∙◌}
use mathlib.Core.Bool.{Bool, true, false, cond}
use mathlib.Core.List.{List}
use Prim.Native.Nat.{ℕ, zero, suc, ◌+◌, ◌*◌, ◌<◌, ◌≤◌}
use native.Mathlib.Numerals.{add-one}
use native.Mathlib.Omega.{arith}
use lib.ListN.{length, length-set}
use lib.Ieee.{Float}
use Rattle.grid.specs.declared.Grid.{Grid}
use Rattle.grid.specs.declared.Cell.{Cell}
use Rattle.grid.specs.Grid.{Sides, CellInside, cell_corner}
use Rattle.grid.specs.Laws.Rows.{cube_most}
use Rattle.grid.specs.Laws.Cells.{corner_below}
use Rattle.points.specs.declared.point.Point.{Point}
use Rattle.field.specs.Field.{corner_added, corners_added, point_added}

-- a corner is a node of the slice, whose length is small
pub corner_within : {n len q : ℕ} {cell : Cell} (c : ℕ) → Sides n → CellInside n cell → len ≡ n * n * n → q ≡ cell_corner n cell c → (q < len) × (len ≤ 16777216)
corner_within c sides inside size e = omega (arith, e, corner_below c inside, size, cube_most sides.most)

module _ (n : ℕ) (cell : Cell) (u : Float) where
  pub length_corner : (c : ℕ) (v : List Float) → length (corner_added n cell u c v) ≡ length v
  unfolding corner_added
  length_corner c v = length-set v _ _

  length_corners : (c : ℕ) (v : List Float) → length (corners_added n cell u c v) ≡ length v
  unfolding corners_added
  length_corners zero v = refl
  length_corners (suc c) v = length_corner c (corners_added n cell u c v) ∙ length_corners c v

  -- a loop's start and its turn
  pub corners_none : (v : List Float) → v ≡ corners_added n cell u 0 v
  unfolding corners_added
  corners_none v = refl

  pub corners_more : (v : List Float) (c : ℕ) {w last : List Float} → w ≡ corners_added n cell u c v → last ≡ corner_added n cell u c w → last ≡ corners_added n cell u (c + 1) v
  unfolding corners_added
  corners_more v c e l = l ∙ ap (corner_added n cell u c) e ∙ sym (ap (λ (k : ℕ). corners_added n cell u k v) (add-one c))

length_point : (g : Grid) (a : ℕ) (v : List Float) (p : Point) → length (point_added g a v p) ≡ length v
unfolding point_added
length_point g a v p = length_corners g.nodes _ _ 8 v

pub length_usable : (g : Grid) (a : ℕ) (v : List Float) (p : Point) (b : Bool) → length (cond b (point_added g a v p) v) ≡ length v
length_usable g a v p true = length_point g a v p
length_usable g a v p false = refl
