-- What callers know of the right side: it has one element a node, and is +0.0 on the boundary nodes, whatever the points. By the definitions. Assumes nothing.
use Rattle.std.specs.Prelude.{◌≡◌, Bool, true, cond, List, ℕ, ◌<◌, length, Float}
use Rattle.std.proofs.Common.{ap, ◌∙◌}
use Rattle.std.specs.Float.Ieee.{nan, neg, mul}
use Rattle.std.specs.Float.{binary32}
use Rattle.lists.specs.Lists.{at, zero32}
use Rattle.lists.specs.Laws.Tabulate.{length_tabulate, at_tabulate}
use Rattle.grid.specs.declared.Grid.{Grid}
use Rattle.grid.specs.Grid.{boundary_node, all_nodes}
use Rattle.points.specs.declared.point.Point.{Point}
use Rattle.blur.specs.Blur.{blurred}
use Rattle.field.specs.Field.{component_of, divergence_at, right_side_at, right_side_by, right_side}

pub length_component : (g : Grid) (ps : List Point) (radius : ℕ) (kernel : List Float) (a : ℕ) → length (component_of g ps radius kernel a) ≡ all_nodes g
unfolding component_of blurred
length_component g ps radius kernel a = length_tabulate (all_nodes g) _

boundary_zero : (n : ℕ) (h : Float) (x y z : List Float) (q : ℕ) → boundary_node n q ≡ true → right_side_at n h x y z q ≡ zero32
unfolding right_side_at
boundary_zero n h x y z q e = ap (λ (b : Bool). cond b zero32 (mul binary32 (mul binary32 (neg h) h) (divergence_at n h x y z q))) e

module _ (g : Grid) (ps : List Point) (spacing smoothing : Float) where
  pub length_right_side : length (right_side g ps spacing smoothing) ≡ all_nodes g
  unfolding right_side right_side_by
  length_right_side = length_tabulate (all_nodes g) _

  pub right_side_boundary : (q : ℕ) → q < all_nodes g → boundary_node g.nodes q ≡ true → at (right_side g ps spacing smoothing) q ≡ zero32
  unfolding right_side right_side_by
  right_side_boundary q h e = at_tabulate nan (all_nodes g) _ q h ∙ boundary_zero _ _ _ _ _ q e
