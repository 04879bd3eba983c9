-- What is claimed of the boundary: all its nodes have one value, which is +0.0 or NaN. Definitions only; assumes nothing.
use Rattle.std.specs.Prelude.{◌≡◌, true, List, ◌⊎◌, ℕ, ◌<◌, Float}
use Rattle.std.specs.Float.{nan}
use Rattle.lists.specs.Lists.{at, zero32}
use Rattle.grid.specs.declared.Grid.{Grid}
use Rattle.grid.specs.Grid.{boundary_node, all_nodes}

-- every boundary node has the value v
abbrev pub BoundaryIs : (g : Grid) (x : List Float) (v : Float) → Type 0
BoundaryIs g x v = (q : ℕ) → q < all_nodes g → boundary_node g.nodes q ≡ true → at x q ≡ v

abbrev pub ZeroOrNan : Float → Type 0
ZeroOrNan v = (v ≡ zero32) ⊎ (v ≡ nan)

pub record BoundaryUniform (g : Grid) (x : List Float) : Type 0 where
  pub value : Float
  pub which : ZeroOrNan value
  pub all : BoundaryIs g x value
