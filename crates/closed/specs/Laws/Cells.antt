-- Words of the laws on a grid's cells (proofs/Laws/Cells): numbers that grow, and the sides of the cells as arcs. Definitions only; assumes nothing.
use Rattle.std.specs.Prelude.{Bool, ℕ, ◌+◌, ◌<◌}
use mathlib.Core.List.{List, [], ◌∷◌}
use Rattle.closed.specs.Table.{Arc, side}
use Rattle.closed.specs.Grid.{node, edge}

abbrev pub Growing : List ℕ → Type 0
Growing [] = Unit {0}
Growing (x ∷ []) = Unit {0}
Growing (x ∷ y ∷ l) = (x < y) × Growing (y ∷ l)

-- ---- the sides of the grid's cells: at x, beside the cells j k; at y, beside i k; at z, beside i j

module _ (ny nz : ℕ) (below : ℕ → ℕ → ℕ → Bool) where
  unfoldable pub side_x : ℕ → ℕ → ℕ → List Arc
  side_x x j k =
      side (below x (j + 0) (k + 0)) (below x (j + 1) (k + 0)) (below x (j + 1) (k + 1)) (below x (j + 0) (k + 1))
      (edge (node ny nz x (j + 0) (k + 0)) 1) (edge (node ny nz x (j + 1) (k + 0)) 2) (edge (node ny nz x (j + 0) (k + 1)) 1) (edge (node ny nz x (j + 0) (k + 0)) 2)

  unfoldable pub side_y : ℕ → ℕ → ℕ → List Arc
  side_y i y k =
      side (below (i + 0) y (k + 0)) (below (i + 0) y (k + 1)) (below (i + 1) y (k + 1)) (below (i + 1) y (k + 0))
      (edge (node ny nz (i + 0) y (k + 0)) 2) (edge (node ny nz (i + 0) y (k + 1)) 0) (edge (node ny nz (i + 1) y (k + 0)) 2) (edge (node ny nz (i + 0) y (k + 0)) 0)

  unfoldable pub side_z : ℕ → ℕ → ℕ → List Arc
  side_z i j z =
      side (below (i + 0) (j + 0) z) (below (i + 1) (j + 0) z) (below (i + 1) (j + 1) z) (below (i + 0) (j + 1) z)
      (edge (node ny nz (i + 0) (j + 0) z) 0) (edge (node ny nz (i + 1) (j + 0) z) 1) (edge (node ny nz (i + 0) (j + 1) z) 0) (edge (node ny nz (i + 0) (j + 0) z) 1)
