-- A grid for what knows only the nodes per side: one level's steps read neither the origin nor the step. Assumes nothing.
use Rattle.std.specs.Prelude.{[], ◌∷◌, ℕ}
use Rattle.grid.specs.declared.Grid.{Grid}
use Rattle.numbers.specs.Constants.{zero64}

abbrev pub grid_of_side : (nodes : ℕ) → Grid
grid_of_side nodes = record { nodes = nodes; origin = zero64 ∷ zero64 ∷ zero64 ∷ []; step = zero64 }
