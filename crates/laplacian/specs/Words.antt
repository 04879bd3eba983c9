-- A word for this crate's contracts: one element of a row. No caller sees it and no definition rests on it. Assumes nothing.
use Rattle.std.specs.Prelude.{cond, List, ℕ, ◌+◌, Float}
use Rattle.lists.specs.Lists.{zero32}
use Rattle.grid.specs.Grid.{at_end}
use Rattle.laplacian.specs.Laplacian.{stencil_at}

-- the element k of a row of n nodes, the first of which is `first`, where the row is not on the boundary
unfoldable pub inner_row_at : (plane n : ℕ) (x : List Float) (first k : ℕ) → Float
inner_row_at plane n x first k = cond (at_end n k) zero32 (stencil_at plane n x (first + k))
