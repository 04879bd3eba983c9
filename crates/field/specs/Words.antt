-- Words for the contracts of this crate's inner functions: where the points are spread, and one element of a row. No definition rests on them.
use Rattle.std.specs.Prelude.{◌≡◌, cond, List, ℕ, ◌+◌, ◌<◌, length, Float}
use Rattle.std.specs.Float.{binary32}
use Rattle.std.specs.Float.Ieee.{neg, mul}
use Rattle.lists.specs.Lists.{zero32}
use Rattle.grid.specs.declared.Grid.{Grid}
use Rattle.grid.specs.Grid.{Sides, all_nodes, at_end}
use Rattle.field.specs.Field.{divergence_at}

-- where component a of the points' units is spread: one element a node
abbrev pub Spread : (g : Grid) (v : List Float) (a : ℕ) → Type 0
Spread g v a = Sides g.nodes × (length v ≡ all_nodes g) × (a < 3)

-- the right side at a node off the boundary
abbrev pub inner_at : (n : ℕ) (h : Float) (x y z : List Float) (q : ℕ) → Float
inner_at n h x y z q = mul binary32 (mul binary32 (neg h) h) (divergence_at n h x y z q)

-- and at element k of a row from `first` on, of which the two ends alone are on the boundary
unfoldable pub row_at : (n : ℕ) (h : Float) (x y z : List Float) (first k : ℕ) → Float
row_at n h x y z first k = cond (at_end n k) zero32 (inner_at n h x y z (first + k))
