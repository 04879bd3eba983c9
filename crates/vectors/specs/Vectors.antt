-- Document 01, "Solver", its dot product, and the sums over all nodes that a step makes. Values at the nodes are f32 and sums over them f64. Definitions
-- only; assumes nothing.
use Rattle.std.specs.Prelude.{List, ℕ, Float}
use Rattle.std.specs.Float.{binary32, binary64}
use Rattle.std.specs.Float.Ieee.{add, sub, mul}
use Rattle.numbers.specs.Constants.{zero64}
use Rattle.lists.specs.Lists.{at, fold_to}
use Rattle.grid.specs.declared.Grid.{Grid}
use Rattle.grid.specs.Grid.{all_nodes}

-- ---- the dot product: f64, index order, from +0.0

-- a sum with the product at k. An f32 is the same number at f64, so the terms are multiplied as they are
abbrev pub with_product : (a b : List Float) (s : Float) (k : ℕ) → Float
with_product a b s k = add binary64 s (mul binary64 (at a k) (at b k))

-- the first k products
unfoldable pub dot_to : (a b : List Float) (k : ℕ) → Float
dot_to a b k = fold_to (with_product a b) zero64 k

unfoldable pub dotted : (g : Grid) (a b : List Float) → Float
dotted g a b = dot_to a b (all_nodes g)

-- ---- sums over all nodes, in f32: a + c·b, a - c·b and a - b

abbrev pub plus_at : (c : Float) (a b : List Float) (k : ℕ) → Float
plus_at c a b k = add binary32 (at a k) (mul binary32 c (at b k))

abbrev pub minus_at : (c : Float) (a b : List Float) (k : ℕ) → Float
minus_at c a b k = sub binary32 (at a k) (mul binary32 c (at b k))

abbrev pub less_at : (a b : List Float) (k : ℕ) → Float
less_at a b k = sub binary32 (at a k) (at b k)
