-- Words for contracts: how long the slices of a step are, and what its first half leaves. No definition rests on them. Assumes nothing.
use Rattle.std.specs.Prelude.{◌≡◌, List, length, Float}
use Rattle.lists.specs.Lists.{tabulate}
use Rattle.grid.specs.declared.Grid.{Grid}
use Rattle.grid.specs.Grid.{Sides, all_nodes}
use Rattle.vectors.specs.Vectors.{dotted, plus_at, minus_at}

-- the slices have one element a node
pub record NodeSlices (g : Grid) (x r p ap : List Float) : Type 0 where
  pub sides : Sides g.nodes
  pub of_x : length x ≡ all_nodes g
  pub of_r : length r ≡ all_nodes g
  pub of_p : length p ≡ all_nodes g
  pub of_ap : length ap ≡ all_nodes g

-- the first half of a step by alpha: what it leaves as x' and r', and the rr' that it answers
pub record Advanced (g : Grid) (alpha : Float) (x r p ap x' r' : List Float) (rr' : Float) : Type 0 where
  pub of_x : x' ≡ tabulate (all_nodes g) (plus_at alpha x p)
  pub of_r : r' ≡ tabulate (all_nodes g) (minus_at alpha r ap)
  pub of_rr : rr' ≡ dotted g r' r'
