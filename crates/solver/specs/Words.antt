-- Words for this crate's contracts: what the slices are left with. `SolutionLeft` stands in the contract that callers see, beside `NodeSlices` of the crate
-- `vectors`, and no definition rests on it. Assumes nothing.
use Rattle.std.specs.Prelude.{◌≡◌, List, Float}
use Rattle.lists.specs.Lists.{zeros32}
use Rattle.grid.specs.declared.Grid.{Grid}
use Rattle.grid.specs.Grid.{all_nodes}

-- at exit: x is the solution, the other three are zeros
pub record SolutionLeft (g : Grid) (solution x r p ap : List Float) : Type 0 where
  pub of_x : x ≡ solution
  pub of_r : r ≡ zeros32 (all_nodes g)
  pub of_p : p ≡ zeros32 (all_nodes g)
  pub of_ap : ap ≡ zeros32 (all_nodes g)
