-- The loop of `grid::Grid::sample`: after c turns the sum is that of the first c corners. Assumes nothing.
use Rattle.std.proofs.Common.{◌≡◌}
use Rattle.grid.specs.Grid.{sum_to}
use Rattle.grid.proofs.Grid.sample.Given as goal

abbrev pub invariant-loop-c : goal.invariant-loop-c
invariant-loop-c l = l.sum ≡ sum_to l.self.nodes l.values l.cell l.c
