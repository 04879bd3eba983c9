-- `grid::cell_along`: the cast of u is its floor, and the cell the smaller of that and n-2. Assumes nothing.
use Rattle.std.proofs.Common.{◌≡◌, ◌-◌, min, arith}
use Rattle.grid.specs.Grid.{placed}
use Rattle.grid.proofs.Counts.{along_is}
use Rattle.grid.proofs.trilinear.cell_along.Goals.{then-floor-n, else-floor-n}
use Rattle.grid.proofs.trilinear.cell_along.Goals as goal

pub returns : goal.returns
unfolding placed
returns c =
    let smaller : c.if-floor-n.cell ≡ min c.to_whole-floor.result (c.args.n - 2) = elim c.if-floor-n.branch [ then-floor-n w ↦ omega arith | else-floor-n w ↦ omega arith ] in
    along_is _ _ _ _ _ _ _ c.clamp-u.ensures c.to_whole-floor.ensures smaller
