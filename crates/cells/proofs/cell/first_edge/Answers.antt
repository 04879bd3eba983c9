-- The edge's lower corner lies in the lattice (`corner_in`), so its node and its axis name an edge, and that is the definition's.
use Rattle.std.proofs.Common.{arith, get_or}
use Rattle.closed.proofs.Laws.Crossings.{node_lt}
use Rattle.grid.specs.Grid.{Position}
use Rattle.cubes.specs.Laws.Edges.{axis_small}
use Rattle.cells.specs.Laws.Cells.{corner_inside}
use Rattle.cells.proofs.cell.first_edge.Goals as goal

pub of-requires : goal.of-requires
of-requires c =
    let corner_in : let n = c.args.lattice.counts in Position (get_or n 0 0) (get_or n 1 0) (get_or n 2 0) c.corner-at.result = corner_inside c.args.lattice.counts c.args.e _ _ c.requires.0 c.requires.1 c.low_of.ensures c.corner-at.ensures in
    let l = c.args.lattice.counts in
    let p = corner_in in (
      omega (arith, c.node-node.ensures, node_lt (get_or l 0 0) (get_or l 1 0) (get_or l 2 0) (get_or c.corner-at.result 0 0) (get_or c.corner-at.result 1 0) (get_or c.corner-at.result 2 0) p.i p.j p.k, c.requires.0.most),
      omega (arith, c.axis_of.ensures, axis_small c.args.e c.requires.1),
    )
