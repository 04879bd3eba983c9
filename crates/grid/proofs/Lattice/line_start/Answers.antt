-- `grid::Lattice::line_start`: it is the node at (i, j, 0), found from the start of its line (`line_node`). Assumes nothing.
use Rattle.std.proofs.Common.{◌∙◌, add-zero}
use Rattle.grid.specs.Laws.Numbering.{line_node}
use Rattle.grid.proofs.Lattice.line_start.Goals as goal

pub returns : goal.returns
returns c = c.node.ensures ∙ line_node _ _ _ _ 0 ∙ add-zero _
