-- `marked::p10`: node (1,2,3) of a grid of 8 per side is one that an edge may go from, its number being 83. Assumes nothing.
use Rattle.std.proofs.Common.{arith}
use Rattle.closed.specs.Grid.{node}
use Rattle.marked.proofs.p10.Goals as goal

pub of-edge-requires : goal.of-edge-requires
unfolding node
of-edge-requires g c = (rw (c.node-node.ensures, c.eight.ensures) (omega arith), omega arith)
