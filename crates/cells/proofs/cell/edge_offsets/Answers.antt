-- Each of the twelve is its edge's number in the cell at node 0.
use Rattle.std.proofs.Common.{rules}
use Rattle.cells.specs.Extraction.{count_y, count_z}
use Rattle.cells.specs.Words.{edge_offset}
use Rattle.cells.proofs.FromFn.{made}
use Rattle.cells.proofs.cell.edge_offsets.Goals as goal

pub returns : goal.returns
returns c = made _ _ (edge_offset (count_y c.args.lattice) (count_z c.args.lattice)) 12 (λ i y q b k. search rules) 0 c.from_fn.result c.from_fn.ensures.items
