-- `cubes::table::triangle_table` meets its contract: the code's table is the definition's rows, laid out flat, which antt computes.
-- Assumes nothing.
use Rattle.std.proofs.Common.{refl}
use Rattle.closed.specs.Rows.{rows, flat_table}
use Rattle.cubes.proofs.table.triangle_table.Goals as goal

pub returns : goal.returns
unfolding rows flat_table
returns c = refl
