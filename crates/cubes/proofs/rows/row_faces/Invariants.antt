-- `cubes::rows::row_faces` meets its contract.
-- Assumes nothing.
use Rattle.std.proofs.Common.{◌≤◌, length}
use Rattle.closed.specs.Rows.{emitted}
use Rattle.cubes.proofs.rows.row_faces.Given as goal

abbrev pub invariant-loop-k : goal.invariant-loop-k
invariant-loop-k l = l.k ≤ length (emitted l.case)
