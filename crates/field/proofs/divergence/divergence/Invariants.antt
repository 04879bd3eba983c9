-- `field::divergence::divergence` meets its contract. The loop's invariant: `b` is what came with its first rows written.
-- Assumes nothing.
use Rattle.std.proofs.Common.{◌≡◌, ◌*◌}
use Rattle.lists.specs.Laws.Fill.{Filled}
use Rattle.field.specs.Field.{right_side_at}
use Rattle.field.proofs.divergence.divergence.Given as goal

abbrev pub invariant-loop-row : goal.invariant-loop-row
invariant-loop-row l = Filled (right_side_at l.n l.h l.x l.y l.z) l.initial.b l.b (l.row * l.n) × (l.row-end ≡ l.n * l.n)
