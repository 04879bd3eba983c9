-- `blur::blur::blur_axis` meets its contract. The loop's invariant: `out` is what came with its first rows written.
-- Assumes nothing.
use Rattle.std.proofs.Common.{◌≡◌, ◌*◌}
use Rattle.lists.specs.Laws.Fill.{Filled}
use Rattle.blur.specs.Blur.{blur_at}
use Rattle.blur.specs.Words.{radius_in}
use Rattle.blur.proofs.blur.blur_axis.Given as goal

abbrev pub invariant-loop-row : goal.invariant-loop-row
invariant-loop-row l = Filled (blur_at l.axis l.n (radius_in l.kernel) l.kernel l.v) l.initial.out l.out (l.row * l.n) × (l.row-end ≡ l.n * l.n)
