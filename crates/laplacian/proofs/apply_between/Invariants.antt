-- `laplacian::apply_between` meets its contract: after r turns the r rows after the first plane are written. Assumes nothing.
use Rattle.std.proofs.Common.{◌+◌, ◌*◌, ◌≤◌}
use Rattle.lists.specs.Laws.Fill.{Filled}
use Rattle.laplacian.specs.Laplacian.{apply_at}
use Rattle.laplacian.proofs.apply_between.Given as goal

abbrev pub invariant-loop-r : goal.invariant-loop-r
invariant-loop-r l = Filled (λ k. apply_at l.n l.x (l.n * l.n + k)) l.initial.y l.y (l.r * l.n) × (l.r ≤ l.rows)
