-- `laplacian::inner_row` meets its contract: after k turns `y` is the row with its first k elements written, k being 1 or more. Assumes nothing.
use Rattle.std.proofs.Common.{◌≡◌, ◌-◌, ◌≤◌, ◌<◌, length}
use Rattle.lists.specs.Laws.Fill.{Filled}
use Rattle.laplacian.specs.Words.{inner_row_at}
use Rattle.laplacian.proofs.inner_row.Given as goal

abbrev pub invariant-loop-k : goal.invariant-loop-k
invariant-loop-k l = Filled (inner_row_at l.plane l.n l.x l.first.0) l.initial.y l.y l.k × (length l.initial.y ≡ l.n) × (1 ≤ l.k) × (l.k < l.n) × (l.k-end ≡ l.n - 1)
