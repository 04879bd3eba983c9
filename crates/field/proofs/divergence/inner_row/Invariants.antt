-- `field::divergence::inner_row` meets its contract. The loop's invariant: the first k elements of `b` are the row's.
-- Assumes nothing.
use Rattle.std.proofs.Common.{◌≡◌, ◌≤◌, ◌-◌, ◌+◌, length, take}
use Rattle.lists.specs.Lists.{tabulate}
use Rattle.field.specs.Words.{row_at}
use Rattle.field.proofs.divergence.inner_row.Given as goal

abbrev pub invariant-loop-k : goal.invariant-loop-k
invariant-loop-k l = (take l.k l.b ≡ tabulate l.k (row_at l.n l.h l.x l.y l.z l.first.0)) × (length l.b ≡ l.n) × (1 ≤ l.k) × (l.k + 1 ≤ l.n) × (l.k-end ≡ l.n - 1)
