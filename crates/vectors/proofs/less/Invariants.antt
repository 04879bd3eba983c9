-- `vectors::less` meets its contract: after i turns `r` is what came with the differences of the first i nodes written. Assumes nothing.
use Rattle.std.proofs.Common.{◌≡◌, length}
use Rattle.lists.specs.Laws.Fill.{Filled}
use Rattle.vectors.specs.Vectors.{less_at}
use Rattle.vectors.proofs.less.Given as goal

abbrev pub invariant-loop-i : goal.invariant-loop-i
invariant-loop-i l = Filled (less_at l.b l.ax) l.initial.r l.r l.i × (l.i-end ≡ length l.initial.r)
