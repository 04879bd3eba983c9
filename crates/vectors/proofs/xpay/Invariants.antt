-- `vectors::xpay` meets its contract: after i turns `p` is what came with the sums of the first i nodes written; the element that a turn writes is still
-- as it came. Assumes nothing.
use Rattle.std.proofs.Common.{◌≡◌, length}
use Rattle.lists.specs.Laws.Fill.{Filled}
use Rattle.vectors.specs.Vectors.{plus_at}
use Rattle.vectors.proofs.xpay.Given as goal

abbrev pub invariant-loop-i : goal.invariant-loop-i
invariant-loop-i l = Filled (plus_at l.beta l.r l.initial.p) l.initial.p l.p l.i × (l.i-end ≡ length l.initial.p)
