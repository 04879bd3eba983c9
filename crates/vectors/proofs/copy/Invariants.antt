-- `vectors::copy` meets its contract: after i turns `p` is what came with the first i elements of `r` written. Assumes nothing.
use Rattle.std.proofs.Common.{◌≡◌, length}
use Rattle.lists.specs.Lists.{at}
use Rattle.lists.specs.Laws.Fill.{Filled}
use Rattle.vectors.proofs.copy.Given as goal

abbrev pub invariant-loop-i : goal.invariant-loop-i
invariant-loop-i l = Filled (at l.r) l.initial.p l.p l.i × (l.i-end ≡ length l.initial.p)
