-- `vectors::dot` meets its contract: after i turns `s` is the sum of the first i products. Assumes nothing.
use Rattle.std.proofs.Common.{◌≡◌, length}
use Rattle.vectors.specs.Laws.Dotted.{Summed}
use Rattle.vectors.proofs.dot.Given as goal

abbrev pub invariant-loop-i : goal.invariant-loop-i
invariant-loop-i l = Summed l.a l.b l.s l.i × (l.i-end ≡ length l.a)
