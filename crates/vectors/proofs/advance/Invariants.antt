-- `vectors::advance` meets its contract: after i turns x and r are written, and the squares summed, up to there (Advancing). Assumes nothing.
use Rattle.std.proofs.Common.{◌≡◌, length}
use Rattle.vectors.proofs.Advancing.{Advancing}
use Rattle.vectors.proofs.advance.Given as goal

abbrev pub invariant-loop-i : goal.invariant-loop-i
invariant-loop-i l = Advancing l.alpha l.initial.x l.initial.r l.p l.ap l.x l.r l.s l.i × (l.i-end ≡ length l.initial.x)
