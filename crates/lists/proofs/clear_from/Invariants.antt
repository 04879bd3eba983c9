-- The loop of `lists::clear_from`: what is cleared so far, and that the loop's end is the length. Assumes nothing.
use Rattle.std.proofs.Common.{◌≡◌, length}
use Rattle.lists.specs.Laws.Padded.{ClearedFrom}
use Rattle.lists.proofs.clear_from.Given as goal

abbrev pub invariant-loop-i : goal.invariant-loop-i
invariant-loop-i g l = ClearedFrom g.T.Zero.ZERO l.from l.initial.values l.values l.i × (l.i-end ≡ length l.initial.values)
