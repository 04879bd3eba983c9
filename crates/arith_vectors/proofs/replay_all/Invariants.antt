-- The loop of `arith_vectors::replay_all`: each line takes words off the text, and counts at most one. Assumes nothing.
use Rattle.std.proofs.Common.{◌+◌, ◌≤◌, length}
use Rattle.arith_vectors.proofs.replay_all.Given as goal

abbrev pub invariant-loop-name : goal.invariant-loop-name
invariant-loop-name g l = (l.lines + length l.words ≤ length l.text) × (l.differ ≤ l.lines)

abbrev pub decreases-loop-name : goal.decreases-loop-name
decreases-loop-name g l = length l.words
