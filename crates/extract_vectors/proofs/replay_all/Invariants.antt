-- The loop of `extract_vectors::replay_all`: each turn takes a word off the text, and counts at most one. Assumes nothing.
use Rattle.std.proofs.Common.{◌+◌, ◌≤◌, length}
use Rattle.extract_vectors.proofs.replay_all.Given as goal

abbrev pub invariant-loop-word : goal.invariant-loop-word
invariant-loop-word g l = (l.grids + length l.words ≤ length l.text) × (l.differ ≤ l.grids)

abbrev pub decreases-loop-word : goal.decreases-loop-word
decreases-loop-word g l = length l.words
