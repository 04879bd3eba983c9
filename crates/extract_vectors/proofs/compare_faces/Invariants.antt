-- The loop of `extract_vectors::compare_faces`: each turn takes a word off the text. Assumes nothing.
use Rattle.std.proofs.Common.{◌≤◌, length}
use Rattle.extract_vectors.proofs.compare_faces.Given as goal

abbrev pub invariant-loop-i : goal.invariant-loop-i
invariant-loop-i g l = length l.words ≤ length l.initial.words
