-- The loop of `extract_vectors::words::read_values`: each turn takes a word off the text, and leaves an end of it. Assumes nothing.
use Rattle.std.proofs.Common.{◌≤◌, length}
use Rattle.replay.specs.Words.{EndOf}
use Rattle.extract_vectors.proofs.words.read_values.Given as goal

abbrev pub invariant-loop-value : goal.invariant-loop-value
invariant-loop-value l = (length l.words ≤ length l.initial.words) × EndOf l.initial.words l.words
