-- The loop of `calls_replayed::words::read_floats`: each turn takes a word off the text, and leaves an end of it. Assumes nothing.
use Rattle.std.proofs.Common.{◌≤◌, length}
use Rattle.replay.specs.Words.{EndOf}
use Rattle.calls_replayed.proofs.words.read_floats.Given as goal

abbrev pub invariant-loop-float : goal.invariant-loop-float
invariant-loop-float l = (length l.words ≤ length l.initial.words) × EndOf l.initial.words l.words
