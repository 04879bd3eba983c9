-- `calls_replayed::replay_all` ends: each call takes words off the text. Assumes nothing.
use Rattle.std.proofs.Common.{length}
use Rattle.calls_replayed.proofs.replay_all.Given as goal

abbrev pub decreases-loop-name : goal.decreases-loop-name
decreases-loop-name g l = length l.words
