-- What is left of the word, spelled after the number so far, gives what all of it gives from 0.
use Rattle.std.proofs.Common.{◌≡◌, drop}
use Rattle.replay.specs.Words.{spelled}
use Rattle.replay.proofs.spelled.Given as goal

abbrev pub invariant-loop-b : goal.invariant-loop-b
invariant-loop-b l = spelled l.base l.most l.v (drop l.b-index l.word) ≡ spelled l.base l.most 0 l.word
