-- The loop of `exp_distance::compare`: each turn adds at most one. Assumes nothing.
use Rattle.std.proofs.Common.{◌≤◌}
use Rattle.exp_distance.proofs.compare.Given as goal

abbrev pub invariant-loop-k : goal.invariant-loop-k
invariant-loop-k g l = l.differ ≤ l.k
