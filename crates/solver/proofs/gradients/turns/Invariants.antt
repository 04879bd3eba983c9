-- `solver::turns` meets its contract: after some turns the steps that are left, from the present state, are the steps from the first; the slices stay the same
-- ones, each of its length. Assumes nothing.
use Rattle.std.proofs.Common.{◌≡◌, ◌-◌}
use Rattle.solver.specs.Solver.{steps}
use Rattle.solver.specs.Runs.{SameRun, OneANode, state_of}
use Rattle.solver.proofs.gradients.turns.Given as goal

abbrev pub invariant-loop : goal.invariant-loop
invariant-loop l =
    (steps l.g l.limit (l.cap - l.counter) (state_of l.run l.rr) ≡ steps l.g l.limit l.cap (state_of l.initial.run l.initial.rr)) × OneANode l.g l.run × SameRun l.initial.run l.run
