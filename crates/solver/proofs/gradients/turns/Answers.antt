-- `solver::turns` meets its contract: after some turns the steps that are left, from the present state, are the steps from the first; the slices stay the same
-- ones, each of its length. Assumes nothing.
use Rattle.std.proofs.Common.{ap, arith}
use Rattle.solver.specs.Solver.{State}
use Rattle.solver.proofs.SameRuns.{then_same}
use Rattle.solver.proofs.Steps.{turns_done, turns_on, turns_end}
use Rattle.solver.proofs.gradients.turns.Goals as goal

pub returns-in_default-clause-turned : goal.returns-in_default-clause-turned
returns-in_default-clause-turned c =
    turns_done c.args.g c.args.limit c.args.cap c.loop.counter _ _ c.loop.invariant.0 c.loop-test.true c.in_default.ensures.turned

pub loop-preserved : goal.loop-preserved
loop-preserved c =
    let on = c.in-Some.ensures.turned in
    let same = then_same c.args.run.now c.loop.run c.one_turn.new.run c.loop.invariant.2 c.one_turn.ensures.same in
    (turns_on c.args.g c.args.limit c.args.cap c.loop.counter _ _ c.loop.invariant.0 c.loop-test.true on.0 on.1, c.one_turn.ensures.sized, same)

pub returns-clause-turned : goal.returns-clause-turned
returns-clause-turned c = ap (λ (t : State). t.x) (turns_end c.args.g c.args.limit c.args.cap c.loop.counter _ _ c.loop.invariant.0 (omega arith))
