-- `solver::descend` meets its contract: a zero right side leaves x, and any other has its start and its turns (Steps). Assumes nothing.
use Rattle.solver.proofs.Steps.{zero_stays, turns_are}
use Rattle.solver.proofs.gradients.descend.Goals as goal

pub returns-then-norm-clause-solved : goal.returns-then-norm-clause-solved
returns-then-norm-clause-solved c =
    zero_stays c.args.g c.args.tolerance c.args.cap c.args.b.now c.args.run.now.x.now c.dot.ensures c.root-norm.ensures c.if-norm.true

pub returns-clause-solved : goal.returns-clause-solved
returns-clause-solved c =
    turns_are c.args.g c.args.tolerance c.args.cap c.args.b.now c.args.run.now.x.now c.dot.ensures c.root-norm.ensures c.if-norm.false
    c.begin-rr.ensures.started c.turns.ensures.turned
