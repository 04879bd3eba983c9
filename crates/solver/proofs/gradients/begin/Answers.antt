-- `solver::begin` meets its contract: what its four stages say is the start (`start_is`). Assumes nothing.
use Rattle.lists.specs.Laws.Tabulate.{of_size}
use Rattle.solver.proofs.Steps.{start_is}
use Rattle.solver.proofs.gradients.begin.Goals as goal

pub returns-clause-started : goal.returns-clause-started
returns-clause-started c = start_is c.args.g c.args.b.now c.apply.ensures (of_size _ c.less.ensures c.requires.sized.of_r) c.copy.ensures c.dot.ensures
