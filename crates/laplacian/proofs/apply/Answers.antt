-- `laplacian::apply` meets its contract: the first plane, those between and the last are the whole (`planes_are`). Assumes nothing.
use Rattle.laplacian.proofs.ApplyRows.{between_size, planes_are}
use Rattle.laplacian.proofs.apply.Goals as goal

pub returns : goal.returns
returns c = planes_are c.requires.sides c.args.x.now c.args.y.now c.requires.x_len.1 c.clear.ensures c.apply_between.ensures c.clear-2.ensures

pub apply_between-requires-clause-x_len : goal.apply_between-requires-clause-x_len
apply_between-requires-clause-x_len c = (c.requires.x_len.0, between_size c.requires.sides c.args.x.now c.args.y.now c.requires.x_len.1 c.clear.ensures)
