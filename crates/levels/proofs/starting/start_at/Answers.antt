-- `levels::start_at` meets its contract: the position of the node is in the cube, and its place there is what is sampled. Assumes nothing.
use Rattle.std.proofs.Common.{sym, ◌∙◌}
use Rattle.grid.specs.Laws.Numbering.{coords_below}
use Rattle.levels.specs.Levels.{start_at}
use Rattle.levels.proofs.starting.start_at.Goals as goal

pub returns-then-is_boundary : goal.returns-then-is_boundary
unfolding start_at
returns-then-is_boundary c = rw (sym (rw c.coords-at.ensures at c.is_boundary.ensures) ∙ c.if-is_boundary.true)

pub world-requires-clause-position : goal.world-requires-clause-position
world-requires-clause-position c =
    let n = c.args.g.nodes in
    rw c.coords-at.ensures (coords_below n n n c.requires.node_bound.0)

pub returns : goal.returns
unfolding start_at
returns c =
    let off = sym (rw c.coords-at.ensures at c.is_boundary.ensures) ∙ c.if-is_boundary.false in
    c.narrow.ensures ∙ rw (c.sample.ensures, c.world.ensures, c.coords-at.ensures, off)
