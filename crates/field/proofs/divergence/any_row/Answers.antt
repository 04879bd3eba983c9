-- `field::divergence::any_row` meets its contract: a row on the boundary is zeros, and any other has a plane of nodes before it and one after it.
-- Assumes nothing.
use Rattle.std.proofs.Common.{sym, ◌∙◌, arith}
use Rattle.grid.specs.Laws.Rows.{inner_row}
use Rattle.blur.specs.Laws.Within.{within_cube}
use Rattle.field.proofs.RightSide.{boundary_row_is, inner_row_is}
use Rattle.field.proofs.divergence.any_row.Goals as goal

pub inner_row-requires : goal.inner_row-requires
inner_row-requires c =
    let w = within_cube c.args.g.nodes c.args.row c.requires.0.most c.requires.1 in
    let inside = inner_row c.args.g.nodes c.requires.1 (sym c.boundary_row.ensures ∙ c.if-boundary_row.false) in
    rw c.requires.2 (omega (arith, c.row_start.ensures, c.requires.0.two, c.requires.0.most))

pub returns-then-boundary_row : goal.returns-then-boundary_row
returns-then-boundary_row c = c.clear.ensures ∙ boundary_row_is c.args.g.nodes c.args.h c.args.x.now c.args.y.now c.args.z.now c.args.row c.requires.2 (sym c.boundary_row.ensures ∙ c.if-boundary_row.true)

pub returns-else-boundary_row : goal.returns-else-boundary_row
returns-else-boundary_row c = c.inner_row.ensures ∙ inner_row_is c.args.g.nodes c.args.h c.args.x.now c.args.y.now c.args.z.now c.args.row c.requires.2 c.row_start.ensures (sym c.boundary_row.ensures ∙ c.if-boundary_row.false)
