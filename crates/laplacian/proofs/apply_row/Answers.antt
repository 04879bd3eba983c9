-- `laplacian::apply_row` meets its contract: a row on the boundary is zeros, and any other has a plane of nodes before it and one after it. Assumes nothing.
use Rattle.std.proofs.Common.{sym, ◌∙◌, ◌<◌, arith}
use Rattle.grid.specs.Laws.Rows.{row_plane, inner_row}
use Rattle.laplacian.proofs.ApplyRows.{boundary_row_is, inner_row_is}
use Rattle.laplacian.proofs.apply_row.Goals as goal

pub inner_row-requires : goal.inner_row-requires
inner_row-requires c =
    let some : 0 < c.args.g.nodes = omega (arith, c.requires.sides.two) in
    omega (arith, c.row_start.ensures, c.requires.sides.two, c.requires.row_bound, row_plane some, inner_row c.args.g.nodes c.requires.row_bound.0 (sym c.boundary_row.ensures ∙ c.if-boundary_row.false))

pub returns-then-boundary_row : goal.returns-then-boundary_row
returns-then-boundary_row c = c.clear.ensures ∙ boundary_row_is c.args.g.nodes c.args.x.now c.args.row c.requires.row_bound.2 (sym c.boundary_row.ensures ∙ c.if-boundary_row.true)

pub returns-else-boundary_row : goal.returns-else-boundary_row
returns-else-boundary_row c = c.inner_row.ensures ∙ inner_row_is c.args.g.nodes c.args.x.now c.args.row c.requires.row_bound.2 c.row_start.ensures (sym c.boundary_row.ensures ∙ c.if-boundary_row.false)
