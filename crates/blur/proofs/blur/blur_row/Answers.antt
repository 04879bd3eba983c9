-- `blur::blur::blur_row` meets its contract: the row along each axis (`Axes`).
-- Assumes nothing.
use Rattle.std.proofs.Common.{◌∙◌, ◌/◌, mul_assoc, arith}
use Rattle.grid.specs.Laws.Rows.{row_of}
use Rattle.blur.specs.Laws.Within.{rows_within}
use Rattle.blur.specs.Words.{radius_in}
use Rattle.blur.proofs.Axes.{axis_0, axis_1, axis_2}
use Rattle.blur.proofs.blur.blur_row.Goals as goal

pub blur_across-requires-in-1 : goal.blur_across-requires-in-1
blur_across-requires-in-1 c =
    let n = c.args.g.nodes in
    ((row_of n n c.requires.1).1, c.requires.0.most, c.requires.4, (λ p hp. let g = rows_within n c.args.row c.requires.1 p hp in omega (arith, c.row_start-in-1.ensures, mul_assoc (c.args.row / n) n n)))

pub returns-in-0 : goal.returns-in-0
returns-in-0 c =
    let n = c.args.g.nodes in
    axis_0 n c.args.row c.args.v.now c.args.kernel.now (radius_in c.args.kernel.now) c.requires.2 c.in-0.is c.row_start.ensures c.blur_across.ensures

pub returns-in-1 : goal.returns-in-1
returns-in-1 c =
    let n = c.args.g.nodes in
    axis_1 n c.args.row c.args.v.now c.args.kernel.now (radius_in c.args.kernel.now) c.requires.2 c.in-1.is (c.row_start-in-1.ensures ∙ mul_assoc (c.args.row / n) n n) c.blur_across-in-1.ensures

pub returns-in_default : goal.returns-in_default
returns-in_default c =
    let n = c.args.g.nodes in
    axis_2 n c.args.row c.args.v.now c.args.kernel.now (radius_in c.args.kernel.now) c.requires.2 c.args.axis (omega arith) c.blur_along.ensures
