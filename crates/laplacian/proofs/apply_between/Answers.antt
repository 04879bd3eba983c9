-- `laplacian::apply_between` meets its contract: after r turns the r rows after the first plane are written. Assumes nothing.
use Rattle.std.proofs.Common.{◌≡◌, ap, ℕ, ◌-◌, ◌*◌, zero-mul, arith}
use Rattle.lists.specs.Laws.Fill.{filled_none, filled_done}
use Rattle.grid.specs.Laws.Rows.{row_end}
use Rattle.laplacian.proofs.ApplyRows.{between_more}
use Rattle.laplacian.proofs.apply_between.Goals as goal

pub loop-r-init : goal.loop-r-init
loop-r-init c = (rw (zero-mul c.args.g.nodes) filled_none, omega arith)

pub loop-r-preserved : goal.loop-r-preserved
loop-r-preserved c =
    let n = c.args.g.nodes in
    let row = row_end n c.loop-r-test.true in
    (between_more n c.args.x.now c.loop-r.r c.loop-r.invariant.0 c.apply_row.ensures (omega (arith, c.requires.x_len.1)), omega arith)

pub returns : goal.returns
returns c =
    let all : c.loop-r.r ≡ (c.args.g.nodes - 2) * c.args.g.nodes = omega arith in
    filled_done c.loop-r.invariant.0 c.requires.x_len.1 (omega (arith, ap (λ (m : ℕ). m * c.args.g.nodes) all))
