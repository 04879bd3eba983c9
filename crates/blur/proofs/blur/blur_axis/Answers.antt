-- `blur::blur::blur_axis` meets its contract. The loop's invariant: `out` is what came with its first rows written.
-- Assumes nothing.
use Rattle.std.proofs.Common.{◌≡◌, refl, ap, ℕ, ◌+◌, ◌*◌, zero-mul, arith}
use Rattle.lists.specs.Laws.Fill.{filled_none, filled_done}
use Rattle.lists.specs.Laws.Part.{filled_part}
use Rattle.grid.specs.Laws.Rows.{row_next}
use Rattle.blur.specs.Laws.Within.{within_cube}
use Rattle.blur.proofs.blur.blur_axis.Goals as goal

pub loop-row-init : goal.loop-row-init
loop-row-init c = (rw zero-mul filled_none, refl)

pub loop-row-preserved : goal.loop-row-preserved
loop-row-preserved c =
    let n = c.args.g.nodes in
    let within = within_cube n c.loop-row.row c.requires.0.most c.loop-row-test.true in
    (rw row_next (filled_part (c.loop-row.row * n + n) c.loop-row.invariant.0 c.blur_row.ensures refl (omega arith) (λ k h. refl)), refl)

pub returns : goal.returns
returns c =
    let n = c.args.g.nodes in
    let all : c.loop-row.row ≡ n * n = omega arith in
    filled_done c.loop-row.invariant.0 c.requires.2 (omega (arith, ap (λ (m : ℕ). m * n) all))
