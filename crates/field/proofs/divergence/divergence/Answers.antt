-- `field::divergence::divergence` meets its contract. The loop's invariant: `b` is what came with its first rows written.
-- Assumes nothing.
use Rattle.std.proofs.Common.{◌≡◌, refl, ap, ◌∙◌, ℕ, ◌+◌, ◌*◌, zero-mul, Float, arith}
use Rattle.lists.specs.Lists.{tabulate}
use Rattle.lists.specs.Laws.Fill.{filled_none, filled_done}
use Rattle.lists.specs.Laws.Part.{filled_part}
use Rattle.grid.specs.Laws.Rows.{row_next}
use Rattle.blur.specs.Laws.Within.{within_cube}
use Rattle.field.specs.Field.{right_side_at}
use Rattle.field.proofs.divergence.divergence.Goals as goal

pub loop-row-init : goal.loop-row-init
loop-row-init c = (rw zero-mul filled_none, refl)

pub loop-row-preserved : goal.loop-row-preserved
loop-row-preserved c =
    let n = c.args.g.nodes in
    let w = within_cube n c.loop-row.row c.requires.0.most c.loop-row-test.true in
    (rw row_next (filled_part (c.loop-row.row * n + n) c.loop-row.invariant.0 c.any_row.ensures refl (omega arith) (λ k h. refl)), refl)

pub returns : goal.returns
returns c =
    let n = c.args.g.nodes in
    let all : c.loop-row.row ≡ n * n = omega arith in
    filled_done c.loop-row.invariant.0 c.requires.4 (omega (arith, ap (λ (m : ℕ). m * n) all))
    ∙ ap (λ (h : Float). tabulate (n * n * n) (right_side_at n h c.args.x.now c.args.y.now c.args.z.now)) c.narrow-h.ensures
