-- `field::splat::add_point` meets its contract. The loop's invariant: the first c corners are added.
-- Assumes nothing.
use Rattle.std.proofs.Common.{◌≡◌, refl, ap, ◌∙◌, length, arith}
use Rattle.field.specs.Field.{point_added}
use Rattle.field.proofs.Corners.{length_corner, corners_none, corners_more}
use Rattle.field.proofs.splat.add_point.Goals as goal

pub loop-c-init : goal.loop-c-init
loop-c-init c = (corners_none _ _ _ _, refl)

pub loop-c-preserved : goal.loop-c-preserved
loop-c-preserved c = (corners_more _ _ _ _ c.loop-c.c c.loop-c.invariant.0 c.add_corner.ensures, ap length c.add_corner.ensures ∙ length_corner _ _ _ c.loop-c.c c.loop-c.v ∙ c.loop-c.invariant.1)

pub returns : goal.returns
unfolding point_added
returns c =
    let all : c.loop-c.c ≡ 8 = omega arith in
    rw (← all, ← c.place.ensures, ← c.cell-cell.ensures.0, ← c.unit-unit.ensures) c.loop-c.invariant.0
