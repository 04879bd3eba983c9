-- `field::splat::splat` meets its contract: the fold over the points that are left, from what stands in `v`, is the fold over all of them.
-- Assumes nothing.
use Rattle.std.proofs.Common.{ap, ◌∙◌}
use Rattle.lists.specs.Lists.{zeros32}
use Rattle.points.specs.Points.{points_left}
use Rattle.points.specs.Laws.AllPoints.{fold_usable, usables_are}
use Rattle.field.specs.Field.{point_added, splatted}
use Rattle.field.proofs.splat.splat.Goals as goal

pub loop-p-init : goal.loop-p-init
unfolding splatted
loop-p-init c =
    let zeros = c.clear.ensures ∙ ap zeros32 c.requires.1 in
    let left = ap points_left c.into_iter-p-iterator.ensures.into_iter_gives ∙ c.all-p-items.ensures.left in
    rw (zeros, left, ← usables_are c.args.points.now) (fold_usable (point_added c.args.g c.args.a) _ _)

pub loop-p-preserved : goal.loop-p-preserved
loop-p-preserved c = rw c.add_usable.ensures (rw c.in-Some.ensures.steps at c.loop-p.invariant)

pub returns : goal.returns
returns c = rw c.in-None.ensures.steps.0 at c.loop-p.invariant
