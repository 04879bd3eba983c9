-- `field::splat::splat` meets its contract: the fold over the points that are left, from what stands in `v`, is the fold over all of them.
-- Assumes nothing.
use Rattle.std.proofs.Common.{◌≡◌, cond}
use Rattle.std.specs.List.{fold}
use Rattle.points.specs.Points.{points_left, usable_of, usables}
use Rattle.field.specs.Field.{point_added, splatted}
use Rattle.field.proofs.splat.splat.Given as goal

abbrev pub invariant-loop-p : goal.invariant-loop-p
invariant-loop-p l = fold (λ v p. cond (usable_of p) (point_added l.g l.a v p) v) l.v (points_left l.p-iterator) ≡ splatted l.g (usables l.points) l.a
