-- `surface::level`: the sum is a fold over the usable points, of which there are few enough to be a float. Assumes nothing.
use Rattle.std.proofs.Common.{rules, ◌≡◌, ◌^◌, ◌≤◌, arith, le→leb, length}
use Rattle.std.specs.List.{fold}
use Rattle.std.specs.Float.Ieee.{in_float}
use Rattle.std.proofs.iter.runs.Made.{chains}
use Rattle.numbers.specs.Constants.{minus_zero64}
use Rattle.points.specs.Points.{given, usables, usable_to, usable_among, points_of}
use Rattle.points.specs.Laws.AllPoints.{fold_is}
use Rattle.points.specs.Laws.UsableLoop.{count_le}
use Rattle.surface.specs.Surface.{plus_sample, level_of}
use Rattle.surface.proofs.mean.level.Goals as goal

pub int_to_float-usable_count : goal.int_to_float-usable_count
unfolding in_float
int_to_float-usable_count c =
    let few : length (usables c.args.points.now) ≤ 1048576 = omega (arith, count_le c.args.points.now (given c.args.points.now), c.requires.points_bound) in
    le→leb c.usable_count.result (2 ^ 53) (omega (arith, c.usable_count.ensures))

pub returns : goal.returns
unfolding level_of usable_to usable_among points_of
returns c =
    let f = plus_sample c.args.g c.args.values.now in
    let sum : c.fold-sum.result ≡ fold f minus_zero64 (usables c.args.points.now) = search (rules, chains) in
    rw (c.narrow.ensures, c.widen.ensures, c.usable_count.ensures, sum, fold_is f minus_zero64 (usables c.args.points.now))
