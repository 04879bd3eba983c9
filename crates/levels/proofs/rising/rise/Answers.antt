-- `levels::rise` meets its contract: the front of x holds the level d, as `risen` has it; a turn makes the next level of it (`rise_more`). Assumes nothing.
use Rattle.std.proofs.Common.{◌+◌, ◌≤◌, arith}
use Rattle.points.specs.Points.{usables}
use Rattle.levels.proofs.Fronts.{nodes_mono}
use Rattle.levels.proofs.OneAfterOther.{rise_more}
use Rattle.levels.proofs.SameSlices.{sized_by, then_same}
use Rattle.levels.proofs.rising.rise.Goals as goal

pub next_level-requires-clause-nodes_in_bounds : goal.next_level-requires-clause-nodes_in_bounds
next_level-requires-clause-nodes_in_bounds c =
    let here : c.loop-d.d ≤ c.args.depth = omega (arith, c.loop-d-test.true) in
    let more : c.loop-d.d + 1 ≤ c.args.depth = omega (arith, c.loop-d-test.true) in
    let size = c.loop-d.invariant.1.of_x in
    (omega (arith, size, nodes_mono here), omega (arith, size, nodes_mono more))

pub loop-d-preserved : goal.loop-d-preserved
loop-d-preserved c = (
  rise_more c.args.problem (usables c.args.points.now) c.args.first c.loop-d.d c.loop-d.slices.x.now c.next_level.new.slices.x.now c.loop-d.auto.d c.loop-d.invariant.0 c.next_level.ensures.front,
  sized_by c.next_level.ensures.sized c.loop-d.invariant.1.of_x,
  then_same c.args.slices.now c.loop-d.slices c.next_level.new.slices c.loop-d.invariant.2 c.next_level.ensures.same,
)
