-- `levels::rise` meets its contract: the front of x holds the level d, as `risen` has it; a turn makes the next level of it (`rise_more`). Assumes nothing.
use Rattle.std.proofs.Common.{◌≡◌, ◌-◌, take}
use Rattle.points.specs.Points.{usables}
use Rattle.levels.specs.Levels.{nodes_at, risen}
use Rattle.levels.specs.Slices.{SameSlices, AllSized}
use Rattle.levels.proofs.rising.rise.Given as goal

abbrev pub invariant-loop-d : goal.invariant-loop-d
invariant-loop-d l =
    (take (nodes_at l.d) l.slices.x.now ≡ risen l.problem (usables l.points) l.first (l.d - l.first)) × AllSized (nodes_at l.depth) l.slices × SameSlices l.initial.slices l.slices
