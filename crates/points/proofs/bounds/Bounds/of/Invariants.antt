-- `points::Bounds::of`: a fold over the usable points, from infinities. Assumes nothing.
use Rattle.std.proofs.Common.{◌≡◌}
use Rattle.points.specs.Points.{given}
use Rattle.points.specs.Box.{reached, no_bounds}
use Rattle.points.specs.Laws.UsableLoop.{FoldedUsable}
use Rattle.points.proofs.bounds.Bounds.of.Given as goal

abbrev pub invariant-loop-i : goal.invariant-loop-i
invariant-loop-i l = FoldedUsable reached no_bounds l.points l.b l.i × (l.i-end ≡ given l.points)
