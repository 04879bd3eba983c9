-- `points::Bounds::of`: a fold over the usable points, from infinities. Assumes nothing.
use Rattle.std.proofs.Common.{arith, ◌∙◌}
use Rattle.std.specs.Float.Ieee.{div, neg, of_bits}
use Rattle.points.specs.Box.{no_bounds, bounds_of}
use Rattle.points.specs.Laws.UsableLoop.{folded_none, folded_used, folded_skipped, folded_done}
use Rattle.points.proofs.bounds.Bounds.of.Goals as goal
use Rattle.points.proofs.bounds.Bounds.of.Goals.{then-usable, else-usable}

pub loop-i-init : goal.loop-i-init
unfolding no_bounds of_bits div neg
loop-i-init c = (folded_none, c.given-i-end.ensures)

pub read-p-requires : goal.read-p-requires
read-p-requires c = rw (← c.loop-i.invariant.1) (omega arith)

pub loop-i-preserved : goal.loop-i-preserved
loop-i-preserved c =
    let q = c.loop-i in
    let here = rw q.invariant.1 at c.loop-i-test.true in
    let is = c.read-p.ensures in
    let test = c.usable.ensures in (
      elim c.if-usable.branch [
        | then-usable w ↦ folded_used q.invariant.0 here is test w.if-usable.true (w.b-is ∙ w.reach-b.ensures)
        | else-usable w ↦ folded_skipped q.invariant.0 here is test w.if-usable.false w.b-is
      ],
      q.invariant.1,
    )

pub returns : goal.returns
unfolding bounds_of
returns c = folded_done c.loop-i.invariant.0 (rw c.loop-i.invariant.1 at c.loop-i-test.false)
