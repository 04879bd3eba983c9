-- `search::neighbours::gaps`: the gaps so far stand in order at the front (`Gathered`). Assumes nothing.
use Rattle.std.proofs.Common.{arith, ap, ◌∙◌}
use Rattle.points.specs.Points.{points_left}
use Rattle.search.proofs.Gaps.{gathered_none, gathered_used, gathered_skipped, gathered_all, seen_few}
use Rattle.search.proofs.neighbours.gaps.Goals as goal

pub loop-p-init : goal.loop-p-init
loop-p-init c = gathered_none (ap points_left c.into_iter-p-iterator.ensures.into_iter_gives ∙ c.all-p-items.ensures.left)

pub pick-m-requires : goal.pick-m-requires
pick-m-requires c = let w = c.loop-p.invariant in (c.requires.0, omega (arith, c.requires.1, w.few, w.same, seen_few w c.in-Some.ensures.steps))

pub overflow_add-seen : goal.overflow_add-seen
overflow_add-seen c = omega (arith, seen_few c.loop-p.invariant c.in-Some.ensures.steps)

pub loop-p-preserved-then-usable : goal.loop-p-preserved-then-usable
loop-p-preserved-then-usable c =
    let pick = c.pick-m in
    gathered_used c.loop-p.invariant c.in-Some.ensures.steps c.usable.ensures c.if-usable.true pick.ensures.0 pick.ensures.1 pick.auto.list

pub loop-p-preserved : goal.loop-p-preserved
loop-p-preserved c = gathered_skipped c.loop-p.invariant c.in-Some.ensures.steps c.usable.ensures c.if-usable.false

pub returns : goal.returns
returns c = gathered_all c.loop-p.invariant c.in-None.ensures.steps.0
