-- `points::usable_count`: the length of the usable ones so far, one more at each. Assumes nothing.
use Rattle.std.proofs.Common.{[], ap, arith, length, length-append, ℕ, ◌∙◌, ◌∷◌, ◌≡◌}
use Rattle.points.specs.Points.{given, usable_to}
use Rattle.points.specs.Laws.UsableLoop.{usable_none, used, skipped, count_le}
use Rattle.points.proofs.point.usable_count.Goals as goal
use Rattle.points.proofs.point.usable_count.Goals.{then-usable, else-usable}

pub loop-i-init : goal.loop-i-init
loop-i-init c = (rw (usable_none c.args.points.now), c.given-i-end.ensures)

pub read-p-requires : goal.read-p-requires
read-p-requires c = rw (← c.loop-i.invariant.1) (omega arith)

pub overflow_add-n : goal.overflow_add-n
overflow_add-n c = omega (arith, c.loop-i.invariant.1, count_le c.args.points.now c.loop-i.i)

pub loop-i-preserved : goal.loop-i-preserved
loop-i-preserved c =
    let q = c.loop-i in
    let xs = c.args.points.now in
    let is = c.read-p.ensures in
    let test = c.usable.ensures in (
      elim c.if-usable.branch [
        | then-usable w ↦ rw (used xs q.i is test w.if-usable.true, w.n-is) (omega (arith, length-append (usable_to xs q.i) (c.read-p.result ∷ [])))
        | else-usable w ↦ rw (skipped xs q.i is test w.if-usable.false, w.n-is) q.invariant.0
      ],
      q.invariant.1,
    )

pub returns : goal.returns
returns c = let n : c.loop-i.i ≡ given c.args.points.now = omega (arith, c.loop-i.invariant.1) in c.loop-i.invariant.0 ∙ ap (λ (k : ℕ). length (usable_to c.args.points.now k)) n
