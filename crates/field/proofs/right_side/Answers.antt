-- `field::right_side` meets its contract: the kernel is sigma's (`by_kernel`), and all scratch is cleared. Assumes nothing.
use Rattle.std.proofs.Common.{sym, ap, ◌∙◌, subst, ◌≤◌, Float}
use Rattle.lists.specs.Lists.{zeros32}
use Rattle.points.specs.Points.{usables}
use Rattle.blur.specs.Blur.{radius_of}
use Rattle.blur.specs.Laws.Radius.{radius_most}
use Rattle.field.proofs.RightSide.{by_kernel}
use Rattle.field.proofs.right_side.Goals as goal

pub new-kernel-requires : goal.new-kernel-requires
new-kernel-requires c = subst (λ (z : Float). radius_of z ≤ 18) (sym c.sigma.ensures) (radius_most c.args.smoothing c.args.spacing c.args.g.step)

pub returns : goal.returns
returns c = (
  by_kernel c.args.g (usables c.args.points.now) c.args.spacing c.args.smoothing c.sigma.ensures c.new-kernel.ensures c.weights.ensures c.right_side_by.ensures,
  c.clear.ensures ∙ ap zeros32 (c.right_side_by.auto.s ∙ c.requires.2),
  c.clear-2.ensures ∙ ap zeros32 (c.right_side_by.auto.x ∙ c.requires.3),
  c.clear-3.ensures ∙ ap zeros32 (c.right_side_by.auto.y ∙ c.requires.4),
  c.clear-4.ensures ∙ ap zeros32 (c.right_side_by.auto.z ∙ c.requires.5),
)
