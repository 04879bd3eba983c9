-- `blur::blur_all` meets its contract: pass by pass, the definition's own.
-- Assumes nothing.
use Rattle.std.proofs.Common.{ap, ◌∙◌, List, ℕ, Float}
use Rattle.blur.specs.Blur.{blurred_along, blurred}
use Rattle.blur.specs.Words.{radius_in}
use Rattle.blur.proofs.blur_all.Goals as goal

pub returns-clause-out_after : goal.returns-clause-out_after
unfolding blurred
returns-clause-out_after c =
    let pass : (axis : ℕ) → List Float → List Float = λ axis. blurred_along axis c.args.g.nodes (radius_in c.args.kernel.now) c.args.kernel.now in
    let left = c.blur_axis-2.ensures ∙ ap (pass 1) c.blur_axis.ensures in
    c.blur_axis-3.ensures ∙ ap (pass 2) left
