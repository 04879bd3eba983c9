-- `field::component` meets its contract: spread, then blurred, as the definition says.
-- Assumes nothing.
use Rattle.std.proofs.Common.{ap, ◌∙◌}
use Rattle.blur.specs.Blur.{blurred}
use Rattle.blur.specs.Words.{radius_in}
use Rattle.field.specs.Field.{component_of}
use Rattle.field.proofs.component.Goals as goal

pub returns : goal.returns
unfolding component_of
returns c = c.blur_all.ensures.out_after ∙ ap (blurred c.args.g.nodes (radius_in c.args.kernel.now) c.args.kernel.now) c.splat.ensures
