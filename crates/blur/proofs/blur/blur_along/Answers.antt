-- `blur::blur::blur_along` meets its contract. The loop's invariant: `out` holds the sums of the first t offsets' terms.
-- Assumes nothing.
use Rattle.std.proofs.Common.{refl, sym, ap, ◌∙◌, ℕ, length}
use Rattle.lists.specs.Lists.{zeros32}
use Rattle.blur.specs.Blur.{moved_to}
use Rattle.blur.specs.Words.{radius_in}
use Rattle.blur.proofs.Terms.{blur_none, blur_more}
use Rattle.blur.proofs.blur.blur_along.Goals as goal

pub loop-t-init : goal.loop-t-init
loop-t-init c =
    (c.clear.ensures ∙ ap zeros32 (sym c.clear.auto.values) ∙ blur_none c.args.v.now c.args.kernel.now (length c.clear.new.values) _ (length c.clear.new.values) (λ _ p. p) (λ k. k), refl)

pub loop-t-preserved : goal.loop-t-preserved
loop-t-preserved c = (blur_more c.args.v.now c.args.kernel.now (length c.clear.new.values) _ (length c.clear.new.values) (λ _ p. p) (λ k. k) c.loop-t.t (λ k. moved_to (length c.loop-t.out) (radius_in c.args.kernel.now) k c.loop-t.t) c.loop-t.invariant.0 (λ k h. ap (λ (m : ℕ). moved_to m (radius_in c.args.kernel.now) k c.loop-t.t) h) c.add_along.ensures, refl)
