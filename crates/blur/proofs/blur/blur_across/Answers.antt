-- `blur::blur::blur_across` meets its contract. The loop's invariant: `out` holds the sums of the first t offsets' terms.
-- Assumes nothing.
use Rattle.std.proofs.Common.{refl, Option, ℕ, sym, ap, ◌∙◌, subst, length, arith}
use Rattle.lists.specs.Lists.{zeros32}
use Rattle.blur.specs.Words.{across, Reach}
use Rattle.blur.proofs.Moved.{moved_reach}
use Rattle.blur.proofs.Terms.{blur_none, blur_more}
use Rattle.blur.proofs.blur.blur_across.Goals as goal

pub loop-t-init : goal.loop-t-init
loop-t-init c =
    (c.clear.ensures ∙ ap zeros32 (sym c.clear.auto.values) ∙ blur_none c.args.v.now c.args.kernel.now c.args.n _ (length c.clear.new.values) (across c.args.first.0 c.args.stride) (λ _. c.args.place), refl)

pub add_row-requires : goal.add_row-requires
add_row-requires c =
    subst (λ (l : Option ℕ). Reach c.args.first.0 c.args.stride (length c.loop-t.out) (length c.args.v.now) l) (sym c.moved.ensures)
    (moved_reach c.args.n _ c.args.place c.loop-t.t c.args.first.0 c.args.stride (length c.loop-t.out) (length c.args.v.now) (λ p h. omega (arith, c.requires.3 p h)))

pub loop-t-preserved : goal.loop-t-preserved
loop-t-preserved c = (blur_more c.args.v.now c.args.kernel.now c.args.n _ (length c.clear.new.values) (across c.args.first.0 c.args.stride) (λ _. c.args.place) c.loop-t.t (λ _. _) c.loop-t.invariant.0 (λ k h. c.moved.ensures) c.add_row.ensures, refl)
