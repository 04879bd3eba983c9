-- `blur::kernel::Kernel::new` meets its contract. The loop's invariant: the weights of the first t offsets, filled up with +0.0.
-- Assumes nothing.
use Rattle.std.proofs.Common.{◌≡◌, refl, sym, ap, ◌∙◌, [], ◌∷◌, ◌++◌, ℕ, length-set, Float, arith}
use Rattle.std.proofs.Math.ListN.{length-replicate}
use Rattle.lists.specs.Lists.{tabulate, padded, zero32}
use Rattle.lists.specs.Laws.Tabulate.{length_tabulate, tabulate_snoc}
use Rattle.lists.specs.Laws.Padded.{padded_none, padded_more}
use Rattle.blur.specs.Blur.{weight_of, reach_of, offset_count, kernel_of}
use Rattle.blur.proofs.kernel.Kernel.new.Goals as goal

pub loop-t-init : goal.loop-t-init
unfolding tabulate
loop-t-init c = (padded_none zero32 37, length-replicate 37 zero32, refl, refl)

pub loop-t-preserved : goal.loop-t-preserved
loop-t-preserved c =
    let f : ℕ → Float = λ k. weight_of c.args.sigma (reach_of c.radius_of-radius.result k) in (
      padded_more zero32 37 (tabulate c.loop-t.t f) c.weight.result c.loop-t.invariant.0 (length_tabulate c.loop-t.t f) (omega arith)
          ∙ ap (padded zero32 37) (ap (λ (w : Float). tabulate c.loop-t.t f ++ (w ∷ [])) c.weight.ensures ∙ sym (tabulate_snoc c.loop-t.t f)),
      length-set c.loop-t.kernel.weights _ _ ∙ c.loop-t.invariant.1,
      c.loop-t.invariant.2,
      refl,
    )

pub returns : goal.returns
unfolding kernel_of
returns c =
    let all : c.loop-t.t ≡ offset_count c.radius_of-radius.result = omega arith in
    record {
      reach = c.loop-t.invariant.2 ∙ c.radius_of-radius.ensures;
      most = omega (arith, c.loop-t.invariant.2);
      room = c.loop-t.invariant.1;
      all =
          c.loop-t.invariant.0
          ∙ ap (λ (m : ℕ). padded zero32 37 (tabulate m (λ k. weight_of c.args.sigma (reach_of c.radius_of-radius.result k)))) all
          ∙ ap (λ (m : ℕ). padded zero32 37 (tabulate (offset_count m) (λ k. weight_of c.args.sigma (reach_of m k)))) c.radius_of-radius.ensures;
    }
