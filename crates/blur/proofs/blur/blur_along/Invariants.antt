-- `blur::blur::blur_along` meets its contract. The loop's invariant: `out` holds the sums of the first t offsets' terms.
-- Assumes nothing.
use Rattle.std.proofs.Common.{◌≡◌, length}
use Rattle.lists.specs.Lists.{tabulate}
use Rattle.blur.specs.Blur.{blur_to}
use Rattle.blur.proofs.blur.blur_along.Given as goal

abbrev pub invariant-loop-t : goal.invariant-loop-t
invariant-loop-t l = (l.out ≡ tabulate (length l.initial.out) (λ k. blur_to l.v (λ p. p) (length l.initial.out) k l.radius l.kernel l.t)) × (l.t-end ≡ length l.kernel)
