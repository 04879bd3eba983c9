-- `blur::blur::blur_across` meets its contract. The loop's invariant: `out` holds the sums of the first t offsets' terms.
-- Assumes nothing.
use Rattle.std.proofs.Common.{◌≡◌, length}
use Rattle.lists.specs.Lists.{tabulate}
use Rattle.blur.specs.Blur.{blur_to}
use Rattle.blur.specs.Words.{across}
use Rattle.blur.proofs.blur.blur_across.Given as goal

abbrev pub invariant-loop-t : goal.invariant-loop-t
invariant-loop-t l = (l.out ≡ tabulate (length l.initial.out) (λ k. blur_to l.v (across l.first.0 l.stride k) l.n l.place l.radius l.kernel l.t)) × (l.t-end ≡ length l.kernel)
