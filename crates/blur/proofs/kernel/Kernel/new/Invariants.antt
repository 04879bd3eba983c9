-- `blur::kernel::Kernel::new` meets its contract. The loop's invariant: the weights of the first t offsets, filled up with +0.0.
-- Assumes nothing.
use Rattle.std.proofs.Common.{◌≡◌, length}
use Rattle.lists.specs.Lists.{tabulate, padded, zero32}
use Rattle.blur.specs.Blur.{weight_of, reach_of, offset_count}
use Rattle.blur.proofs.kernel.Kernel.new.Given as goal

abbrev pub invariant-loop-t : goal.invariant-loop-t
invariant-loop-t l =
    (l.kernel.weights ≡ padded zero32 37 (tabulate l.t (λ k. weight_of l.sigma (reach_of l.radius k))))
    × (length l.kernel.weights ≡ 37)
    × (l.kernel.radius ≡ l.radius)
    × (l.t-end ≡ offset_count l.radius)
