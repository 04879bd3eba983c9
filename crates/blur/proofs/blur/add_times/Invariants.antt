-- `blur::blur::add_times` meets its contract. The loop's invariant: `x` is what came with its first k elements written.
-- Assumes nothing.
use Rattle.std.proofs.Common.{◌≡◌, length}
use Rattle.lists.specs.Laws.Fill.{Filled}
use Rattle.blur.specs.Words.{plus_times}
use Rattle.blur.proofs.blur.add_times.Given as goal

abbrev pub invariant-loop-k : goal.invariant-loop-k
invariant-loop-k l = Filled (plus_times l.w l.initial.x l.p) l.initial.x l.x l.k × (l.k-end ≡ length l.initial.x)
