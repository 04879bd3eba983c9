-- A loop that writes place by place: the invariant is `Filled` of the crate `lists`.
use Rattle.std.proofs.Common.{length, ◌≡◌}
use Rattle.lists.specs.Laws.Fill.{Filled}
use Rattle.sheet.specs.Sheet.{float_at}
use Rattle.sheet.proofs.bytes.read_floats.Given as goal

abbrev pub invariant-loop-i : goal.invariant-loop-i
invariant-loop-i l = Filled (float_at l.sheet l.start) l.initial.out l.out l.i × (l.i-end ≡ length l.initial.out)
