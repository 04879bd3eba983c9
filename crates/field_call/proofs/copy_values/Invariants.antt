-- After i turns `to` is what came with the first i values written; the one NaN is itself, whatever its pattern.
use Rattle.lists.specs.Lists.{at}
use Rattle.lists.specs.Laws.Fill.{Filled}
use Rattle.field_call.proofs.copy_values.Given as goal

abbrev pub invariant-loop-i : goal.invariant-loop-i
invariant-loop-i l = Filled (at l.from) l.initial.to l.to l.i
