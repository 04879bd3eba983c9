-- A loop that writes place by place: the invariant is `Filled` of the crate `lists`.
use Rattle.std.proofs.Common.{arith}
use Rattle.lists.specs.Laws.Fill.{filled_more}
use Rattle.sheet.proofs.bytes.read_floats.Goals as goal

pub loop-i-preserved : goal.loop-i-preserved
loop-i-preserved c = let inv = c.loop-i.invariant in (filled_more inv.0 (omega arith) c.read_f32.ensures, inv.1)
