-- After i turns `to` is what came with the first i values written; the one NaN is itself, whatever its pattern.
use Rattle.std.proofs.Common.{sym, ◌∙◌, arith}
use Rattle.std.specs.Float.Ieee.{nan}
use Rattle.lists.specs.Laws.Tabulate.{tabulate_self}
use Rattle.lists.specs.Laws.Fill.{filled_none, filled_more, filled_done}
use Rattle.field_call.proofs.copy_values.Goals as goal

pub loop-i-init : goal.loop-i-init
loop-i-init c = filled_none

pub loop-i-preserved : goal.loop-i-preserved
loop-i-preserved c = filled_more c.loop-i.invariant (omega arith) c.canonical.ensures

pub returns : goal.returns
returns c = filled_done c.loop-i.invariant (sym c.requires) (omega (arith, c.requires)) ∙ sym (tabulate_self nan c.args.from.now)
