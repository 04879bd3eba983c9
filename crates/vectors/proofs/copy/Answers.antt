-- `vectors::copy` meets its contract: after i turns `p` is what came with the first i elements of `r` written. Assumes nothing.
use Rattle.std.proofs.Common.{refl, sym, ◌∙◌, arith}
use Rattle.std.specs.Float.Ieee.{nan}
use Rattle.lists.specs.Laws.Tabulate.{tabulate_self}
use Rattle.lists.specs.Laws.Fill.{filled_none, filled_more, filled_done}
use Rattle.vectors.proofs.copy.Goals as goal

pub loop-i-init : goal.loop-i-init
loop-i-init c = (filled_none, refl)

pub loop-i-preserved : goal.loop-i-preserved
loop-i-preserved c = (filled_more c.loop-i.invariant.0 (omega arith) refl, refl)

pub returns : goal.returns
returns c = filled_done c.loop-i.invariant.0 (sym c.requires) (omega arith) ∙ sym (tabulate_self nan c.args.r.now)
