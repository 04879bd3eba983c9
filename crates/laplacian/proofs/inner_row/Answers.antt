-- `laplacian::inner_row` meets its contract: after k turns `y` is the row with its first k elements written, k being 1 or more. Assumes nothing.
use Rattle.std.proofs.Common.{refl, ◌∙◌, arith, length-set}
use Rattle.lists.specs.Lists.{zero32}
use Rattle.laplacian.proofs.InnerRow.{row_start, row_more, row_done}
use Rattle.laplacian.proofs.inner_row.Goals as goal

pub loop-k-init : goal.loop-k-init
loop-k-init c = (row_start c.args.plane _ c.args.x.now _ c.args.y.now (omega arith), length-set c.args.y.now 0 zero32, omega arith, omega arith, refl)

pub loop-k-preserved : goal.loop-k-preserved
loop-k-preserved c = (row_more c.args.plane _ c.args.x.now _ c.loop-k.invariant.0 c.loop-k.invariant.1 (omega arith) (omega arith) (c.stencil.ensures ∙ rw c.after.ensures), c.loop-k.invariant.1, omega arith, omega arith, refl)

pub returns : goal.returns
returns c = row_done c.args.plane _ c.args.x.now _ c.loop-k.invariant.0 c.loop-k.invariant.1 (omega arith) (omega arith)
