-- After k turns the first k nodes of the row are counted, so the count is k at most (`bits_most`), and there are few nodes.
use Rattle.std.proofs.Common.{refl, sym, ◌+◌, arith}
use Rattle.closed.specs.Lists.{bit}
use Rattle.closed.proofs.Laws.Sums.{sum_zero, sum_one_more}
use Rattle.lists.specs.Lists.{at}
use Rattle.cells.specs.Extraction.{is_below}
use Rattle.cells.specs.Laws.Plain.{row_most}
use Rattle.cells.proofs.Isosurface.count_below.Goals as goal

pub loop-k-init : goal.loop-k-init
loop-k-init c = (sym (sum_zero _), refl)

pub overflow_add-count : goal.overflow_add-count
overflow_add-count c =
    let a = c.args in
    omega (arith, c.loop-k.invariant, row_most a.self.now.values.now c.loop-k.k a.self.now.iso a.first.0, c.bit_of.ensures.1, c.requires, c.loop-k-test.true)

pub loop-k-preserved : goal.loop-k-preserved
loop-k-preserved c =
    let a = c.args in
    (omega (arith, c.bit_of.ensures.0, c.loop-k.invariant.0, sum_one_more c.loop-k.k (λ k. bit (is_below (at a.self.now.values.now (a.first.0 + k)) a.self.now.iso))), c.loop-k.invariant.1)
