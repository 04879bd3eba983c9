-- `search::neighbours::median`: the element of rank length/2 of the gaps, or 0. Assumes nothing.
use Rattle.std.proofs.Common.{arith}
use Rattle.search.proofs.Gaps.{median_some, median_none}
use Rattle.search.proofs.neighbours.median.Goals as goal

pub returns-then-m-gt0 : goal.returns-then-m-gt0
returns-then-m-gt0 c =
    let g = c.gaps-m in
    median_some _ g.new.list g.result g.ensures.0 g.ensures.2 c.if-m-gt0.true (omega (arith, g.auto.list, g.ensures.1, c.requires))

pub returns-else-m-gt0 : goal.returns-else-m-gt0
returns-else-m-gt0 c =
    let g = c.gaps-m in
    median_none _ g.new.list g.result g.ensures.0 g.ensures.2 c.if-m-gt0.false
