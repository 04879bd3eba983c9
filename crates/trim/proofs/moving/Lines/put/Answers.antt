-- `trim::moving::Lines::put`: the place lies in the first slice, in the second or in the third. Assumes nothing.
use Rattle.trim.proofs.Lines.{put_first, put_second, put_third}
use Rattle.trim.proofs.moving.Lines.put.Goals as goal

pub returns-then-w-n-clause-stored : goal.returns-then-w-n-clause-stored
returns-then-w-n-clause-stored c = put_first _ _ _ c.requires.even _ _ c.if-w-n.true

pub returns-then-w-n-2-clause-stored : goal.returns-then-w-n-2-clause-stored
returns-then-w-n-2-clause-stored c = put_second _ _ _ c.requires.even _ _ c.if-w-n.false c.if-w-n-2.true

pub returns-else-w-n-2-clause-stored : goal.returns-else-w-n-2-clause-stored
returns-else-w-n-2-clause-stored c = put_third _ _ _ c.requires.even _ _ c.if-w-n.false c.if-w-n-2.false
