-- `search::neighbours::insert`: what `inserted` has left to do stays the same (`Carried`). Assumes nothing.
use Rattle.search.proofs.Carry.{carried_past, carried_swapped}
use Rattle.search.proofs.neighbours.insert.Goals as goal
use Rattle.search.proofs.neighbours.insert.Goals.{then-v-a, else-v-a}

pub loop-k-preserved : goal.loop-k-preserved
loop-k-preserved c =
    let q = c.loop-k in
    let here = c.loop-k-test.true in
    elim c.if-v-a.branch [
      | then-v-a w ↦ rw (w.list-is, w.v-is) (carried_swapped q.invariant c.requires here w.if-v-a.true)
      | else-v-a w ↦ rw (w.list-is, w.v-is) (carried_past q.invariant c.requires here w.if-v-a.false)
    ]
