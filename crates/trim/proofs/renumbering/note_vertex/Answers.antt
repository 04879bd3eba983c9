-- `trim::renumbering::note_vertex`: the vertex is new or noted already. Assumes nothing.
use Rattle.trim.proofs.FirstUse.{slots_new, slots_old}
use Rattle.trim.proofs.renumbering.note_vertex.Goals as goal

pub returns-then-table-at-eq0-clause-by_index : goal.returns-then-table-at-eq0-clause-by_index
returns-then-table-at-eq0-clause-by_index c =
    rw c.number-at.ensures (λ s h. slots_new s _ _ _ c.requires.v_in_bounds (rw c.number-at.ensures at c.if-table-at-eq0.true) h)

pub returns-clause-by_index : goal.returns-clause-by_index
returns-clause-by_index c = λ s h. slots_old s _ _ _ c.requires.v_in_bounds (rw c.number-at.ensures at c.if-table-at-eq0.false) h
