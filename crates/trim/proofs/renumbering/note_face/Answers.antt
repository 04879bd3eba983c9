-- `trim::renumbering::note_face`: the three corners are noted in order. Assumes nothing.
use Rattle.closed.specs.Numbering.{grow}
use Rattle.trim.proofs.renumbering.note_face.Goals as goal

pub returns-clause-by_index : goal.returns-clause-by_index
unfolding grow
returns-clause-by_index c =
    λ s h.
    rw (← c.of.ensures, ← c.of-2.ensures, ← c.of-3.ensures)
    (c.note_vertex.ensures.by_index _ (c.note_vertex-second.ensures.by_index _ (c.note_vertex-first.ensures.by_index s h)))
