-- After k turns the first k faces of the row are visited.
use Rattle.std.proofs.Common.{◌≡◌, length}
use Rattle.closed.specs.Rows.{emitted}
use Rattle.cells.specs.Laws.Rows.{first_faces}
use Rattle.cells.proofs.walk.Walk.visit_row.Given as goal

abbrev pub invariant-loop-k : goal.invariant-loop-k
invariant-loop-k g l = g.V.Visit.Visited l.initial.visitor l.visitor (first_faces l.self.offsets.now l.first.0 l.case l.k) × (l.k-end ≡ length (emitted l.case))
