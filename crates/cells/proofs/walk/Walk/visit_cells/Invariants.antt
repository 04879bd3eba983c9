-- After k turns the first k cells are visited, and the near side of the next is at hand.
use Rattle.std.proofs.Common.{◌≡◌, ◌+◌, ◌-◌}
use Rattle.cells.specs.Extraction.{count_y, count_z}
use Rattle.cells.specs.Words.{side_at, line_faces}
use Rattle.cells.proofs.walk.Walk.visit_cells.Given as goal

abbrev pub invariant-loop-k : goal.invariant-loop-k
invariant-loop-k g l =
    let s = l.self.surface in
    g.V.Visit.Visited l.initial.visitor l.visitor (line_faces s.values.now (count_y s.lattice) (count_z s.lattice) s.iso l.from.0 l.k)
    × (l.near ≡ side_at s.values.now (count_y s.lattice) (count_z s.lattice) s.iso (l.from.0 + l.k))
    × (l.k-end ≡ count_z s.lattice - 1)
