-- After i turns the first i planes are visited.
use Rattle.std.proofs.Common.{◌≡◌, ◌-◌}
use Rattle.cells.specs.Extraction.{count_x, count_y, count_z}
use Rattle.cells.specs.Words.{block_faces}
use Rattle.cells.proofs.walk.Walk.visit_planes.Given as goal

abbrev pub invariant-loop-i : goal.invariant-loop-i
invariant-loop-i g l =
    let s = l.self.surface in
    g.V.Visit.Visited l.initial.visitor l.visitor (block_faces s.values.now (count_y s.lattice) (count_z s.lattice) s.iso l.i)
    × (l.i-end ≡ count_x s.lattice - 1)
