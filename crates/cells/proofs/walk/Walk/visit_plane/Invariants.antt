-- After j turns the first j lines of the plane are visited.
use Rattle.std.proofs.Common.{◌≡◌, ◌-◌}
use Rattle.cells.specs.Extraction.{count_y, count_z}
use Rattle.cells.specs.Words.{plane_faces}
use Rattle.cells.proofs.walk.Walk.visit_plane.Given as goal

abbrev pub invariant-loop-j : goal.invariant-loop-j
invariant-loop-j g l =
    let s = l.self.surface in
    g.V.Visit.Visited l.initial.visitor l.visitor (plane_faces s.values.now (count_y s.lattice) (count_z s.lattice) s.iso l.i l.j)
    × (l.j-end ≡ count_y s.lattice - 1)
