-- The faces of all planes are those of the definition (`block_faces_lem`).
use Rattle.std.proofs.Common.{subst, sym}
use Rattle.cells.specs.Laws.Cells.{block_faces_lem}
use Rattle.cells.proofs.Isosurface.visit_faces.Goals as goal

pub visit_planes-requires : goal.visit_planes-requires
visit_planes-requires g c =
    let s = c.args.self.now in
    let all = block_faces_lem s.values.now s.lattice s.iso c.requires.0.counts in
    subst (g.V.Visit.Ready c.args.visitor.now) (sym all) c.requires.1

pub returns : goal.returns
returns g c =
    let s = c.args.self.now in
    let all = block_faces_lem s.values.now s.lattice s.iso c.requires.0.counts in
    subst (g.V.Visit.Visited c.args.visitor.now c.visit_planes.new.visitor) all c.visit_planes.ensures
