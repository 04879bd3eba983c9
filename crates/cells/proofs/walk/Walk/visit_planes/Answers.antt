-- After i turns the first i planes are visited, so where all may be so may the next.
use Rattle.std.proofs.Common.{◌≡◌, refl, subst, ◌-◌, arith}
use Rattle.cells.specs.Extraction.{count_x, count_y, count_z}
use Rattle.cells.specs.Words.{block_faces}
use Rattle.cells.specs.Surface.{plane_of}
use Rattle.cells.proofs.Walking.{cells_none, cells_more, cells_next}
use Rattle.cells.proofs.walk.Walk.visit_planes.Goals as goal

pub loop-i-init : goal.loop-i-init
loop-i-init g c = (cells_none g.V.Visit.Visited (plane_of c.args.self.now.surface) g.met.V.Visit.visited_none _, refl)

pub visit_plane-requires : goal.visit_plane-requires
visit_plane-requires g c = (
  omega (arith, c.loop-i-test.true),
  cells_next g.V.Visit.Visited (plane_of c.args.self.now.surface) g.V.Visit.Ready g.met.V.Visit.ready_next _ _ c.loop-i-test.true c.requires c.loop-i.invariant.0,
)

pub loop-i-preserved : goal.loop-i-preserved
loop-i-preserved g c = (
  cells_more g.V.Visit.Visited (plane_of c.args.self.now.surface) g.met.V.Visit.visited_append _ c.loop-i.invariant.0 c.visit_plane.ensures,
  refl,
)

pub returns : goal.returns
returns g c =
    let s = c.args.self.now.surface in
    let all : c.loop-i.i ≡ count_x s.lattice - 1 = omega (arith, c.loop-i-test.false, c.loop-i.auto.i-end) in
    subst (λ n. g.V.Visit.Visited c.args.visitor.now c.loop-i.visitor (block_faces s.values.now (count_y s.lattice) (count_z s.lattice) s.iso n)) all c.loop-i.invariant.0
