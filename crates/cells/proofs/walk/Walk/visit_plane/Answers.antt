-- After j turns the first j lines are visited, so where all may be so may the next, which lies inside (`line_inside` of the crate `grid`).
use Rattle.std.proofs.Common.{◌≡◌, refl, sym, subst, List, ℕ, ◌-◌, arith}
use Rattle.closed.specs.Faces.{Face}
use Rattle.grid.specs.Grid.{line_start}
use Rattle.grid.specs.Laws.Rows.{line_inside}
use Rattle.cells.specs.Extraction.{count_y, count_z}
use Rattle.cells.specs.Words.{plane_faces}
use Rattle.cells.specs.Surface.{line_of}
use Rattle.cells.specs.declared.Isosurface.{Isosurface}
use Rattle.cells.proofs.Walking.{cells_none, cells_more, cells_next}
use Rattle.cells.proofs.walk.Walk.visit_plane.Goals as goal

abbrev lines : Isosurface → ℕ → ℕ → List Face
lines s i j = line_of s (line_start (count_y s.lattice) (count_z s.lattice) i j)

pub loop-j-init : goal.loop-j-init
loop-j-init g c = (cells_none g.V.Visit.Visited (lines c.args.self.now.surface c.args.i) g.met.V.Visit.visited_none _, refl)

pub visit_line-requires : goal.visit_line-requires
visit_line-requires g c =
    let s = c.args.self.now.surface in (
      omega (arith, c.line_start.ensures, line_inside {ny = count_y s.lattice} (count_z s.lattice) c.args.i c.loop-j.j c.requires.0 (omega (arith, c.loop-j-test.true)), c.args.self.now.sampled.nodes),
      subst (λ n. g.V.Visit.Ready c.loop-j.visitor (line_of s n)) (sym c.line_start.ensures)
          (cells_next g.V.Visit.Visited (lines s c.args.i) g.V.Visit.Ready g.met.V.Visit.ready_next _ _ c.loop-j-test.true c.requires.1 c.loop-j.invariant.0),
    )

pub loop-j-preserved : goal.loop-j-preserved
loop-j-preserved g c =
    let s = c.args.self.now.surface in (
      cells_more g.V.Visit.Visited (lines s c.args.i) g.met.V.Visit.visited_append _ c.loop-j.invariant.0
          (subst (λ n. g.V.Visit.Visited c.loop-j.visitor c.visit_line.new.visitor (line_of s n)) c.line_start.ensures c.visit_line.ensures),
      refl,
    )

pub returns : goal.returns
returns g c =
    let s = c.args.self.now.surface in
    let all : c.loop-j.j ≡ count_y s.lattice - 1 = omega (arith, c.loop-j-test.false, c.loop-j.auto.j-end) in
    subst (λ n. g.V.Visit.Visited c.args.visitor.now c.loop-j.visitor (plane_faces s.values.now (count_y s.lattice) (count_z s.lattice) s.iso c.args.i n)) all c.loop-j.invariant.0
