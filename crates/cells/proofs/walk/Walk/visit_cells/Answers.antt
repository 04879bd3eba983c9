-- After k turns the first k cells are visited, and the near side of the next is at hand: with its far side it is the cell's case.
use Rattle.std.proofs.Common.{◌≡◌, refl, sym, subst, ap, ◌∙◌, List, ℕ, ◌+◌, ◌-◌, ◌*◌, ◌<◌, arith}
use Rattle.closed.specs.Faces.{Face}
use Rattle.cells.specs.Extraction.{count_y, count_z}
use Rattle.cells.specs.Words.{side_at, case_at, line_faces}
use Rattle.cells.specs.Surface.{cell_of}
use Rattle.cells.specs.Laws.Cells.{case_below, two_sides}
use Rattle.cells.specs.declared.Isosurface.{Isosurface}
use Rattle.cells.proofs.Walking.{cells_none, cells_more, cells_next}
use Rattle.cells.proofs.walk.Walk.visit_cells.Goals as goal

-- the near side of the cell at node n, and its far side, which is read at node m
module _ (s : Isosurface) (n : ℕ) {m near far : ℕ} (h : near ≡ side_at s.values.now (count_y s.lattice) (count_z s.lattice) s.iso n) (e : m ≡ n + 1)
    (f : far ≡ side_at s.values.now (count_y s.lattice) (count_z s.lattice) s.iso m) where
  its_case : near + 16 * far ≡ case_at s.values.now (count_y s.lattice) (count_z s.lattice) s.iso n
  its_case = two_sides s.values.now (count_y s.lattice) (count_z s.lattice) s.iso n _ _ h (f ∙ ap (side_at s.values.now (count_y s.lattice) (count_z s.lattice) s.iso) e)

  small : near + 16 * far < 256
  small = subst (λ c. c < 256) (sym its_case) (case_below s.values.now (count_y s.lattice) (count_z s.lattice) s.iso n)

abbrev cells_from : Isosurface → ℕ → ℕ → List Face
cells_from s n k = cell_of s (n + k)

pub loop-k-init : goal.loop-k-init
loop-k-init g c =
    let s = c.args.self.now.surface in
    let e : c.args.from.0 ≡ c.args.from.0 + 0 = omega arith in (
      cells_none g.V.Visit.Visited (cells_from s c.args.from.0) g.met.V.Visit.visited_none _,
      c.side_of-near.ensures ∙ ap (side_at s.values.now (count_y s.lattice) (count_z s.lattice) s.iso) e,
      refl,
    )

pub overflow_mul-far : goal.overflow_mul-far
overflow_mul-far g c =
    omega (arith, small c.args.self.now.surface (c.args.from.0 + c.loop-k.k) c.loop-k.invariant.1 (omega (arith, c.after.ensures)) c.side_of-far.ensures)

pub overflow_add-near : goal.overflow_add-near
overflow_add-near g c =
    omega (arith, small c.args.self.now.surface (c.args.from.0 + c.loop-k.k) c.loop-k.invariant.1 (omega (arith, c.after.ensures)) c.side_of-far.ensures)

pub visit_cell-requires : goal.visit_cell-requires
visit_cell-requires g c =
    let s = c.args.self.now.surface in
    rw c.after-in-loop-k.ensures (
      omega (arith, c.requires.0, c.loop-k-test.true),
      its_case s (c.args.from.0 + c.loop-k.k) c.loop-k.invariant.1 (omega (arith, c.after.ensures)) c.side_of-far.ensures,
      cells_next g.V.Visit.Visited (cells_from s c.args.from.0) g.V.Visit.Ready g.met.V.Visit.ready_next _ _ c.loop-k-test.true c.requires.1 c.loop-k.invariant.0,
    )

pub loop-k-preserved : goal.loop-k-preserved
loop-k-preserved g c =
    let s = c.args.self.now.surface in (
      cells_more g.V.Visit.Visited (cells_from s c.args.from.0) g.met.V.Visit.visited_append _ c.loop-k.invariant.0
          (subst (λ n. g.V.Visit.Visited c.loop-k.visitor c.visit_cell.new.visitor (cell_of s n)) c.after-in-loop-k.ensures c.visit_cell.ensures),
      c.side_of-far.ensures ∙ ap (side_at s.values.now (count_y s.lattice) (count_z s.lattice) s.iso) c.after.ensures,
      refl,
    )

pub returns : goal.returns
returns g c =
    let s = c.args.self.now.surface in
    let all : c.loop-k.k ≡ count_z s.lattice - 1 = omega (arith, c.loop-k-test.false, c.loop-k.auto.k-end) in
    subst (λ n. g.V.Visit.Visited c.args.visitor.now c.loop-k.visitor (line_faces s.values.now (count_y s.lattice) (count_z s.lattice) s.iso c.args.from.0 n)) all c.loop-k.invariant.0
