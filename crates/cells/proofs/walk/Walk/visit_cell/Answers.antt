-- Cases 0 and 255 have no face, so nothing changes; every other case is its row's.
use Rattle.std.proofs.Common.{refl, sym, subst, ◌∙◌, ◌<◌, ◌≤◌, length, arith}
use Rattle.closed.specs.Grid.{edge}
use Rattle.cells.specs.Extraction.{count_y, count_z}
use Rattle.cells.specs.Words.{edge_offsets}
use Rattle.cells.specs.Laws.Cells.{case_below}
use Rattle.cells.specs.Laws.Rows.{none_below, all_below, edges_in, cell_faces}
use Rattle.cells.proofs.Walking.{none_as}
use Rattle.cells.proofs.walk.Walk.visit_cell.Goals.{then-case-eq0-via-then-case-eq0, then-case-eq0-via-else-case-eq0+then-case-eq255}
use Rattle.cells.proofs.walk.Walk.visit_cell.Goals as goal

pub returns-then-case-eq0 : goal.returns-then-case-eq0
returns-then-case-eq0 g c =
    let s = c.args.self.now.surface in
    let row = cell_faces s.values.now (count_y s.lattice) (count_z s.lattice) s.iso c.args.at.0 (edge c.args.at.0 0) c.args.case (edge_offsets (count_y s.lattice) (count_z s.lattice)) refl refl c.requires.1 in
    none_as g.V.Visit.Visited g.met.V.Visit.visited_none (sym row
    ∙ elim c.then-case-eq0.branch [
      | then-case-eq0-via-then-case-eq0 w ↦ none_below _ _ c.args.case w.if-case-eq0.true
      | then-case-eq0-via-else-case-eq0+then-case-eq255 w ↦ all_below _ _ c.args.case w.if-case-eq255.true
    ]) _

pub visit_row-requires : goal.visit_row-requires
visit_row-requires g c =
    let a = c.args in
    let s = a.self.now.surface in
    let few : length s.values.now ≤ 16777216 = omega (arith, a.self.now.sampled.nodes, a.self.now.sampled.counts.most) in
    let row = cell_faces s.values.now (count_y s.lattice) (count_z s.lattice) s.iso a.at.0 c.of.result.0 a.case a.self.now.offsets.now a.self.now.its_offsets c.of.ensures c.requires.1 in (
      edges_in (count_y s.lattice) (count_z s.lattice) a.at.0 (length s.values.now) _ c.of.result.0 a.self.now.offsets.now a.self.now.its_offsets c.of.ensures c.requires.0 refl few,
      subst (λ n. n < 256) (sym c.requires.1) (case_below s.values.now (count_y s.lattice) (count_z s.lattice) s.iso a.at.0),
      subst (g.V.Visit.Ready a.visitor.now) (sym row) c.requires.2,
    )

pub returns : goal.returns
returns g c =
    let a = c.args in
    let s = a.self.now.surface in
    subst (g.V.Visit.Visited a.visitor.now c.visit_row.new.visitor)
    (cell_faces s.values.now (count_y s.lattice) (count_z s.lattice) s.iso a.at.0 c.of.result.0 a.case a.self.now.offsets.now a.self.now.its_offsets c.of.ensures c.requires.1)
    c.visit_row.ensures
