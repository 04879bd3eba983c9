-- After k turns the first k faces of the row are visited. The next one is named by the edges of the cell, so it may be visited where all of the row may.
use Rattle.std.proofs.Common.{subst, arith}
use Rattle.cells.specs.Laws.Rows.{all_faces}
use Rattle.cells.proofs.Walking.{row_edges, row_more, row_next}
use Rattle.cells.proofs.walk.Walk.visit_row.Goals as goal

pub loop-k-init : goal.loop-k-init
loop-k-init g c = (g.met.V.Visit.visited_none _, c.row_faces-k-end.ensures)

pub cell_edge-requires : goal.cell_edge-requires
cell_edge-requires g c =
    row_edges c.args.self.now.offsets.now c.args.first.0 c.args.case c.loop-k.k c.row_face.result c.requires.0 c.requires.1 c.loop-k-test.true c.row_faces-k-end.ensures c.row_face.ensures 0 (omega arith)

pub cell_edge-requires-in-loop-k : goal.cell_edge-requires-in-loop-k
cell_edge-requires-in-loop-k g c =
    row_edges c.args.self.now.offsets.now c.args.first.0 c.args.case c.loop-k.k c.row_face.result c.requires.0 c.requires.1 c.loop-k-test.true c.row_faces-k-end.ensures c.row_face.ensures 1 (omega arith)

pub cell_edge-requires-in-loop-k-2 : goal.cell_edge-requires-in-loop-k-2
cell_edge-requires-in-loop-k-2 g c =
    row_edges c.args.self.now.offsets.now c.args.first.0 c.args.case c.loop-k.k c.row_face.result c.requires.0 c.requires.1 c.loop-k-test.true c.row_faces-k-end.ensures c.row_face.ensures 2 (omega arith)

pub visit-requires : goal.visit-requires
visit-requires g c =
    row_next g.V.Visit.Visited c.args.self.now.offsets.now c.args.first.0 c.args.case c.loop-k.k c.row_face.result c.loop-k-test.true c.row_faces-k-end.ensures c.row_face.ensures
    c.cell_edge.ensures c.cell_edge-in-loop-k.ensures c.cell_edge-in-loop-k-2.ensures g.V.Visit.Ready g.met.V.Visit.ready_next c.requires.2 c.loop-k.invariant.0

pub loop-k-preserved : goal.loop-k-preserved
loop-k-preserved g c = (
  row_more g.V.Visit.Visited c.args.self.now.offsets.now c.args.first.0 c.args.case c.loop-k.k c.row_face.result c.loop-k-test.true c.row_faces-k-end.ensures c.row_face.ensures
      c.cell_edge.ensures c.cell_edge-in-loop-k.ensures c.cell_edge-in-loop-k-2.ensures g.met.V.Visit.visited_append c.loop-k.invariant.0 c.visit.ensures,
  c.loop-k.invariant.1,
)

pub returns : goal.returns
returns g c =
    subst (g.V.Visit.Visited c.args.visitor.now c.loop-k.visitor)
    (all_faces c.args.self.now.offsets.now c.args.first.0 c.args.case c.loop-k.k (omega (arith, c.loop-k-test.false, c.row_faces-k-end.ensures)))
    c.loop-k.invariant.0
