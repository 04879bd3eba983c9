-- The lower node is the edge's and the upper one a stride further, so what is made of the numbers on the way is the vertex (`point_is`).
use Rattle.cells.proofs.Points.{point_is}
use Rattle.cells.proofs.Isosurface.point.Goals as goal

pub returns : goal.returns
returns c =
    point_is c.args.self.now.values.now c.args.self.now.lattice c.args.self.now.iso c.args.edge.0
    c.axis-axis.ensures c.node-node.ensures c.coords-at.ensures c.place-n.ensures c.stride_of.ensures c.crossing_at-t.ensures
    c.count_along-x.ensures c.count_along-y.ensures c.count_along-z.ensures
    c.coordinate.ensures c.coordinate-2.ensures c.coordinate-3.ensures
