-- The slices have room for all faces (`room_all`), and what these leave in them is the mesh (`mesh_all`).
use Rattle.std.proofs.Common.{rules}
use Rattle.extract.specs.Words.{Mesh}
use Rattle.extract.proofs.FirstPlace.{room_all, edges_all, mesh_all}
use Rattle.extract.proofs.write.write_mesh.Goals as goal

pub visit_faces-requires : goal.visit_faces-requires
visit_faces-requires c =
    let a = c.args in
    let r = c.requires in (
      record { counts = r.ready.counts; nodes = r.ready.nodes },
      record {
        counts = r.ready.counts;
        edges = edges_all a.values.now a.lattice a.iso r.ready.counts r.ready.nodes a.table.now r.ready.edges;
        room = room_all a.values.now a.lattice a.iso r.ready.counts a.table.now r.numbers a.vertices.now a.faces.now r.points r.triples;
      },
    )

pub returns : goal.returns
returns c =
    let a = c.args in
    let r = c.requires in
    let w = c.visit_faces.new.visitor in
    let mesh : Mesh a.values.now a.lattice a.iso w.vertices.now w.faces.now =
    mesh_all a.values.now a.lattice a.iso r.ready.counts a.table.now r.numbers a.vertices.now a.faces.now r.points r.triples w.vertices.now w.faces.now w.size c.visit_faces.ensures.4 in
    search rules
