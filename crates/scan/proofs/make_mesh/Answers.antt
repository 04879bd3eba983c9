-- Each stage is given what it asks, and what is left is the mesh that is returned: MeshMade.
use Rattle.std.proofs.Common.{sym, ap, ap₂, ◌∙◌, ℕ, List, length, Float}
use Rattle.lists.specs.Lists.{padded, zero32}
use Rattle.closed.specs.Faces.{Face, corners}
use Rattle.points.specs.Points.{usables}
use Rattle.scan.proofs.MeshMade.{sized, mesh_meshed, whole_vertices_lem, whole_faces_lem, turned_meshed, room, kept_vertices_lem, kept_faces_lem}
use Rattle.scan.proofs.make_mesh.Goals as goal

pub write_mesh-requires : goal.write_mesh-requires
write_mesh-requires c = sized c.requires c.lattice.ensures.0 c.lattice.ensures.1

pub orient-requires-clause-meshed : goal.orient-requires-clause-meshed
orient-requires-clause-meshed c =
    mesh_meshed c.write_mesh.ensures

pub trim-requires-clause-meshed : goal.trim-requires-clause-meshed
trim-requires-clause-meshed c =
    turned_meshed c.requires c.lattice.ensures.0 c.lattice.ensures.1 c.write_mesh.ensures c.orient.ensures

pub trim-requires-clause-trim_room : goal.trim-requires-clause-trim_room
trim-requires-clause-trim_room c =
    room c.requires c.lattice.ensures.0 c.lattice.ensures.1 c.write_mesh.ensures c.orient.ensures

pub returns : goal.returns
returns c =
    let ps = usables c.args.points.now in
    let fs2 = c.orient.new.faces in
    let v = whole_vertices_lem c.requires c.lattice.ensures.0 c.lattice.ensures.1 c.write_mesh.ensures in
    let f = whole_faces_lem c.requires c.lattice.ensures.0 c.lattice.ensures.1 c.write_mesh.ensures c.orient.ensures in
    let vs = kept_vertices_lem ps c.args.settings fs2 v f in
    let fs = kept_faces_lem ps c.args.settings fs2 v f in
    let v_room = c.write_mesh.auto.vertices in
    let f_room = c.orient.auto.faces ∙ c.write_mesh.auto.faces in
    record {
      vertex_count = sym (ap length vs) ∙ c.trim.ensures.trimmed.vertex_count;
      face_count = sym (ap length fs) ∙ c.trim.ensures.trimmed.face_count;
      places = c.trim.ensures.trimmed.places ∙ ap₂ (λ (n : ℕ) (l : List Float). padded zero32 n l) v_room vs;
      numbers = c.trim.ensures.trimmed.corners_at ∙ ap₂ (λ (n : ℕ) (l : List Face). padded 0 n (corners l)) f_room fs;
      zero1 = c.trim.ensures.a_after;
      zero2 = c.trim.ensures.b_after;
      zero3 = c.trim.ensures.c_after;
      no_numbers = c.trim.ensures.table_after;
    }
