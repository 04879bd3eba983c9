-- `orientation::turn_all` meets its contract: the faces before face t are turned (`FacesFilled`). Assumes nothing.
use Rattle.std.proofs.Common.{sym, ap, ◌∙◌, map, ◌<◌, arith, get_or}
use Rattle.std.proofs.Math.ListN.{length-map}
use Rattle.closed.proofs.Laws.Counting.{at_map}
use Rattle.closed.proofs.Laws.Turning.{length_faces}
use Rattle.lists.specs.Laws.Tabulate.{tabulate_by}
use Rattle.meshes.specs.FlatMesh.{face_count}
use Rattle.meshes.specs.Laws.FlatFaces.{no_face, faces_none, faces_now, faces_more, faces_done}
use Rattle.closed.specs.Faces as Flat
use Rattle.orientation.proofs.turn_all.Goals as goal

pub loop-t-init : goal.loop-t-init
loop-t-init c = faces_none

pub loop-t-preserved : goal.loop-t-preserved
loop-t-preserved c =
    let h : c.loop-t.t < face_count c.args.faces.now = omega arith in
    let is = c.turned.ensures ∙ ap Flat.turn (ap Flat.face_of c.read_face-face.ensures ∙ faces_now _ c.requires c.loop-t.invariant h) in
    rw c.write_face.ensures (faces_more _ c.requires c.loop-t.invariant c.turned.result h is)

pub returns : goal.returns
returns c =
    let fs = Flat.faces c.args.faces.now in
    let n = length_faces (face_count c.args.faces.now) c.args.faces.now c.requires in
    faces_done _ c.requires c.loop-t.invariant (omega arith)
    ∙ ap Flat.corners (sym (tabulate_by no_face (λ k. Flat.turn (get_or fs k no_face)) (map Flat.turn fs) (length-map fs Flat.turn ∙ n) (λ k h. at_map Flat.turn fs k no_face no_face (omega (arith, n)))))
