-- `orientation::turn_all` meets its contract: the faces before face t are turned (`FacesFilled`). Assumes nothing.
use Rattle.std.proofs.Common.{get_or}
use Rattle.meshes.specs.Laws.FlatFaces.{no_face, FacesFilled}
use Rattle.closed.specs.Faces as Flat
use Rattle.orientation.proofs.turn_all.Given as goal

abbrev pub invariant-loop-t : goal.invariant-loop-t
invariant-loop-t l = FacesFilled (λ k. Flat.turn (get_or (Flat.faces l.initial.faces) k no_face)) l.initial.faces l.faces l.t
