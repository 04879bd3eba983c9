-- `orientation::orient` meets its contract: it turns all faces where the sum is below zero, and else none. Assumes nothing.
use Rattle.std.proofs.Common.{◌≡◌, sym, ap, ◌∙◌, true, Float}
use Rattle.std.specs.Float.Ieee.{binary64, of_bits, lt}
use Rattle.orientation.specs.Orientation.{agreement_of, oriented_faces}
use Rattle.meshes.specs.Laws.FlatFaces.{meshed_corners}
use Rattle.closed.specs.Faces as Flat
use Rattle.orientation.proofs.orient.Goals as goal

pub returns-then-agreement : goal.returns-then-agreement
unfolding oriented_faces
returns-then-agreement c =
    let below : lt (agreement_of c.args.g c.args.values.now c.args.vertices.now (Flat.faces c.args.faces.now)) (of_bits binary64 0) ≡ true = ap (λ (sum : Float). lt sum (of_bits binary64 0)) (sym c.agreement.ensures) ∙ c.if-agreement.true in
    rw below c.turn_all.ensures

pub returns-else-agreement : goal.returns-else-agreement
unfolding oriented_faces
returns-else-agreement c = rw (← c.agreement.ensures, c.if-agreement.false) (sym (meshed_corners c.requires.meshed))
