-- `trim::keeping::keep_faces`: before face t the front holds the near ones of the first t faces (`Kept`). Assumes nothing.
use Rattle.std.proofs.Common.{sym, ap, ◌∙◌, List, ℕ, arith}
use Rattle.points.specs.Points.{usables}
use Rattle.trim.specs.Trim.{near}
use Rattle.trim.proofs.KeptFront.{kept_none, kept_dropped, kept_more, kept_done}
use Rattle.closed.specs.Faces as Flat
use Rattle.trim.proofs.keeping.keep_faces.Goals as goal
use Rattle.trim.proofs.keeping.keep_faces.Goals.{then-is_near, else-is_near}

pub loop-t-init : goal.loop-t-init
loop-t-init c = kept_none

pub loop-t-preserved : goal.loop-t-preserved
loop-t-preserved c =
    let read = c.read_face-face.ensures in
    let p = near (usables c.args.points.now) c.args.vertices.now c.args.limit in
    let test = ap (λ (f : List ℕ). p (Flat.face_of f)) (sym read) ∙ sym c.is_near.ensures in
    elim c.if-is_near.branch [
      | then-is_near w ↦
          rw (w.faces-is, w.kept-is, w.write_face.ensures, read) (kept_more c.requires.triples c.loop-t.invariant (omega arith) (test ∙ w.if-is_near.true))
      | else-is_near w ↦ rw (w.faces-is, w.kept-is) (kept_dropped c.requires.triples c.loop-t.invariant (omega arith) (test ∙ w.if-is_near.false))
    ]

pub returns-clause-value : goal.returns-clause-value
returns-clause-value c = (kept_done c.requires.triples c.loop-t.invariant (omega arith)).0

pub returns-clause-faces_after : goal.returns-clause-faces_after
returns-clause-faces_after c = (kept_done c.requires.triples c.loop-t.invariant (omega arith)).1
