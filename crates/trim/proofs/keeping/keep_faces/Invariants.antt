-- `trim::keeping::keep_faces`: before face t the front holds the near ones of the first t faces (`Kept`). Assumes nothing.
use Rattle.points.specs.Points.{usables}
use Rattle.trim.specs.Trim.{near}
use Rattle.trim.proofs.KeptFront.{Kept}
use Rattle.trim.proofs.keeping.keep_faces.Given as goal

abbrev pub invariant-loop-t : goal.invariant-loop-t
invariant-loop-t l = Kept (near (usables l.points) l.vertices l.limit) l.initial.faces l.faces l.kept l.t
