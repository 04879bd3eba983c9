-- `orientation::agreement` meets its contract: what is left from face t gives what all faces give (`Asking`). Assumes nothing.
use Rattle.numbers.specs.Constants.{minus_zero64}
use Rattle.orientation.specs.Orientation.{plus_sign}
use Rattle.orientation.proofs.EveryOther.{Asking}
use Rattle.closed.specs.Faces as Flat
use Rattle.orientation.proofs.agreement.Given as goal

abbrev pub invariant-loop-t : goal.invariant-loop-t
invariant-loop-t l = Asking (plus_sign l.g l.values l.vertices) minus_zero64 (Flat.faces l.faces) l.s l.sum l.t
