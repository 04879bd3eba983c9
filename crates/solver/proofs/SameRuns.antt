-- The four slices of a run through one turn after another: they stay the same ones. By congruence. Assumes nothing.
use Rattle.std.proofs.Common.{◌∙◌}
use Rattle.solver.specs.declared.gradients.Run.{Run}
use Rattle.solver.specs.Runs.{SameRun}

-- the same after one turn and after the next are the same after both
pub then_same : (y z w : Run) → SameRun y z → SameRun z w → SameRun y w
then_same y z w e f =
    f
    ∙ (λ i. record {
      x = record (e i).x { now = w.x.now };
      r = record (e i).r { now = w.r.now };
      p = record (e i).p { now = w.p.now };
      ap = record (e i).ap { now = w.ap.now };
    })
