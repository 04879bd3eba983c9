-- What the stages leave is told, and all scratch is cleared after them, which is as long as it was.
use Rattle.std.proofs.Common.{refl, ◌∙◌}
use Rattle.ending.proofs.SameSlices.{cleared_since}
use Rattle.field_call.proofs.poisson_field.Goals as goal

pub returns-clause-done : goal.returns-clause-done
returns-clause-done c =
    let step = c.refuse_or_solve-outcome in record {
      answered = c.told.ensures ∙ step.ensures.shown.answered;
      values = step.ensures.shown.values;
      scratch = cleared_since step.ensures.same.1 refl step.auto.distances c.clear_scratch.ensures.cleared;
    }
