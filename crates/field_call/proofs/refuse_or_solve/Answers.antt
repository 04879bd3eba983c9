-- A refusal clears the values' slice; once the checks pass, each slice has room, and the stages' results stand. Assumes nothing.
use Rattle.std.proofs.Common.{refl, ap, ◌∙◌, length}
use Rattle.settings.specs.declared.Lengths.{Lengths}
use Rattle.scan.specs.FieldAlone.{field_verdict}
use Rattle.scan.proofs.ExactParts.{lent_room}
use Rattle.field_call.proofs.Results.{field_refused, field_ready, field_passed}
use Rattle.field_call.proofs.refuse_or_solve.Goals as goal

pub returns-in-Err-clause-shown : goal.returns-in-Err-clause-shown
returns-in-Err-clause-shown c =
    let is = c.check_field-checked.ensures ∙ ap (λ (l : Lengths). field_verdict c.args.points.now c.args.settings l (length c.args.field.now)) c.lengths_of-lengths.ensures in
    field_refused _ c.args.settings _ c.args.field.now is _ _ c.in-Err.is c.clear.ensures

pub solve_field-requires-clause-depth_in_bounds : goal.solve_field-requires-clause-depth_in_bounds
solve_field-requires-clause-depth_in_bounds c =
    (field_ready _ c.args.settings _ c.args.field.now c.check_field-checked.ensures c.in_default.is).1

pub solve_field-requires-clause-lent : goal.solve_field-requires-clause-lent
solve_field-requires-clause-lent c =
    let is = c.check_field-checked.ensures ∙ ap (λ (l : Lengths). field_verdict c.args.points.now c.args.settings l (length c.args.field.now)) c.lengths_of-lengths.ensures in
    lent_room _ (field_ready _ c.args.settings _ c.args.field.now is c.in_default.is).0 refl refl

pub returns-clause-shown : goal.returns-clause-shown
returns-clause-shown c =
    let is = c.check_field-checked.ensures ∙ ap (λ (l : Lengths). field_verdict c.args.points.now c.args.settings l (length c.args.field.now)) c.lengths_of-lengths.ensures in
    field_passed _ c.args.settings _ c.args.field.now is _ _ c.in_default.is c.solve_field.ensures.answered c.solve_field.ensures.values
