-- A refusal of the first checks stands; once they pass, each slice has room, and what the stages show is the whole call's. Assumes nothing.
use Rattle.std.proofs.Common.{rules, ap, subst, arith}
use Rattle.answers.specs.Answers.{told}
use Rattle.settings.specs.declared.Lengths.{Lengths}
use Rattle.scan.specs.Reconstruction.{reconstructed}
use Rattle.scan.proofs.ExactParts.{lent_room}
use Rattle.poisson.specs.Words.{Shown}
use Rattle.poisson.proofs.Results.{first_refused, first_ready, first_passed}
use Rattle.poisson.proofs.refuse_or_reconstruct.Goals as goal

pub returns-in_err-check-clause-shown : goal.returns-in_err-check-clause-shown
returns-in_err-check-clause-shown c =
    subst (λ (l : Lengths). Shown (reconstructed c.args.points.now c.args.settings l) (told c.from_residual.result) c.args.vertices.now c.args.faces.now)
    c.lengths_of-lengths.ensures
    (first_refused _ c.args.settings _ c.check.ensures _ _ _ c.from_residual.result c.in_err-check.was (search rules))

pub reconstruct-requires-clause-lent : goal.reconstruct-requires-clause-lent
reconstruct-requires-clause-lent c =
    let is = c.lengths_of-lengths.ensures in
    lent_room _ (first_ready _ c.args.settings _ c.check.ensures c.in_ok-check.was) (ap (λ (l : Lengths). l.grids) is) (ap (λ (l : Lengths). l.distances) is)

pub reconstruct-requires-clause-edges_len : goal.reconstruct-requires-clause-edges_len
reconstruct-requires-clause-edges_len c =
    omega (arith, (first_ready _ c.args.settings _ c.check.ensures c.in_ok-check.was).edges_fit, ap (λ (l : Lengths). l.edges) c.lengths_of-lengths.ensures)

pub returns-clause-shown : goal.returns-clause-shown
returns-clause-shown c =
    subst (λ (l : Lengths). Shown (reconstructed c.args.points.now c.args.settings l) (told c.reconstruct.result) c.reconstruct.new.vertices c.reconstruct.new.faces)
    c.lengths_of-lengths.ensures
    (first_passed _ c.args.settings _ c.check.ensures _ _ _ c.in_ok-check.was c.reconstruct.ensures.shown)
