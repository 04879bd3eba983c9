-- What is told of a verdict and an answer is the answer under that verdict. By cases. Assumes nothing.
use Rattle.std.specs.Prelude.{◌≡◌, refl, Ok, Err}
use Rattle.std.proofs.Common.{ap, ◌∙◌}
use Rattle.answers.specs.declared.Answer.{Answer}
use Rattle.answers.specs.Answers.{Verdict, answer_under, told, ◌lets◌}
use Rattle.settings.specs.Refusals.{mesh_verdict}
use Rattle.scan.specs.Reconstruction.{mesh_answer}
use Rattle.scan.specs.Words.{mesh_outcome, trimmed_answer}
use Rattle.scan.proofs.make_answer.Goals as goal

told_lets : (v : Verdict) (a : Answer) → told (v lets a) ≡ answer_under v a
told_lets (Ok t) a = refl
told_lets (Err r) a = refl

pub returns : goal.returns
unfolding mesh_outcome trimmed_answer
returns c =
    let a = mesh_answer c.args.usable c.args.level c.args.faces c.args.vertices.now in
    c.told.ensures ∙ ap told c.answer_or_refuse.ensures ∙ told_lets (mesh_verdict c.args.faces) a
