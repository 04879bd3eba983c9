-- No second outcome fits: each public function, in the order of the source. Assumes nothing.
use mathlib.Core.Path.{refl}
use Rattle.lists.specs.OneOutcome.{OneOutcome}
use Rattle.lists.specs.Laws.OneAnswer.{same, ◌&◌}
use Rattle.answers.specs.contracts as contract
use Rattle.answers.proofs as fn

pub refusal_number : OneOutcome contract.Refusal.number.ended fn.Refusal.number.Reads.Post
refusal_number κs args o o' p q = same p q & refl

pub number_of : OneOutcome contract.number_of.ended fn.number_of.Reads.Post
number_of κs args o o' p q = same p q & refl

pub answer_refused : OneOutcome contract.Answer.refused.ended fn.Answer.refused.Reads.Post
answer_refused κs args o o' p q = same p q & refl

pub answer_told : OneOutcome contract.Answer.told.ended fn.Answer.told.Reads.Post
answer_told κs args o o' p q = same p q & refl
