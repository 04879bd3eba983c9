-- No second outcome fits: each exported call, in the order of the source. The number and the two arrays are told of an answer, which is the results' by
-- `Done`; each slice is said by an equation. Assumes nothing.
use mathlib.Core.Path.{◌≡◌, refl, ap, ◌∙◌}
use mathlib.Core.List.{List}
use Prim.Native.Nat.{ℕ}
use lib.Ieee.{Float}
use Rattle.answers.specs.declared.Answer.{Answer}
use Rattle.lists.specs.OneOutcome.{OneOutcome}
use Rattle.lists.specs.Laws.OneAnswer.{same, ◌&◌}
use Rattle.capi.specs.Flat.{counts_of, values_of, AnswerTold}
use Rattle.capi.specs.contracts as contract
use Rattle.capi.proofs as fn

-- what is told of one answer, twice, is the same
module _ {d : Answer} {n n' : ℕ} {cs cs' : List ℕ} {vs vs' : List Float} (a a' : Answer)
    (p : AnswerTold a n cs vs) (q : AnswerTold a' n' cs' vs') (e : a ≡ d) (e' : a' ≡ d) where
  numbers : n ≡ n'
  numbers = same (p.number_is ∙ ap (λ (r : Answer). r.number) e) (q.number_is ∙ ap (λ (r : Answer). r.number) e')

  counts : cs ≡ cs'
  counts = same (p.counts_are ∙ ap counts_of e) (q.counts_are ∙ ap counts_of e')

  values : vs ≡ vs'
  values = same (p.values_are ∙ ap values_of e) (q.values_are ∙ ap values_of e')

pub poisson_reconstruct : OneOutcome contract.poisson_reconstruct.ended fn.poisson_reconstruct.Reads.Post
poisson_reconstruct κs args o o' p q =
    numbers p.answer q.answer p.told q.told p.done.answered q.done.answered
    & refl
    & refl
    & refl
    & refl
    & refl
    & refl
    & refl
    & refl
    & same p.done.vertices q.done.vertices
    & same p.done.faces q.done.faces
    & same p.done.scratch.s0_clear q.done.scratch.s0_clear
    & same p.done.scratch.s1_clear q.done.scratch.s1_clear
    & same p.done.scratch.s2_clear q.done.scratch.s2_clear
    & same p.done.scratch.s3_clear q.done.scratch.s3_clear
    & same p.done.scratch.s4_clear q.done.scratch.s4_clear
    & same p.done.scratch.s5_clear q.done.scratch.s5_clear
    & same p.done.scratch.s6_clear q.done.scratch.s6_clear
    & same p.done.scratch.edges_clear q.done.scratch.edges_clear
    & same p.done.scratch.distances_clear q.done.scratch.distances_clear
    & counts p.answer q.answer p.told q.told p.done.answered q.done.answered
    & values p.answer q.answer p.told q.told p.done.answered q.done.answered
    & refl

pub poisson_reconstruct_default : OneOutcome contract.poisson_reconstruct_default.ended fn.poisson_reconstruct_default.Reads.Post
poisson_reconstruct_default κs args o o' p q =
    numbers p.answer q.answer p.told q.told p.done.answered q.done.answered
    & refl
    & same p.done.vertices q.done.vertices
    & same p.done.faces q.done.faces
    & same p.done.scratch.s0_clear q.done.scratch.s0_clear
    & same p.done.scratch.s1_clear q.done.scratch.s1_clear
    & same p.done.scratch.s2_clear q.done.scratch.s2_clear
    & same p.done.scratch.s3_clear q.done.scratch.s3_clear
    & same p.done.scratch.s4_clear q.done.scratch.s4_clear
    & same p.done.scratch.s5_clear q.done.scratch.s5_clear
    & same p.done.scratch.s6_clear q.done.scratch.s6_clear
    & same p.done.scratch.edges_clear q.done.scratch.edges_clear
    & same p.done.scratch.distances_clear q.done.scratch.distances_clear
    & counts p.answer q.answer p.told q.told p.done.answered q.done.answered
    & values p.answer q.answer p.told q.told p.done.answered q.done.answered
    & refl

pub poisson_field : OneOutcome contract.poisson_field.ended fn.poisson_field.Reads.Post
poisson_field κs args o o' p q =
    numbers p.answer q.answer p.told q.told p.done.answered q.done.answered
    & refl
    & refl
    & refl
    & refl
    & refl
    & refl
    & refl
    & refl
    & same p.done.values q.done.values
    & same p.done.scratch.s0_clear q.done.scratch.s0_clear
    & same p.done.scratch.s1_clear q.done.scratch.s1_clear
    & same p.done.scratch.s2_clear q.done.scratch.s2_clear
    & same p.done.scratch.s3_clear q.done.scratch.s3_clear
    & same p.done.scratch.s4_clear q.done.scratch.s4_clear
    & same p.done.scratch.s5_clear q.done.scratch.s5_clear
    & same p.done.scratch.s6_clear q.done.scratch.s6_clear
    & same p.done.scratch.edges_clear q.done.scratch.edges_clear
    & same p.done.scratch.distances_clear q.done.scratch.distances_clear
    & counts p.answer q.answer p.told q.told p.done.answered q.done.answered
    & values p.answer q.answer p.told q.told p.done.answered q.done.answered
    & refl

pub poisson_defaults : OneOutcome contract.poisson_defaults.ended fn.poisson_defaults.Reads.Post
poisson_defaults κs args o o' p q = refl & same p.0 q.0 & same p.1 q.1 & same p.2 q.2 & refl
