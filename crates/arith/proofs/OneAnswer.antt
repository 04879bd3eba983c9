-- No second outcome fits: each public function, in the order of the sources. Assumes nothing.
use Rattle.std.proofs.Common.{◌≡◌, refl}
use lib.Ieee.{binary32, binary64}
use denote.RattleType.{RattleType}
use denote.Floats.{FloatOf}
use denote.Param.Laws.{Laws, IsCopy}
use Rattle.lists.specs.OneOutcome.{OneOutcome}
use Rattle.lists.specs.Laws.OneAnswer.{same, ◌&◌}
use Rattle.numbers.specs.declared.real.Real as Real
use Rattle.numbers.specs.contracts.real.F32Real.TheImpl as single
use Rattle.numbers.specs.contracts.real.F64Real.TheImpl as double
use Rattle.arith.specs.contracts as contract
use Rattle.arith.proofs as fn

-- ---- exponential.rt

pub exp_neg : OneOutcome contract.exponential.exp_neg.ended fn.exponential.exp_neg.Reads.Post
exp_neg κs args o o' p q = same p q & refl

-- ---- narrowing.rt

pub narrow : OneOutcome contract.narrowing.narrow.ended fn.narrowing.narrow.Reads.Post
narrow κs args o o' p q = same p q & refl

-- ---- patterns.rt

pub float32 : OneOutcome contract.patterns.float32.ended fn.patterns.float32.Reads.Post
float32 κs args o o' p q = same p q & refl

pub float64 : OneOutcome contract.patterns.float64.ended fn.patterns.float64.Reads.Post
float64 κs args o o' p q = same p q & refl

pub pattern32 : OneOutcome contract.patterns.pattern32.ended fn.patterns.pattern32.Reads.Post
pattern32 κs args o o' p q = same p q & refl

pub pattern64 : OneOutcome contract.patterns.pattern64.ended fn.patterns.pattern64.Reads.Post
pattern64 κs args o o' p q = same p q & refl

-- ---- pick.rt

pub sign : OneOutcome contract.pick.sign.ended fn.pick.sign.Reads.Post
sign κs args o o' p q = same p q & refl

pub least : OneOutcome contract.pick.least.ended fn.pick.least.Reads.Post
least κs args o o' p q = same p q & refl

pub largest : OneOutcome contract.pick.largest.ended fn.pick.largest.Reads.Post
largest κs args o o' p q = same p q & refl

-- ---- steps.rt

pub floor : OneOutcome contract.steps.floor.ended fn.steps.floor.Reads.Post
floor κs args o o' p q = same p q & refl

pub ceiling : OneOutcome contract.steps.ceiling.ended fn.steps.ceiling.Reads.Post
ceiling κs args o o' p q = same p q & refl

pub to_whole : OneOutcome contract.steps.to_whole.ended fn.steps.to_whole.Reads.Post
to_whole κs args o o' p q = same p q & refl

-- ---- at any type with what its bounds bring, ghost members and code: `Real`, `PartialOrd`, `PartialEq` and `Clone`; and with the law that its number tells a value

module _ (T : RattleType) (laws : Laws T) (copies : IsCopy T) (r : Real.Ghosts T.Denot) (r' : _) (o : _) (o' : _) (e : _) (e' : _) (c : _) (c' : _)
    (told_by_value : (x y : T.Denot) → r.value x ≡ r.value y → x ≡ y) where
  pub clamp : OneOutcome (contract.pick.clamp.ended T r r' o o' e e' c c') (fn.pick.clamp.Reads.Post T laws copies r r' o o' e e' c c')
  clamp κs args a a' p q = told_by_value _ _ (same p q) & refl

-- at f32 and at f64 nothing is asked: a value of either is its number
module _ (laws : Laws (FloatOf binary32)) (copies : IsCopy (FloatOf binary32)) (r' : _) (o : _) (o' : _) (e : _) (e' : _) (c : _) (c' : _) where
  pub clamp32 : OneOutcome (contract.pick.clamp.ended (FloatOf binary32) single.ghosts r' o o' e e' c c') (fn.pick.clamp.Reads.Post (FloatOf binary32) laws copies single.ghosts r' o o' e e' c c')
  clamp32 = clamp (FloatOf binary32) laws copies single.ghosts r' o o' e e' c c' (λ x y e. e)

module _ (laws : Laws (FloatOf binary64)) (copies : IsCopy (FloatOf binary64)) (r' : _) (o : _) (o' : _) (e : _) (e' : _) (c : _) (c' : _) where
  pub clamp64 : OneOutcome (contract.pick.clamp.ended (FloatOf binary64) double.ghosts r' o o' e e' c c') (fn.pick.clamp.Reads.Post (FloatOf binary64) laws copies double.ghosts r' o o' e e' c c')
  clamp64 = clamp (FloatOf binary64) laws copies double.ghosts r' o o' e e' c c' (λ x y e. e)
