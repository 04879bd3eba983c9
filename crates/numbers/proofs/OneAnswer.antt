-- No second outcome fits: each public function, in the order of the sources. Assumes nothing.
use Rattle.std.proofs.Common.{refl}
use denote.RattleType.{RattleType}
use denote.Param.Laws.{Laws, IsCopy}
use Rattle.lists.specs.OneOutcome.{OneOutcome}
use Rattle.lists.specs.Laws.OneAnswer.{same, ◌&◌}
use Rattle.numbers.specs.contracts as contract
use Rattle.numbers.proofs as fn

pub widen : OneOutcome contract.widen.ended fn.widen.Reads.Post
widen κs args o o' p q = same p q & refl

-- at any type with what its bounds bring, ghost members and code: `Real`, `PartialOrd`, `PartialEq` and `Clone`
module _ (T : RattleType) (laws : Laws T) (copies : IsCopy T) (r : _) (r' : _) (o : _) (o' : _) (e : _) (e' : _) (c : _) (c' : _) where
  pub canonical : OneOutcome (contract.canonical.ended T r r' o o' e e' c c') (fn.canonical.Reads.Post T laws copies r r' o o' e e' c c')
  canonical κs args a a' p q = same p q & refl

-- ---- real.rt, of each format

pub f32_pattern : OneOutcome contract.real.F32Real.pattern.ended fn.real.F32Real.pattern.Reads.Post
f32_pattern κs args o o' p q = same p.1 q.1 & refl

pub f32_of_pattern : OneOutcome contract.real.F32Real.of_pattern.ended fn.real.F32Real.of_pattern.Reads.Post
f32_of_pattern κs args o o' p q = same p q & refl

pub f64_pattern : OneOutcome contract.real.F64Real.pattern.ended fn.real.F64Real.pattern.Reads.Post
f64_pattern κs args o o' p q = same p.1 q.1 & refl

pub f64_of_pattern : OneOutcome contract.real.F64Real.of_pattern.ended fn.real.F64Real.of_pattern.Reads.Post
f64_of_pattern κs args o o' p q = same p q & refl
