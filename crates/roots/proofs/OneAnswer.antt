-- No second outcome fits: each public function, in the order of the sources. Assumes nothing.
use Rattle.std.proofs.Common.{◌≡◌, refl}
use lib.Ieee.{binary32, binary64}
use denote.RattleType.{RattleType}
use denote.Floats.{FloatOf}
use denote.Param.Laws.{Laws, IsCopy}
use Rattle.lists.specs.OneOutcome.{OneOutcome}
use Rattle.lists.specs.Laws.OneAnswer.{same, ◌&◌}
use Rattle.numbers.specs.declared.real.Real as Real
use Rattle.numbers.specs.contracts.real.F32Real.TheImpl as single
use Rattle.numbers.specs.contracts.real.F64Real.TheImpl as double
use Rattle.roots.specs.contracts as contract
use Rattle.roots.proofs as fn

-- at any type with what its bounds bring, ghost members and code: `Real`, `PartialOrd`, `PartialEq` and `Clone`; and with the law that its number tells a value
module _ (T : RattleType) (laws : Laws T) (copies : IsCopy T) (r : Real.Ghosts T.Denot) (r' : _) (o : _) (o' : _) (e : _) (e' : _) (c : _) (c' : _)
    (told_by_value : (x y : T.Denot) → r.value x ≡ r.value y → x ≡ y) where
  pub root : OneOutcome (contract.root.ended T r r' o o' e e' c c') (fn.root.Reads.Post T laws copies r r' o o' e e' c c')
  root κs args a a' p q = told_by_value _ _ (same p q) & refl

-- at f32 and at f64 nothing is asked: a value of either is its number
module _ (laws : Laws (FloatOf binary32)) (copies : IsCopy (FloatOf binary32)) (r' : _) (o : _) (o' : _) (e : _) (e' : _) (c : _) (c' : _) where
  pub root32 : OneOutcome (contract.root.ended (FloatOf binary32) single.ghosts r' o o' e e' c c') (fn.root.Reads.Post (FloatOf binary32) laws copies single.ghosts r' o o' e e' c c')
  root32 = root (FloatOf binary32) laws copies single.ghosts r' o o' e e' c c' (λ x y e. e)

module _ (laws : Laws (FloatOf binary64)) (copies : IsCopy (FloatOf binary64)) (r' : _) (o : _) (o' : _) (e : _) (e' : _) (c : _) (c' : _) where
  pub root64 : OneOutcome (contract.root.ended (FloatOf binary64) double.ghosts r' o o' e e' c c') (fn.root.Reads.Post (FloatOf binary64) laws copies double.ghosts r' o o' e e' c c')
  root64 = root (FloatOf binary64) laws copies double.ghosts r' o o' e e' c c' (λ x y e. e)
