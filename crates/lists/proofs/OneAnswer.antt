-- No second outcome fits: each public function, in the order of the sources, at any element type. Assumes nothing.
use mathlib.Core.Path.{refl}
use denote.RattleType.{RattleType}
use denote.Param.Laws.{Laws, IsCopy}
use Rattle.lists.specs.OneOutcome.{OneOutcome}
use Rattle.lists.specs.Laws.OneAnswer.{same, ◌&◌}
use Rattle.lists.specs.contracts as contract
use Rattle.lists.proofs as fn

-- the element type, and what its bounds `Zero` and `Clone` bring: ghost members, then code
module _ (T : RattleType) (laws : Laws T) (copies : IsCopy T) (zero : _) (zero_code : _) (clone : _) (clone_code : _) where
  pub clear_from : OneOutcome (contract.clear_from.ended T zero zero_code clone clone_code) (fn.clear_from.Reads.Post T laws copies zero zero_code clone clone_code)
  clear_from κs args o o' p q = refl & same p q & refl

  pub clear : OneOutcome (contract.clear.ended T zero zero_code clone clone_code) (fn.clear.Reads.Post T laws copies zero zero_code clone clone_code)
  clear κs args o o' p q = refl & same p q & refl

-- ---- stride.rt

pub stride_for : OneOutcome contract.stride.stride_for.ended fn.stride.stride_for.Reads.Post
stride_for κs args o o' p q = same p q & refl
