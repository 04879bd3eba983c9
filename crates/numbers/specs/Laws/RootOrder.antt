-- Values that are not negative and no NaN, which the laws on the order of roots speak of (proofs/Laws/RootOrder). Definitions only; assumes nothing.
use Rattle.std.specs.Prelude.{ℕ, false, ℤ, Float}
use Rattle.std.specs.Float.{inf}
use Rattle.std.specs.Float.Ieee.{fin}

-- ---- a result is a value that is not negative, or +infinity
pub data Plain : Float → Type 0 where
  infinite : Plain (inf false)
  finite : {m : ℕ} {e : ℤ} → Plain (fin false m e)
