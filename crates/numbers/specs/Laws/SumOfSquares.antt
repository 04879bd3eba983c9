-- What a sum of squares can be: NaN, +infinity or a value with a plus sign (`Square`). proofs/Laws/SumOfSquares proves it. Definitions only; assumes nothing.
use Rattle.std.specs.Prelude.{ℕ, false, ℤ, Float}
use Rattle.std.specs.Float.Ieee.{nan}
use Rattle.std.specs.Float.{inf, fin}

pub data Square : Float → Type 0 where
  none : Square nan
  far : Square (inf false)
  some : {m : ℕ} {e : ℤ} → Square (fin false m e)
