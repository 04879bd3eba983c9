-- A sum of squares that a format holds, which the laws on the order of its roots speak of (proofs/Laws/RootSquares). Definitions only; assumes nothing.
use Rattle.std.specs.Prelude.{T, Float}
use Rattle.std.specs.Float.{Format}
use Rattle.std.specs.Float.Ieee.{fits}
use Rattle.numbers.specs.Laws.SumOfSquares.{Square}

-- a sum of squares that the format holds
pub record HeldSquare (f : Format) (x : Float) : Type 0 where
  pub kind : Square x
  pub fit : T (fits f x)
