-- A loop's way through the dot product (`Summed`, the loop's whole invariant); its laws are in proofs/Laws/Dotted. Definitions only; assumes nothing.
use Rattle.std.specs.Prelude.{◌≡◌, List, ℕ, ◌≤◌, length, Float}
use Rattle.vectors.specs.Vectors.{dot_to}

pub record Summed (a b : List Float) (s : Float) (i : ℕ) : Type 0 where
  pub sum : s ≡ dot_to a b i
  pub within : i ≤ length a
