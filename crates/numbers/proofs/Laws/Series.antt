-- One step of the exponential's two loops: the series goes from m to m - 1, and one of k squarings is done first. Assumes nothing.
use Rattle.std.specs.Prelude.{◌≡◌, ℕ, zero, suc, ◌-◌, ◌<◌, pos, Float}
use Rattle.std.proofs.Common.{arith}
use Rattle.std.specs.Float.{binary64}
use Rattle.std.specs.Float.Ieee.{of_int, sub, mul, div}
use Rattle.numbers.specs.Constants.{one64}
use Rattle.numbers.specs.Arithmetic.{series, squared}

pub series_step : (u : Float) (m : ℕ) (s : Float) → 0 < m → series u m s ≡ series u (m - 1) (sub binary64 one64 (div binary64 (mul binary64 u s) (of_int binary64 (pos m))))
unfolding series
series_step u zero s h = absurd (omega arith)
series_step u (suc m) s h = let e : suc m - 1 ≡ m = omega arith in rw e

pub squared_step : (k : ℕ) (s : Float) → 0 < k → squared k s ≡ squared (k - 1) (mul binary64 s s)
unfolding squared
squared_step zero s h = absurd (omega arith)
squared_step (suc k) s h = let e : suc k - 1 ≡ k = omega arith in rw e
