-- Every sum of three squares is a square that f32 holds: `squares_held`. By the laws of such sums in `numbers`, and since an f32 sum fits. Assumes nothing.
use Rattle.std.specs.Prelude.{Float}
use Rattle.std.specs.Float.{binary32}
use Rattle.std.specs.Float.Ieee.Fits.{add-fits}
use Rattle.numbers.proofs.Laws.SumOfSquares.{mul_square, add_square}
use Rattle.numbers.specs.Laws.RootSquares.{HeldSquare}
use Rattle.points.specs.Points.{squares_of}

pub squares_held : (x y z : Float) → HeldSquare binary32 (squares_of x y z)
squares_held x y z =
    record {
      kind = add_square binary32 _ _ (add_square binary32 _ _ (mul_square binary32 x) (mul_square binary32 y)) (mul_square binary32 z);
      fit = add-fits binary32 _ _;
    }
