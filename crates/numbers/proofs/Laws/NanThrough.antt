-- A NaN goes through: each operation of which an operand is NaN gives NaN, and no comparison holds of one. By the cases of each definition. Assumes nothing.
use Rattle.std.specs.Prelude.{◌≡◌, false, Float}
use Rattle.std.proofs.Math.Path.{ap}
use Rattle.std.proofs.Common.{◌∙◌}
use Rattle.std.specs.Float.{nan, Format}
use Rattle.std.specs.Float.Ieee.{neg, add, sub, mul, div, lt, eq, le}
use Rattle.numbers.specs.Arithmetic.{rooted, narrowed}
use Rattle.numbers.proofs.Laws.Commuting.{add_swap, mul_swap}

module _ (f : Format) {x : Float} (y : Float) (e : x ≡ nan) where
  -- the first operand
  pub nan_add : add f x y ≡ nan
  unfolding add
  nan_add = ap (λ (z : Float). add f z y) e

  pub nan_mul : mul f x y ≡ nan
  unfolding mul
  nan_mul = ap (λ (z : Float). mul f z y) e

  pub nan_div : div f x y ≡ nan
  unfolding div
  nan_div = ap (λ (z : Float). div f z y) e

  -- the second
  pub add_nan : add f y x ≡ nan
  add_nan = add_swap f y x ∙ nan_add

  pub mul_nan : mul f y x ≡ nan
  mul_nan = mul_swap f y x ∙ nan_mul

pub nan_sub : (f : Format) {x : Float} (y : Float) → x ≡ nan → sub f x y ≡ nan
unfolding sub
nan_sub f y e = nan_add f (neg y) e

pub sub_nan : (f : Format) {x : Float} (y : Float) → x ≡ nan → sub f y x ≡ nan
unfolding sub neg
sub_nan f y e = add_nan f y (ap neg e)

pub nan_narrowed : {x : Float} → x ≡ nan → narrowed x ≡ nan
unfolding narrowed
nan_narrowed e = ap narrowed e

pub nan_rooted : (f : Format) {x : Float} → x ≡ nan → rooted f x ≡ nan
unfolding rooted
nan_rooted f e = ap (rooted f) e

pub nan_le : {x : Float} (y : Float) → x ≡ nan → le x y ≡ false
unfolding le lt eq
nan_le y e = ap (λ (z : Float). le z y) e
