-- The radius is at most 18, whatever the smoothing and the spacing: sigma is at most 6.0 or NaN, and 3·6.0 is the whole number 18, which the ceiling does
-- not pass. Assumes nothing.
use Rattle.std.specs.Prelude.{◌≡◌, refl, Bool, true, false, ◌*◌, ◌/◌, ◌≤◌, ◌<◌, T, pos, negsuc, Float}
use Rattle.std.proofs.Common.{subst, true≢false, mul-one, div-lt_iff_lt-mul, arith, ltb-false}
use Rattle.std.specs.Float.{nan, inf, fin, binary64}
use Rattle.std.specs.Float.Ieee.{up, down, of_bits, mul, div, lt, le, is_nan, to_unsigned}
use Rattle.std.specs.Float.Ieee.Fits.{down_pos, mul-fits}
use Rattle.std.specs.Float.Ieee.Bits.{is_true}
use Rattle.std.specs.Float.Ieee.Positive.{positive, positive-finite, between, mul_mono}
use Rattle.numbers.specs.Constants.{half64, three64, six64}
use Rattle.numbers.specs.Arithmetic.{clamped, ceiled}
use Rattle.numbers.proofs.Laws.Comparing.{holds}
use Rattle.numbers.proofs.Laws.Between.{clamped_in}
use Rattle.numbers.proofs.Laws.Floors.{ceiled_least}
use Rattle.blur.specs.Blur.{sigma_of, radius_of}

-- ---- the numbers here

half_positive : T (positive half64)
unfolding of_bits
half_positive = tt

three_positive : T (positive three64)
unfolding of_bits
three_positive = tt

six_positive : T (positive six64)
unfolding of_bits
six_positive = tt

half_six : le half64 six64 ≡ true
unfolding le of_bits
half_six = refl

three_three : T (le three64 three64)
unfolding le of_bits
three_three = tt

-- 1.5 and 18
three_half : mul binary64 three64 half64 ≡ fin false 3 (negsuc 0)
unfolding mul of_bits
three_half = refl

three_six : mul binary64 three64 six64 ≡ fin false 9 (pos 1)
unfolding mul of_bits
three_six = refl

-- ---- a whole number that is not above 18, as an integer

cut : (z : Float) → lt (fin false 9 (pos 1)) z ≡ false → to_unsigned 64 z ≤ 18
unfolding lt to_unsigned
cut nan h = omega arith
cut (inf true) h = omega arith
cut (inf false) h = absurd (true≢false h)
cut (fin true m e) h = omega arith
cut (fin false m e) h =
    let k = ltb-false (9 * 2 * down e) (m * up e * 1) h in
    let q : m * up e / down e < 19 = (div-lt_iff_lt-mul (down_pos e)).1 (omega (arith, mul-one (m * up e), down_pos e)) in
    omega arith

-- ---- sigma is NaN, or between 0.5 and 6.0

nan_radius : radius_of (clamped nan half64 six64) ≤ 18
unfolding radius_of lt mul of_bits ceiled to_unsigned
nan_radius = omega arith

number_radius : (x : Float) → is_nan x ≡ false → radius_of (clamped x half64 six64) ≤ 18
unfolding radius_of
number_radius x X =
    let r = clamped x half64 six64 in
    let y = mul binary64 three64 r in
    let in_range = clamped_in x half64 six64 X half_six in
    let r-positive = between half64 r six64 half_positive six_positive (holds in_range.0) (holds in_range.1) in
    let low : T (le (fin false 3 (negsuc 0)) y) = subst (λ (z : Float). T (le z y)) three_half (mul_mono binary64 three64 three64 half64 r three_positive three_positive half_positive r-positive three_three (holds in_range.0)) in
    let high : T (le y (fin false 9 (pos 1))) = subst (λ (z : Float). T (le y z)) three_six (mul_mono binary64 three64 three64 r six64 three_positive three_positive r-positive six_positive three_three (holds in_range.1)) in
    let y_positive : T (positive y) = between (fin false 3 (negsuc 0)) y (fin false 9 (pos 1)) tt tt low high in
    let c = ceiled_least y (positive-finite y y_positive) (mul-fits binary64 three64 r) in
    cut (ceiled y) (not_above (ceiled y) (λ t. c.least (fin false 9 (pos 1)) refl t (is_true (le y (fin false 9 (pos 1))) high)))
  where
    not_above : (z : Float) → (lt (fin false 9 (pos 1)) z ≡ true → ⊥) → lt (fin false 9 (pos 1)) z ≡ false
    not_above z no_more = go (lt (fin false 9 (pos 1)) z) no_more
      where
        go : (b : Bool) → (b ≡ true → ⊥) → b ≡ false
        go true h = absurd (h refl)
        go false h = refl

pub radius_most : (smoothing spacing h : Float) → radius_of (sigma_of smoothing spacing h) ≤ 18
unfolding sigma_of
radius_most smoothing spacing h = go (div binary64 (mul binary64 smoothing spacing) h)
  where
    go : (x : Float) → radius_of (clamped x half64 six64) ≤ 18
    go nan = nan_radius
    go (inf s) = number_radius (inf s) (unfold is_nan in refl)
    go (fin s m e) = number_radius (fin s m e) (unfold is_nan in refl)
