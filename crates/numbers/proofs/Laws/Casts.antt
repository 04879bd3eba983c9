-- `as u64` at every f64: where the whole part is below 2 ^ 64 it is std's cast, which asks -1 < x < 2 ^ 64; past either end these laws say what it is.
-- Assumes nothing.
use Rattle.std.specs.Prelude.{◌≡◌, ◌+◌, ◌-◌, ◌*◌, ◌/◌, ◌^◌, ◌≤◌, true, false, pos, refl, Float}
use Rattle.std.proofs.Common.{true≢false, mul-one, le-div_iff_mul-le, arith, ltb-false}
use Rattle.std.proofs.lemmas.Bool.{false≢true}
use Rattle.std.specs.Float.{nan, inf, fin}
use Rattle.std.specs.Float.Ieee.{up, down, lt, to_unsigned}
use Rattle.std.specs.Float.Ieee.Fits.{down_pos}

pub cast_top : (x : Float) → lt (fin true 1 (pos 0)) x ≡ true → lt x (fin false 1 (pos 64)) ≡ false → 2 ^ 64 - 1 ≡ to_unsigned 64 x
unfolding lt to_unsigned
cast_top nan t u = absurd (false≢true t)
cast_top (inf true) t u = absurd (false≢true t)
cast_top (inf false) t u = refl
cast_top (fin true m e) t u = let h = ltb-false 0 (m * up e * 1 + 2 ^ 64 * down e) u in absurd (omega (arith, down_pos e))
cast_top (fin false m e) t u =
    let h = ltb-false (m * up e * 1) (2 ^ 64 * down e) u in
    let k : 2 ^ 64 ≤ m * up e / down e = (le-div_iff_mul-le (down_pos e)).1 (omega (arith, mul-one (m * up e))) in
    omega arith

pub cast_none : (x : Float) → lt (fin true 1 (pos 0)) x ≡ false → 0 ≡ to_unsigned 64 x
unfolding lt to_unsigned
cast_none nan t = refl
cast_none (inf true) t = refl
cast_none (inf false) t = absurd (true≢false t)
cast_none (fin true m e) t = refl
cast_none (fin false m e) t = let h = ltb-false 0 (1 * down e + m * up e * 1) t in absurd (omega (arith, down_pos e))
