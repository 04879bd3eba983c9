-- How code meets a NaN: `x != x` is the test for it, and its patterns are those above an infinity's. By cases on the value; patterns by `lib.Ieee.Bits`.
-- Assumes nothing.
use Rattle.std.specs.Prelude.{◌≡◌, ℕ, ◌*◌, ◌%◌, ◌<◌, ◌≤◌, Bool, true, false, not, T, refl}
use Rattle.std.proofs.Common.{sym, subst, ◌∙◌, lt-ltb, le-ltb}
use lib.Ieee.{Float, Format, nan, inf, fin, binary32, binary64, div, ne, is_nan, nan_bits, of_bits, ones, hid, top}
use Rattle.std.specs.Float.Ieee.Compare.{differs_from_itself}
use Rattle.std.specs.Float.Ieee.Bits.{nan_bits_is, nan_bits_above}
use Rattle.numbers.proofs.Laws.Comparing.{ne_itself}

-- ---- the test

is_nan_lem : (x : Float) → T (is_nan x) → x ≡ nan
unfolding is_nan
is_nan_lem nan t = refl
is_nan_lem (inf s) t = absurd t
is_nan_lem (fin s m e) t = absurd t

pub nan_of : (x : Float) → is_nan x ≡ true → x ≡ nan
nan_of x e = is_nan_lem x (subst T (sym e) tt)

pub differs : (x : Float) → ne x x ≡ true → x ≡ nan
differs x e = differs_from_itself x (subst T (sym e) tt)

pub same : (x : Float) → ne x x ≡ false → T (not (is_nan x))
same x e = subst (λ (b : Bool). T (not b)) (sym (sym (ne_itself x) ∙ e)) tt

-- ---- how code writes one

pub zero_by_zero : (f : Format) → div f (of_bits f 0) (of_bits f 0) ≡ nan
unfolding div of_bits
zero_by_zero binary32 = refl
zero_by_zero binary64 = refl

-- ---- its patterns: those above the infinity's, and no others

pub above_infinity : (f : Format) (n : ℕ) → ones f * hid f < n % top f → of_bits f n ≡ nan
above_infinity f n h = is_nan_lem (of_bits f n) (subst T (sym (sym (nan_bits_is f n) ∙ (nan_bits_above f n ∙ lt-ltb _ _ h))) tt)

pub up_to_infinity : (f : Format) (n : ℕ) → n % top f ≤ ones f * hid f → T (not (nan_bits f n))
up_to_infinity f n h = subst (λ (b : Bool). T (not b)) (sym (nan_bits_above f n ∙ le-ltb _ _ h)) tt
