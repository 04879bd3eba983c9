-- What narrowing keeps: a value that an f32 holds stays as it is (`narrowed_same`), only a NaN gives a NaN (`narrowed_nan`), the sign goes through
-- (`narrowed_neg` of Symmetry), and the result is always a value of binary32 (`narrowed_fits`). Behind the first stands `round_same_value`: in either format,
-- rounding a value of the format gives it back. Assumes nothing.
use Rattle.std.specs.Prelude.{◌≡◌, ℕ, zero, suc, ◌+◌, ◌*◌, ◌^◌, ◌<◌, Bool, true, false, cond, T, ℤ, nat_lt, refl, Float}
use Rattle.std.proofs.Common.{ap, ◌∙◌, subst, pow_pos}
use Rattle.std.specs.Float.{nan, inf, fin, Format, binary32}
use Rattle.std.specs.Float.Ieee.{prec, emax, low, up, down, odd, units, round, fits, is_nan}
use Rattle.std.specs.Float.Ieee.Fits.{down_pos, nan-fits, inf-fits, round_is, round-fits}
use Rattle.std.specs.Float.Ieee.Exact.{HasValue, round_exact}
use Rattle.std.specs.Float.Ieee.Scale.{round_same}
use Rattle.numbers.specs.Arithmetic.{narrowed}
use Rattle.numbers.proofs.Laws.Spacing.{in_units, digits_of}
use Rattle.numbers.proofs.Laws.Patterns.{same_value}

-- ---- `narrowed` sees only the value

pub narrowed_val : (v : Float) (s : Bool) (a c : ℕ) → 0 < c → HasValue v s a c → narrowed v ≡ round binary32 s a c
unfolding narrowed
narrowed_val nan s a c C h = absurd h
narrowed_val (inf t) s a c C h = absurd h
narrowed_val (fin t m e) s a c C h =
    ap (λ (b : Bool). round binary32 b (m * up e) (down e)) h.0 ∙ round_same binary32 s (m * up e) (down e) a c (down_pos e) C h.1

pub narrowed_fits : (x : Float) → T (fits binary32 (narrowed x))
unfolding narrowed
narrowed_fits nan = nan-fits binary32
narrowed_fits (inf s) = inf-fits binary32 s
narrowed_fits (fin s m e) = round-fits binary32 s (m * up e) (down e)

-- ---- a value of the format

pub round_same_value : (f : Format) (s : Bool) (m : ℕ) (e : ℤ) → T (fits f (fin s m e)) → round f s (m * up e) (down e) ≡ fin s m e
round_same_value f s m e F =
    let l = 2 ^ low f in
    let u = in_units f s m e F in
    let Y = u.0 in
    let d = digits_of f (fin s m e) s Y F u.1 in
    let under : d.a * 2 ^ d.j < 2 ^ (low f + suc (emax f)) = subst (λ (y : ℕ). y < 2 ^ (low f + suc (emax f))) d.is u.2 in
    let exact : HasValue (round f s Y l) s Y l = round_exact f s Y l d.a d.j (pow_pos (low f)) d.few under (ap (λ (y : ℕ). y * l) d.is) in
    round_same f s (m * up e) (down e) Y l (down_pos e) (pow_pos (low f)) u.1.1 ∙ same_value f (round f s Y l) (fin s m e) s Y (round-fits f s Y l) F exact u.1

pub narrowed_same : (x : Float) → T (fits binary32 x) → narrowed x ≡ x
unfolding narrowed
narrowed_same nan F = refl
narrowed_same (inf s) F = refl
narrowed_same (fin s m e) F = round_same_value binary32 s m e F

-- ---- NaN

odd_no_nan : (d : ℕ) (s : Bool) (q k l : ℕ) → is_nan (odd d s q k l) ≡ false
unfolding odd is_nan
odd_no_nan d s zero k l = refl
odd_no_nan d s (suc q) k l = refl

pub units_no_nan : (f : Format) (s : Bool) (q k : ℕ) → is_nan (units f s q k) ≡ false
unfolding units is_nan
units_no_nan f s q k = go (nat_lt (q * 2 ^ k) (2 ^ (low f + suc (emax f))))
  where
    go : (b : Bool) → is_nan (cond b (odd (suc (prec f)) s q k (low f)) (inf s)) ≡ false
    go true = odd_no_nan (suc (prec f)) s q k (low f)
    go false = refl

pub narrowed_nan : (x : Float) → is_nan (narrowed x) ≡ is_nan x
unfolding narrowed is_nan
narrowed_nan nan = refl
narrowed_nan (inf s) = refl
narrowed_nan (fin s m e) = ap is_nan (round_is binary32 s (m * up e) (down e)) ∙ units_no_nan binary32 s _ _
