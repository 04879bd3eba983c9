-- Document 01, "Arithmetic", in its order: square root, narrowing, floor, ceiling, clamp, sign, the exponential of -x; and the lesser and the larger of two.
-- A number is a `Float` of `lib.Ieee`, which says what a value, a format and one rounding are. Definitions only; assumes nothing.
use Rattle.std.specs.Prelude.{ℕ, zero, suc, ◌+◌, ◌-◌, ◌*◌, ◌/◌, ◌%◌, ◌^◌, Bool, true, false, cond, ◌||◌, ℤ, pos, ◌==◌, is_nan, nat_le, Float}
use Prim.Native.Nat.{compare}
use Rattle.std.specs.Float.{nan, inf, fin, Format, binary32, binary64}
use Rattle.std.specs.Float.Ieee.{prec, low, up, down, size, nearest, units, round, of_int, sub, mul, div, lt}
use Rattle.numbers.specs.Constants.{one64, sixty_four64}

-- ---- square root: IEEE 754-2019's squareRoot, one definition for both formats

-- The largest whole number whose square is at most n, for an n below 4 ^ d. Its digits but the last are the root of n / 4.
unfoldable pub root_in : ℕ → ℕ → ℕ
root_in zero n = 0
root_in (suc d) n = let r = 2 * root_in d (n / 4) in cond (nat_le ((r + 1) * (r + 1)) n) (r + 1) r

-- √n cut to a whole number: n is below 2 ^ size n, and so below 4 ^ size n
unfoldable pub whole : ℕ → ℕ
unfolding root_in size
whole n = root_in (size n) n

-- The value of the format f that is nearest to √n, in units of f's smallest value 2 ^ -low. Of √n's whole part the format keeps the `prec` leading digits
-- and drops k, so the result is a multiple of 2 ^ k units: the q-th one, or the next where √n is past the middle (q + 1/2) * 2 ^ k of the two. Both sides
-- squared and times 4, that compares 4 * n with ((2 * q + 1) * 2 ^ k) ^ 2. It does with √n what `round` does with a fraction.
unfoldable pub root_rounded : Format → ℕ → Float
unfolding whole size units
root_rounded f n =
    let k = size (whole n) - prec f in
    let q = whole n / 2 ^ k in
    let middle = (2 * q + 1) * 2 ^ k in
    units f false (nearest q (compare (4 * n) (middle * middle))) k

-- x * 4 ^ low, for x = m * 2 ^ e: the whole number whose root is x's root in those units, for an x that the format f holds
abbrev pub scaled : Format → ℕ → ℤ → ℕ
scaled f m e = m * up e * (2 ^ low f * 2 ^ low f) / down e

-- The root of x. A zero is its own root, with its sign. What lies below zero has none, and a NaN gives a NaN.
unfoldable pub rooted : Format → Float → Float
unfolding root_rounded
rooted f nan = nan
rooted f (inf false) = inf false
rooted f (inf true) = nan
rooted f (fin s zero e) = fin s zero e
rooted f (fin true (suc m) e) = nan
rooted f (fin false (suc m) e) = root_rounded f (scaled f (suc m) e)

-- ---- narrowing: f64 to f32, to nearest even

-- the value of binary32 that is nearest to x
unfoldable pub narrowed : Float → Float
narrowed nan = nan
narrowed (inf s) = inf s
narrowed (fin s m e) = round binary32 s (m * up e) (down e)

-- ---- floor and ceiling of an f64

-- a whole number is its own; of any other the magnitude is cut to a whole number, and d is added
unfoldable pub stepped : ℕ → Bool → ℕ → ℤ → Float
stepped d s m e = cond (m * up e % down e == 0) (fin s m e) (round binary64 s (m * up e / down e + d) 1)

-- the greatest whole number that is not above x: below zero the magnitude grows
unfoldable pub floored : Float → Float
unfolding stepped
floored nan = nan
floored (inf s) = inf s
floored (fin s m e) = stepped (cond s 1 0) s m e

-- the least whole number that is not below x: above zero the magnitude grows
unfoldable pub ceiled : Float → Float
unfolding stepped
ceiled nan = nan
ceiled (inf s) = inf s
ceiled (fin s m e) = stepped (cond s 0 1) s m e

-- ---- clamp, sign, the lesser and the larger

-- lo where x is less than lo, else hi where hi is less than x, else x: so NaN stays NaN, and -0 stays -0
abbrev pub clamped : Float → Float → Float → Float
clamped x lo hi = cond (lt x lo) lo (cond (lt hi x) hi x)

-- 1 with the sign of x: +0 gives 1, -0 gives -1, NaN gives NaN
unfoldable pub signed : Float → Float
signed nan = nan
signed (inf s) = fin s 1 (pos 0)
signed (fin s m e) = fin s 1 (pos 0)

-- the lesser and the larger of two: a NaN gives the other, and of two equal ones, zeros too, the first stays
abbrev pub least : Float → Float → Float
least x y = cond (is_nan x || lt y x) y x

abbrev pub largest : Float → Float → Float
largest x y = cond (is_nan x || lt x y) y x

-- ---- the exponential of -x, for every f64 x: u = x/64; s = 1; for m = 8 down to 1, s becomes 1 - (u·s)/m; s is squared six times, and narrowed

-- s becomes 1 - (u·s)/m, for m from the number given down to 1
unfoldable pub series : Float → ℕ → Float → Float
series u zero s = s
series u (suc m) s = series u m (sub binary64 one64 (div binary64 (mul binary64 u s) (of_int binary64 (pos (suc m)))))

-- s squared k times
unfoldable pub squared : ℕ → Float → Float
squared zero s = s
squared (suc k) s = squared k (mul binary64 s s)

unfoldable pub exp_neg : Float → Float
exp_neg x = narrowed (squared 6 (series (div binary64 x sixty_four64) 8 one64))
