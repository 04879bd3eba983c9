-- IEEE 754-2019, to hold against its clauses 4.3.1 (roundTiesToEven), 5.4.1 (squareRoot) and 5.4.2 (convertFormat), datum by datum: NaN, infinities, zeros,
-- below zero, and the finite ones, subnormals among them. `ByTheStandard` proves that `rooted` and `narrowed` are these, and that nothing else is.
-- A unit is the format's smallest value, 2 ^ -low; every finite value of the format is a whole number of units. Definitions only; assumes nothing.
use Rattle.std.specs.Prelude.{◌≡◌, ℕ, zero, suc, ◌+◌, ◌-◌, ◌*◌, ◌%◌, ◌^◌, ◌<◌, Bool, true, false, T, ◌≢◌, to_bits, Float}
use Prim.Native.Nat.{compare, Ordering}
use Rattle.std.specs.Float.{nan, inf, fin, Format}
use Rattle.std.specs.Float.Ieee.{prec, emax, low, up, down, fits}
use Rattle.std.specs.Float.Ieee.Exact.{HasValue}

-- ---- the infinitely precise result, by its size E, which may be no fraction: `E a b` says how it compares with the fraction a / b

abbrev pub Size : Type 0
Size = ℕ → ℕ → Ordering

-- num / den
abbrev pub fraction : ℕ → ℕ → Size
fraction num den a b = compare (num * b) (a * den)

-- √(num / den): both sides are squared
abbrev pub root_of : ℕ → ℕ → Size
root_of num den a b = compare (num * (b * b)) (a * a * den)

-- ---- 4.3.1, roundTiesToEven

-- y is a value of the format f: finite, with the sign s, and Y units in size
abbrev pub Value : Format → Bool → Float → ℕ → Type 0
Value f s y Y = T (fits f y) × HasValue y s Y (2 ^ low f)

-- how E compares with the middle of R and Y units, (R + Y) / 2
abbrev pub at_middle : Format → Size → ℕ → ℕ → Ordering
at_middle f E R Y = E (R + Y) (2 * 2 ^ low f)

-- r is the value nearest to ±E: it has the sign s, and E is never beyond the middle of r and another value y of that sign, whether y is larger or smaller.
-- (One of the other sign is no nearer than a zero is.) Where E is the middle of the two, r's significand is even: its last digit is the pattern's lowest bit.
pub record TiesToEven (f : Format) (s : Bool) (E : Size) (r : Float) : Type 0 where
  pub R : ℕ
  pub value : Value f s r R
  pub larger : (y : Float) (Y : ℕ) → Value f s y Y → R < Y → at_middle f E R Y ≢ Ordering.gt
  pub smaller : (y : Float) (Y : ℕ) → Value f s y Y → Y < R → at_middle f E R Y ≢ Ordering.lt
  pub tie : (y : Float) (Y : ℕ) → Value f s y Y → (R ≢ Y) → at_middle f E R Y ≡ Ordering.eq → to_bits f r % 2 ≡ 0

-- 2 ^ emax * (2 - 1/2 * 2 ^ (1 - prec)): for binary32 2 ^ 128 - 2 ^ 103
abbrev pub limit : Format → ℕ
limit f = 2 ^ suc (emax f) - 2 ^ (emax f - prec f)

-- what is delivered for ±E: below the limit the nearest value, and from it on the infinity of its sign
pub record Rounded (f : Format) (s : Bool) (E : Size) (r : Float) : Type 0 where
  pub nearest : E (limit f) 1 ≡ Ordering.lt → TiesToEven f s E r
  pub overflow : (E (limit f) 1 ≢ Ordering.lt) → r ≡ inf s

-- ---- 5.4.1, squareRoot: r is the square root of x

abbrev pub SquareRootOf : Format → Float → Float → Type 0
SquareRootOf f nan r = r ≡ nan  -- 6.2: a NaN gives a NaN
SquareRootOf f (inf false) r = r ≡ inf false  -- 6.1: +∞ gives +∞
SquareRootOf f (inf true) r = r ≡ nan  -- 7.2: below zero there is none
SquareRootOf f (fin s zero e) r = r ≡ fin s zero e  -- 6.3: a zero gives itself, -0 too
SquareRootOf f (fin true (suc m) e) r = r ≡ nan  -- 7.2: below zero there is none
SquareRootOf f (fin false (suc m) e) r = Rounded f false (root_of (suc m * up e) (down e)) r  -- 5.4.1: √x, rounded

-- ---- 5.4.2, convertFormat: r is x in the format f

abbrev pub ConversionOf : Format → Float → Float → Type 0
ConversionOf f nan r = r ≡ nan  -- 6.2: a NaN gives a NaN
ConversionOf f (inf s) r = r ≡ inf s  -- 6.1: an infinity gives itself
ConversionOf f (fin s zero e) r = r ≡ fin s zero e  -- 6.3: a zero gives itself, -0 too
ConversionOf f (fin s (suc m) e) r = Rounded f s (fraction (suc m * up e) (down e)) r  -- 5.4.2: x, rounded
