-- The binary32 pattern of what an f64 narrows to, from the f64's pattern. m is that pattern without its sign, x = m / 2 ^ 52 its exponent's field and
-- t = m % 2 ^ 52 its digits. `round` keeps a number q of the 53 digits and drops the rest, 29 of them for a result in the normal range and more below
-- it, and the pattern is k * 2 ^ 23 + q (`packed`): also where q carries into the exponent, or the result is an infinity. Assumes nothing.
use Rattle.std.specs.Prelude.{◌≡◌, ℕ, suc, ◌+◌, ◌-◌, ◌*◌, ◌/◌, ◌%◌, ◌^◌, ◌<◌, ◌≤◌, Bool, true, false, cond, not, T, ◌≢◌, nat_le, to_bits, refl, Float}
use Rattle.std.proofs.Common.{sym, ap, ◌∙◌, subst, inl, inr, add_comm, le_trans, le_of_eq, lt_of_lt_of_le, lt_of_le_of_lt, eq-or-lt_of_le, mul_assoc, mul-le-mul_right, mul-lt-mul_of_pos_right, mul-pos, mod-lt, le-div_iff_mul-le, div-lt_iff_lt-mul, arith, leb→le, nltb→le, lit≤, pow-add, pow_pos, pow_mono, shl_lt}
use Rattle.std.proofs.lemmas.Bool.{false≢true}
use Prim.Native.Nat.{compare}
use Rattle.std.proofs.Math.Dec.{nleb→lt}
use Rattle.std.specs.Float.{nan, inf, fin, binary32, binary64}
use Rattle.std.specs.Float.Ieee.{size, units, round, div, eq, ne, fits, is_nan, of_fields, of_bits, nan_bits}
use Rattle.std.specs.Float.Ieee.Digits.{size-le}
use Rattle.std.specs.Float.Ieee.Fits.{round_is, nearest-le}
use Rattle.std.specs.Float.Ieee.Compare.{differs_from_itself}
use Rattle.std.specs.Float.Ieee.Bits.{to_bits-lt, of_bits-to_bits, nan_bits_is, nan_bits_above}
use Rattle.std.specs.Float.Ieee.Nearest.{closest, closest_same, nearest-ge}
use Rattle.numbers.specs.Arithmetic.{narrowed}
use Rattle.numbers.proofs.Laws.Binary.{pow_sums, size_gt, shift_twice}
use Rattle.numbers.proofs.Laws.Patterns.{of_bits_is, zero_field, suc_field, to_bits_inf, units_inf, packed}
use Rattle.numbers.proofs.Laws.NanTest.{nan_of}
use Rattle.numbers.proofs.Laws.NarrowKeeps.{narrowed_val, narrowed_fits, narrowed_nan}
use Rattle.numbers.proofs.Laws.ClosestAdd.{closest_past}

-- ---- how many digits `round` drops, and which number it keeps

round_to : (s : Bool) (n d q k : ℕ) → size (n * 2 ^ 149 / d) - 24 ≡ k → closest (n * 2 ^ 149) (d * 2 ^ k) ≡ q → round binary32 s n d ≡ units binary32 s q k
round_to s n d q k e f =
    round_is binary32 s n d
    ∙ ap (λ (x : ℕ). units binary32 s (closest (n * 2 ^ 149) (d * 2 ^ x)) x) e
    ∙ ap (λ (x : ℕ). units binary32 s x k) f

-- a value of 2 ^ -126 or more: 29 of an f64's 53 digits go
module _ (s : Bool) (a k : ℕ) (lo : 2 ^ 52 ≤ a) (hi : a < 2 ^ 53) where
  abbrev big : ℕ
  big = a * 2 ^ (896 + k) * 2 ^ 149

  big_is : big ≡ a * 2 ^ (1045 + k)
  big_is = shift_twice a (896 + k) 149 ∙ ap (λ (x : ℕ). a * 2 ^ x) (let z : 896 + k + 149 ≡ 1045 + k = omega arith in z)

  digits_ge : 23 + k < size (big / 2 ^ 1074)
  digits_ge =
      let e : 2 ^ (23 + k) * 2 ^ 1074 ≡ 2 ^ 52 * 2 ^ (1045 + k) = pow_sums (23 + k) 1074 52 (1045 + k) (omega arith) in
      size_gt (big / 2 ^ 1074) (23 + k)
      ((le-div_iff_mul-le (pow_pos 1074)).1 (le_trans (le_of_eq e) (le_trans (mul-le-mul_right (2 ^ (1045 + k)) lo) (le_of_eq (sym big_is)))))

  digits_le : size (big / 2 ^ 1074) ≤ 24 + k
  digits_le =
      let e : 2 ^ 53 * 2 ^ (1045 + k) ≡ 2 ^ (24 + k) * 2 ^ 1074 = pow_sums 53 (1045 + k) (24 + k) 1074 (omega arith) in
      size-le (big / 2 ^ 1074) (24 + k)
      ((div-lt_iff_lt-mul (pow_pos 1074)).1 (lt_of_le_of_lt (le_of_eq big_is) (lt_of_lt_of_le (mul-lt-mul_of_pos_right hi (pow_pos (1045 + k))) (le_of_eq e))))

  same : big * 2 ^ 29 ≡ a * (2 ^ 1074 * 2 ^ k)
  same = ap (λ (x : ℕ). x * 2 ^ 29) big_is ∙ mul_assoc a (2 ^ (1045 + k)) (2 ^ 29) ∙ ap (λ (x : ℕ). a * x) (pow_sums (1045 + k) 29 1074 k (omega arith))

  round_normal : round binary32 s (a * 2 ^ (896 + k)) (2 ^ 1074) ≡ units binary32 s (closest a (2 ^ 29)) k
  round_normal =
      round_to s (a * 2 ^ (896 + k)) (2 ^ 1074) (closest a (2 ^ 29)) k (count k (size (big / 2 ^ 1074)) digits_ge digits_le)
      (closest_same big (2 ^ 1074 * 2 ^ k) a (2 ^ 29) (mul-pos (pow_pos 1074) (pow_pos k)) (pow_pos 29) same)
    where
      count : (k z : ℕ) → 23 + k < z → z ≤ 24 + k → z - 24 ≡ k
      count k z a b = omega arith

  kept_normal : (2 ^ 23 ≤ closest a (2 ^ 29)) × (closest a (2 ^ 29) ≤ 2 ^ 24)
  kept_normal =
      let w = a / 2 ^ 29 in
      let o = compare (a % 2 ^ 29 * 2) (2 ^ 29) in
      (le_trans (let z : 2 ^ 23 ≤ w = omega arith in z) (nearest-ge w o), le_trans (nearest-le w o) (let z : suc w ≤ 2 ^ 24 = omega arith in z))

-- a value below 2 ^ -126: none of its whole units' digits goes
round_small : (s : Bool) (a j : ℕ) → a < 2 ^ 53 → j ≤ 895 → round binary32 s (a * 2 ^ j) (2 ^ 1074) ≡ units binary32 s (closest a (2 ^ (925 - j))) 0
round_small s a j hi J =
    let n = a * 2 ^ j * 2 ^ 149 in
    let is : n ≡ a * 2 ^ (j + 149) = shift_twice a j 149 in
    let room : 2 ^ (53 + (j + 149)) ≤ 2 ^ 23 * 2 ^ 1074 = le_trans (pow_mono {j = 23 + 1074} (let z : 53 + (j + 149) ≤ 23 + 1074 = omega arith in z)) (le_of_eq (pow-add 2 23 1074)) in
    let below : n < 2 ^ 23 * 2 ^ 1074 = lt_of_le_of_lt (le_of_eq is) (lt_of_lt_of_le (shl_lt 53 (j + 149) hi) room) in
    let h : size (n / 2 ^ 1074) ≤ 23 = size-le (n / 2 ^ 1074) 23 ((div-lt_iff_lt-mul (pow_pos 1074)).1 below) in
    let powers : 2 ^ (j + 149) * 2 ^ (925 - j) ≡ 2 ^ 1074 * 2 ^ 0 = pow_sums (j + 149) (925 - j) 1074 0 (omega arith) in
    let same : n * 2 ^ (925 - j) ≡ a * (2 ^ 1074 * 2 ^ 0) = ap (λ (x : ℕ). x * 2 ^ (925 - j)) is ∙ mul_assoc a (2 ^ (j + 149)) (2 ^ (925 - j)) ∙ ap (λ (x : ℕ). a * x) powers in
    round_to s (a * 2 ^ j) (2 ^ 1074) (closest a (2 ^ (925 - j))) 0 (count (size (n / 2 ^ 1074)) h)
    (closest_same n (2 ^ 1074 * 2 ^ 0) a (2 ^ (925 - j)) (mul-pos (pow_pos 1074) (pow_pos 0)) (pow_pos (925 - j)) same)
  where
    count : (z : ℕ) → z ≤ 23 → z - 24 ≡ 0
    count z h = omega arith

kept_small : (a i : ℕ) → a < 2 ^ 53 → 30 ≤ i → closest a (2 ^ i) ≤ 2 ^ 24
kept_small a i hi I =
    le_trans (nearest-le (a / 2 ^ i) (compare (a % 2 ^ i * 2) (2 ^ i)))
    ((div-lt_iff_lt-mul (pow_pos i)).1 (lt_of_lt_of_le hi (le_trans (pow_mono {i = 53} (let z : 53 ≤ 24 + i = omega arith in z)) (le_of_eq (pow-add 2 24 i)))))

-- ---- what each range of the exponent's field x gives

-- the pattern of the narrowed value
abbrev result : Bool → ℕ → ℕ → ℕ
result s x t = to_bits binary32 (narrowed (of_fields binary64 s x t))

abbrev sign : Bool → ℕ
sign s = cond s (2 ^ 31) 0

-- the two kinds of field as fractions
narrowed_zero : (s : Bool) (t : ℕ) → narrowed (of_fields binary64 s 0 t) ≡ round binary32 s (t * 2 ^ 0) (2 ^ 1074)
narrowed_zero s t = narrowed_val (of_fields binary64 s 0 t) s (t * 2 ^ 0) (2 ^ 1074) (pow_pos 1074) (zero_field binary64 s t)

narrowed_suc : (s : Bool) (j t : ℕ) → j < 2046 → narrowed (of_fields binary64 s (suc j) t) ≡ round binary32 s ((2 ^ 52 + t) * 2 ^ j) (2 ^ 1074)
narrowed_suc s j t h =
    narrowed_val (of_fields binary64 s (suc j) t) s ((2 ^ 52 + t) * 2 ^ j) (2 ^ 1074) (pow_pos 1074) (suc_field binary64 s j t (let z : suc j < 2047 = omega arith in z))

with_lead : (t : ℕ) → t < 2 ^ 52 → (2 ^ 52 ≤ 2 ^ 52 + t) × (2 ^ 52 + t < 2 ^ 53)
with_lead t h = (omega arith, omega arith)

-- where none of the whole units' digits goes, the pattern is q
plain : (s : Bool) (q : ℕ) → q ≤ 2 ^ 24 → to_bits binary32 (units binary32 s q 0) ≡ sign s + q
plain s q h = packed binary32 s q 0 h (λ (k : 0 < 0). absurd (let z : ⊥ = omega arith in z)) (lit≤ tt) ∙ (let z : sign s + (0 * 2 ^ 23 + q) ≡ sign s + q = omega arith in z)

at_zero : (s : Bool) (t : ℕ) → t < 2 ^ 52 → result s 0 t ≡ sign s + closest t (2 ^ 925)
at_zero s t h =
    let l : t < 2 ^ 53 = omega arith in
    ap (to_bits binary32) (narrowed_zero s t ∙ round_small s t 0 l (lit≤ tt)) ∙ plain s (closest t (2 ^ 925)) (kept_small t 925 l (lit≤ tt))

at_small : (s : Bool) (j t : ℕ) → t < 2 ^ 52 → j ≤ 895 → result s (suc j) t ≡ sign s + closest (2 ^ 52 + t) (2 ^ (925 - j))
at_small s j t h J =
    let a = 2 ^ 52 + t in
    let l = (with_lead t h).1 in
    ap (to_bits binary32) (narrowed_suc s j t (let z : j < 2046 = omega arith in z) ∙ round_small s a j l J)
    ∙ plain s (closest a (2 ^ (925 - j))) (kept_small a (925 - j) l (let z : 30 ≤ 925 - j = omega arith in z))

at_normal : (s : Bool) (k t : ℕ) → t < 2 ^ 52 → k ≤ 253 → result s (suc (896 + k)) t ≡ sign s + (k * 2 ^ 23 + closest (2 ^ 52 + t) (2 ^ 29))
at_normal s k t h K =
    let a = 2 ^ 52 + t in
    let l = with_lead t h in
    let z = kept_normal s a k l.0 l.1 in
    ap (to_bits binary32) (narrowed_suc s (896 + k) t (let z : 896 + k < 2046 = omega arith in z) ∙ round_normal s a k l.0 l.1)
    ∙ packed binary32 s (closest a (2 ^ 29)) k z.1 (λ _. z.0) (let z : k + 1 < 255 = omega arith in z)

at_large : (s : Bool) (k t : ℕ) → t < 2 ^ 52 → 254 ≤ k → 896 + k < 2046 → result s (suc (896 + k)) t ≡ sign s + 255 * 2 ^ 23
at_large s k t h K F =
    let a = 2 ^ 52 + t in
    let l = with_lead t h in
    let z = kept_normal s a k l.0 l.1 in
    let far : 2 ^ 277 ≤ 2 ^ 23 * 2 ^ k = le_trans (pow_mono {i = 277} (let z : 277 ≤ 23 + k = omega arith in z)) (le_of_eq (pow-add 2 23 k)) in
    let room : 2 ^ 277 ≤ closest a (2 ^ 29) * 2 ^ k = le_trans far (mul-le-mul_right (2 ^ k) z.0) in
    ap (to_bits binary32) (narrowed_suc s (896 + k) t F ∙ round_normal s a k l.0 l.1 ∙ units_inf binary32 s (closest a (2 ^ 29)) k room) ∙ to_bits_inf binary32 s

at_inf : (s : Bool) → result s 2047 0 ≡ sign s + 255 * 2 ^ 23
unfolding of_fields narrowed
at_inf s = to_bits_inf binary32 s

-- ---- the same by m, as the functions compute it: r is the magnitude of the pattern

digits_in : (m : ℕ) → m % 2 ^ 52 < 2 ^ 52
digits_in m = mod-lt m (pow_pos 52)

pub small_zero : (m r : ℕ) (s : Bool) → m / 2 ^ 52 ≡ 0 → r ≡ closest (m % 2 ^ 52) (2 ^ 925) → result s (m / 2 ^ 52) (m % 2 ^ 52) ≡ sign s + r
small_zero m r s e h = ap (λ (x : ℕ). result s x (m % 2 ^ 52)) e ∙ at_zero s (m % 2 ^ 52) (digits_in m) ∙ ap (λ (x : ℕ). sign s + x) (sym h)

pub small_field : (m r : ℕ) (s : Bool) → (m / 2 ^ 52 ≢ 0) → m < 897 * 2 ^ 52
    → r ≡ closest (m % 2 ^ 52 + 2 ^ 52) (2 ^ (926 - m / 2 ^ 52)) → result s (m / 2 ^ 52) (m % 2 ^ 52) ≡ sign s + r
small_field m r s n l h =
    let t = m % 2 ^ 52 in
    let j = m / 2 ^ 52 - 1 in
    let is : r ≡ closest (2 ^ 52 + t) (2 ^ (925 - j)) = h ∙ (λ i. closest (add_comm t (2 ^ 52) i) (2 ^ by m n i)) in
    ap (λ (x : ℕ). result s x t) (pred m n) ∙ at_small s j t (digits_in m) (low m l) ∙ ap (λ (x : ℕ). sign s + x) (sym is)
  where
    pred : (m : ℕ) → (m / 2 ^ 52 ≢ 0) → m / 2 ^ 52 ≡ suc (m / 2 ^ 52 - 1)
    pred m n = omega arith

    low : (m : ℕ) → m < 897 * 2 ^ 52 → m / 2 ^ 52 - 1 ≤ 895
    low m h = omega arith

    by : (m : ℕ) → (m / 2 ^ 52 ≢ 0) → 926 - m / 2 ^ 52 ≡ 925 - (m / 2 ^ 52 - 1)
    by m n = omega arith

above : (m : ℕ) → 897 * 2 ^ 52 ≤ m → m / 2 ^ 52 ≡ suc (896 + (m / 2 ^ 52 - 897))
above m h = omega arith

pub magnitude_normal : (m r : ℕ) (s : Bool) → 897 * 2 ^ 52 ≤ m → m < 1151 * 2 ^ 52 → r ≡ closest (m - 896 * 2 ^ 52) (2 ^ 29) → result s (m / 2 ^ 52) (m % 2 ^ 52) ≡ sign s + r
magnitude_normal m r s lo hi h =
    let t = m % 2 ^ 52 in
    let k = m / 2 ^ 52 - 897 in
    ap (λ (x : ℕ). result s x t) (above m lo)
    ∙ at_normal s k t (digits_in m) (high m hi)
    ∙ ap (λ (x : ℕ). sign s + x) (sym (h ∙ ap (λ (x : ℕ). closest x (2 ^ 29)) (split m lo) ∙ closest_past k (2 ^ 52 + t)))
  where
    high : (m : ℕ) → m < 1151 * 2 ^ 52 → m / 2 ^ 52 - 897 ≤ 253
    high m h = omega arith

    split : (m : ℕ) → 897 * 2 ^ 52 ≤ m → m - 896 * 2 ^ 52 ≡ (m / 2 ^ 52 - 897) * 2 ^ 52 + (2 ^ 52 + m % 2 ^ 52)
    split m h = omega arith

pub magnitude_large : (m : ℕ) (s : Bool) → 1151 * 2 ^ 52 ≤ m → m ≤ 2047 * 2 ^ 52 → result s (m / 2 ^ 52) (m % 2 ^ 52) ≡ sign s + 255 * 2 ^ 23
magnitude_large m s lo hi = elim (eq-or-lt_of_le hi) [
  | inl e ↦ ap (λ (x : ℕ). result s (x / 2 ^ 52) (x % 2 ^ 52)) e ∙ at_inf s
  | inr l ↦ ap (λ (x : ℕ). result s x (m % 2 ^ 52)) (above m (le_trans (lit≤ tt) lo)) ∙ at_large s (m / 2 ^ 52 - 897) (m % 2 ^ 52) (digits_in m) (big m lo) (far m lo l)
]
  where
    big : (m : ℕ) → 1151 * 2 ^ 52 ≤ m → 254 ≤ m / 2 ^ 52 - 897
    big m h = omega arith

    far : (m : ℕ) → 1151 * 2 ^ 52 ≤ m → m < 2047 * 2 ^ 52 → 896 + (m / 2 ^ 52 - 897) < 2046
    far m h k = omega arith

-- ---- with the sign put back: x is an f64 that is no NaN, b its pattern, and r what the functions make of its magnitude, whichever its sign
module _ (x : Float) (F : T (fits binary64 x)) (N : is_nan x ≡ false) where
  abbrev b : ℕ
  b = to_bits binary64 x

  pub bits_lt : b < 2 ^ 64
  bits_lt = to_bits-lt binary64 x F

  pub under_nan : b % 2 ^ 63 ≤ 2047 * 2 ^ 52
  under_nan =
      nltb→le (2047 * 2 ^ 52) (b % 2 ^ 63)
      (subst (λ (c : Bool). T (not c)) (sym (sym (nan_bits_above binary64 b) ∙ nan_bits_is binary64 b ∙ ap is_nan (of_bits-to_bits binary64 x F) ∙ N)) tt)

  sign_is : (c : Bool) (b : ℕ) → (T c → 2 ^ 63 ≤ b) → (T (not c) → b < 2 ^ 63) → b < 2 ^ 64 → sign c ≡ b / 2 ^ 63 * 2 ^ 31
  sign_is true b h k l = let g : 2 ^ 63 ≤ b = h tt in omega arith
  sign_is false b h k l = let g : b < 2 ^ 63 = k tt in omega arith

  digits_again : (b : ℕ) → b % 2 ^ 63 % 2 ^ 52 ≡ b % 2 ^ 52
  digits_again b = omega arith

  module _ (r : ℕ) (h : (s : Bool) → result s (b % 2 ^ 63 / 2 ^ 52) (b % 2 ^ 63 % 2 ^ 52) ≡ sign s + r) where
    abbrev p : ℕ
    p = b / 2 ^ 63 * 2 ^ 31 + r

    pattern_is : to_bits binary32 (narrowed x) ≡ p
    pattern_is =
        let s = nat_le (2 ^ 63) b in
        ap (λ (v : Float). to_bits binary32 (narrowed v)) (sym (of_bits-to_bits binary64 x F) ∙ of_bits_is binary64 b)
        ∙ ap (λ (t : ℕ). result s (b % 2 ^ 63 / 2 ^ 52) t) (sym (digits_again b))
        ∙ h s
        ∙ ap (λ (a : ℕ). a + r) (sign_is s b (leb→le (2 ^ 63) b) (nleb→lt (2 ^ 63) b) bits_lt)

    pub fits_32 : p < 2 ^ 32
    fits_32 = subst (λ (a : ℕ). a < 2 ^ 32) pattern_is (to_bits-lt binary32 (narrowed x) (narrowed_fits x))

    pub narrowed_is : of_bits binary32 p ≡ narrowed x
    narrowed_is = ap (of_bits binary32) (sym pattern_is) ∙ of_bits-to_bits binary32 (narrowed x) (narrowed_fits x)

    pub narrowed_no_nan : T (not (nan_bits binary32 p))
    narrowed_no_nan = subst (λ (c : Bool). T (not c)) (sym (nan_bits_is binary32 p ∙ ap is_nan narrowed_is ∙ narrowed_nan x ∙ N)) tt

-- ---- the test for a NaN, and what a NaN gives

pub not_nan : (x : Float) → eq x x ≡ true → is_nan x ≡ false
unfolding eq is_nan
not_nan nan h = absurd (false≢true h)
not_nan (inf s) h = refl
not_nan (fin s m e) h = refl

pub nan_narrows : (x : Float) → eq x x ≡ false → div binary32 (of_bits binary32 0) (of_bits binary32 0) ≡ narrowed x
unfolding ne narrowed div of_bits
nan_narrows x h = sym (ap narrowed (differs_from_itself x (subst (λ (b : Bool). T (not b)) (sym h) tt)))

pub narrows_nan : (x : Float) → is_nan x ≡ true → div binary32 (of_bits binary32 0) (of_bits binary32 0) ≡ narrowed x
unfolding narrowed div of_bits
narrows_nan x h = sym (ap narrowed (nan_of x h))
