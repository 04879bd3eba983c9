-- A bit pattern and its value, in either format: the value that a pattern's fields stand for (`value`), and the pattern of q * 2 ^ k of the format's
-- smallest values (`packed`). So two values of a format that have one sign and one size are the same (`same_value`). Assumes nothing.
use Rattle.std.specs.Prelude.{◌≡◌, ℕ, zero, suc, ◌+◌, ◌-◌, ◌*◌, ◌/◌, ◌%◌, ◌^◌, ◌<◌, ◌≤◌, Bool, true, false, cond, not, T, leb, ◌⊎◌, ◌==◌, nat_le, nat_lt, refl, Float}
use Rattle.std.proofs.Common.{sym, ap, ◌∙◌, subst, inl, inr, le_refl, le_trans, le_of_eq, le_of_lt, lt_irrefl, lt_of_lt_of_le, lt_of_le_of_lt, not-le_of_lt, eq-zero-or-pos, eq-or-lt_of_le, zero-add, add_assoc, mul_comm, mul-one, suc-mul, zero-mul, mul-le-mul_right, mul-div_cancel, div-add-mod', div-lt_iff_lt-mul, mod-eq_of_lt, arith, ltb→lt, nltb→le, leb→le, eqb→eq, pow-add, pow_pos, pow_mono, shl_lt}
use Rattle.std.proofs.Math.Dec.{not_T}
use Rattle.std.proofs.Math.Arith.{lt→nleb}
use Rattle.std.proofs.Math.Pow.{pow-lt}
use Rattle.std.proofs.lemmas.Nat.{shl-shr}
use Rattle.std.specs.Float.{nan, inf, fin, Format}
use Rattle.std.specs.Float.Ieee.{prec, emax, low, down, size, odd, units, fits, hid, ones, top, of_fields, of_bits, nan_bits, to_bits}
use Rattle.std.specs.Float.Ieee.Digits.{size-le}
use Rattle.std.specs.Float.Ieee.Fits.{two, two-le_pos, odd-fits, inf-fits, down_pos}
use Rattle.std.specs.Float.Ieee.Bits.{is_false, cond_no, of_bits-to_bits, nan_bits_above}
use Rattle.std.specs.Float.Ieee.Exact.{HasValue, odd_sign, units_val}
use Rattle.numbers.proofs.Laws.Binary.{double, size_gt}
use Rattle.numbers.specs.Laws.Patterns.{expo, sig, pattern}

-- ---- reading: the fields of a pattern

pub of_bits_is : (f : Format) (b : ℕ) → of_bits f b ≡ of_fields f (nat_le (top f) b) (b % top f / hid f) (b % hid f)
unfolding of_bits
of_bits_is f b = refl

-- the exponent's field is 0, or it is j + 1 and not all ones
pub zero_field : (f : Format) (s : Bool) (t : ℕ) → HasValue (of_fields f s 0 t) s (t * 2 ^ 0) (2 ^ low f)
unfolding of_fields
zero_field f s t = odd_sign (prec f) s t 0 (low f)

pub suc_field : (f : Format) (s : Bool) (j t : ℕ) → suc j < ones f → HasValue (of_fields f s (suc j) t) s ((hid f + t) * 2 ^ j) (2 ^ low f)
unfolding of_fields
suc_field f s j t h =
    let v = odd (prec f) s (hid f + t) j (low f) in
    subst (λ (w : Float). HasValue w s ((hid f + t) * 2 ^ j) (2 ^ low f)) (sym (cond_no (suc j == ones f) (cond (t == 0) (inf s) nan) v (not_T (suc j == ones f) below)))
    (odd_sign (prec f) s (hid f + t) j (low f))
  where
    below : T (suc j == ones f) → ⊥
    below u = lt_irrefl (ones f) (subst (λ (y : ℕ). y < ones f) (eqb→eq (suc j) (ones f) u) h)

fields_value : (f : Format) (x t b : ℕ) → x * hid f + t ≡ b → x < ones f → HasValue (of_fields f false x t) false ((b - (x - 1) * hid f) * 2 ^ (x - 1)) (2 ^ low f)
fields_value f zero t b e X =
    let z : 0 * hid f ≡ 0 = zero-mul (hid f) in
    let w : t ≡ b - 0 * hid f = omega arith in
    subst (λ (y : ℕ). HasValue (of_fields f false 0 t) false (y * 2 ^ 0) (2 ^ low f)) w (zero_field f false t)
fields_value f (suc x) t b e X =
    let z : suc x * hid f ≡ x * hid f + hid f = suc-mul x (hid f) in
    let w : hid f + t ≡ b - x * hid f = omega arith in
    subst (λ (y : ℕ). HasValue (of_fields f false (suc x) t) false ((b - y * hid f) * 2 ^ y) (2 ^ low f)) (let i : x ≡ suc x - 1 = omega arith in i)
    (subst (λ (y : ℕ). HasValue (of_fields f false (suc x) t) false (y * 2 ^ x) (2 ^ low f)) w (suc_field f false x t X))

-- a pattern below the infinity's has no sign
pub under_top : (f : Format) (b : ℕ) → b < ones f * hid f → b < top f
under_top f b h =
    let a : hid f * suc (ones f) ≡ suc (ones f) * hid f = mul_comm (hid f) (suc (ones f)) in
    let c : suc (ones f) * hid f ≡ ones f * hid f + hid f = suc-mul (ones f) (hid f) in
    omega arith

pub unsigned : (f : Format) (b : ℕ) → b < top f → of_bits f b ≡ of_fields f false (b / hid f) (b % hid f)
unsigned f b h =
    let s : leb (top f) b ≡ false = is_false (nat_le (top f) b) (not_T (nat_le (top f) b) (λ (u : T (nat_le (top f) b)). not-le_of_lt h (leb→le (top f) b u))) in
    of_bits_is f b ∙ ap (λ (y : Bool). of_fields f y (b % top f / hid f) (b % hid f)) s ∙ ap (λ (y : ℕ). of_fields f false (y / hid f) (b % hid f)) (mod-eq_of_lt h)

pub value : (f : Format) (b : ℕ) → b < ones f * hid f → HasValue (of_bits f b) false (sig (prec f) b * 2 ^ expo (prec f) b) (2 ^ low f)
value f b h =
    subst (λ (v : Float). HasValue v false (sig (prec f) b * 2 ^ expo (prec f) b) (2 ^ low f)) (sym (unsigned f b (under_top f b h)))
    (fields_value f (b / hid f) (b % hid f) b (div-add-mod' b (hid f)) ((div-lt_iff_lt-mul (pow_pos (prec f - 1))).1 h))

-- it is no NaN's
pub no_nan : (f : Format) (n : ℕ) → n < ones f * hid f → T (not (nan_bits f n))
no_nan f n h = subst (λ (y : Bool). T (not y)) (sym (nan_bits_above f n)) (not_T (nat_lt (ones f * hid f) (n % top f)) clash)
  where
    clash : T (nat_lt (ones f * hid f) (n % top f)) → ⊥
    clash u = lt_irrefl n (lt_of_lt_of_le h (le_trans (le_of_lt (ltb→lt (ones f * hid f) (n % top f) u)) (le_of_eq (mod-eq_of_lt (under_top f n h)))))

-- ---- writing: the pattern of n units of the smallest value

pub to_bits_val : (f : Format) (v : Float) (s : Bool) (n : ℕ) → HasValue v s n (2 ^ low f)
    → to_bits f v ≡ cond s (top f) 0 + (size n - prec f) * hid f + n / 2 ^ (size n - prec f)
unfolding to_bits
to_bits_val f nan s n h = absurd h
to_bits_val f (inf t) s n h = absurd h
to_bits_val f (fin t m e) s n h =
    ap (λ (x : ℕ). cond t (top f) 0 + (size x - prec f) * hid f + x / 2 ^ (size x - prec f)) (ap (λ (x : ℕ). x / down e) h.1 ∙ mul-div_cancel n (down_pos e))
    ∙ ap (λ (b : Bool). cond b (top f) 0 + (size n - prec f) * hid f + n / 2 ^ (size n - prec f)) h.0

pub same_value : (f : Format) (v w : Float) (s : Bool) (n : ℕ) → T (fits f v) → T (fits f w) → HasValue v s n (2 ^ low f) → HasValue w s n (2 ^ low f) → v ≡ w
same_value f v w s n F G h k = sym (of_bits-to_bits f v F) ∙ ap (of_bits f) (to_bits_val f v s n h ∙ sym (to_bits_val f w s n k)) ∙ of_bits-to_bits f w G

-- ---- writing q * 2 ^ k units, where q has at most prec digits, and all of them where k is not 0

-- how many digits q * 2 ^ k has, in a format of p digits
dropped : (p q k : ℕ) → 0 < p → 2 ^ (p - 1) ≤ q → q < 2 ^ p → size (q * 2 ^ k) - p ≡ k
dropped p q k P lo hi =
    let a : p - 1 + k < size (q * 2 ^ k) = size_gt (q * 2 ^ k) (p - 1 + k) (le_trans (le_of_eq (pow-add 2 (p - 1) k)) (mul-le-mul_right (2 ^ k) lo)) in
    let b : size (q * 2 ^ k) ≤ p + k = size-le (q * 2 ^ k) (p + k) (shl_lt p k hi) in
    omega arith

none_dropped : (p q : ℕ) → q < 2 ^ p → size (q * 2 ^ 0) - p ≡ 0
none_dropped p q h = let b : size (q * 2 ^ 0) ≤ p = size-le (q * 2 ^ 0) p (subst (λ (x : ℕ). x < 2 ^ p) (sym (mul-one q)) h) in omega arith

by_parts : (f : Format) (v : Float) (s : Bool) (q k : ℕ) → size (q * 2 ^ k) - prec f ≡ k → HasValue v s (q * 2 ^ k) (2 ^ low f) → to_bits f v ≡ pattern f s k q
by_parts f v s q k d h =
    to_bits_val f v s (q * 2 ^ k) h
    ∙ ap (λ (x : ℕ). cond s (top f) 0 + x * hid f + q * 2 ^ k / 2 ^ x) d
    ∙ ap (λ (x : ℕ). cond s (top f) 0 + k * hid f + x) (shl-shr q k)
    ∙ add_assoc (cond s (top f) 0) (k * hid f) q

-- 2 ^ p with k zeros is 2 ^ (p - 1) with one more
carried : (p k : ℕ) → 0 < p → 2 ^ p * 2 ^ k ≡ 2 ^ (p - 1) * 2 ^ suc k
carried p k P = sym (pow-add 2 p k) ∙ ap (λ (x : ℕ). 2 ^ x) (let z : p + k ≡ p - 1 + suc k = omega arith in z) ∙ pow-add 2 (p - 1) (suc k)

pub bits_of : (f : Format) (v : Float) (s : Bool) (q k : ℕ) → q ≤ 2 ^ prec f → (0 < k → hid f ≤ q) → HasValue v s (q * 2 ^ k) (2 ^ low f) → to_bits f v ≡ pattern f s k q
bits_of f v s q k hi lo h = go (eq-or-lt_of_le hi) (eq-zero-or-pos k)
  where
    P : 0 < prec f
    P = two-le_pos (prec f) (two f)

    hid_lt : hid f < 2 ^ prec f
    hid_lt = pow-lt (let p = P in let z : prec f - 1 < prec f = omega arith in z)

    roll : suc k * hid f + hid f ≡ k * hid f + 2 ^ prec f
    roll = let d = double (prec f) P in let e = suc-mul k (hid f) in omega arith

    go : (q ≡ 2 ^ prec f) ⊎ (q < 2 ^ prec f) → (k ≡ 0) ⊎ (0 < k) → to_bits f v ≡ pattern f s k q
    go (inl e) z =
        by_parts f v s (hid f) (suc k) (dropped (prec f) (hid f) (suc k) P (le_refl (hid f)) hid_lt)
        (subst (λ (n : ℕ). HasValue v s n (2 ^ low f)) (ap (λ (x : ℕ). x * 2 ^ k) e ∙ carried (prec f) k P) h)
        ∙ ap (λ (x : ℕ). cond s (top f) 0 + x) (roll ∙ ap (λ (x : ℕ). k * hid f + x) (sym e))
    go (inr l) (inr z) = by_parts f v s q k (dropped (prec f) q k P (lo z) l) h
    go (inr l) (inl z) =
        by_parts f v s q 0 (none_dropped (prec f) q l) (subst (λ (n : ℕ). HasValue v s (q * 2 ^ n) (2 ^ low f)) z h) ∙ ap (λ (x : ℕ). pattern f s x q) (sym z)

pub to_bits_inf : (f : Format) (s : Bool) → to_bits f (inf s) ≡ cond s (top f) 0 + ones f * hid f
unfolding to_bits
to_bits_inf f s = refl

pub units_inf : (f : Format) (s : Bool) (q k : ℕ) → 2 ^ (low f + suc (emax f)) ≤ q * 2 ^ k → units f s q k ≡ inf s
unfolding units
units_inf f s q k h =
    cond_no (nat_lt (q * 2 ^ k) (2 ^ (low f + suc (emax f)))) (odd (suc (prec f)) s q k (low f)) (inf s)
    (lt→nleb (suc (q * 2 ^ k)) (2 ^ (low f + suc (emax f))) (let z : 2 ^ (low f + suc (emax f)) < suc (q * 2 ^ k) = omega arith in z))

pub units_fits : (f : Format) (s : Bool) (q k : ℕ) → q ≤ 2 ^ prec f → T (fits f (units f s q k))
unfolding units
units_fits f s q k a = go (nat_lt (q * 2 ^ k) (2 ^ (low f + suc (emax f)))) (ltb→lt (q * 2 ^ k) (2 ^ (low f + suc (emax f))))
  where
    go : (b : Bool) → (T b → q * 2 ^ k < 2 ^ (low f + suc (emax f))) → T (fits f (cond b (odd (suc (prec f)) s q k (low f)) (inf s)))
    go true h = odd-fits f (suc (prec f)) s q k (lt_of_le_of_lt a (pow-lt (le_refl (suc (prec f))))) a (h tt)
    go false h = inf-fits f s

-- only 2 ^ p with the most zeros reaches the infinity
full : (p e q k : ℕ) → 2 ≤ p → q ≤ 2 ^ p → k + 1 < 2 * e + 1 → 2 ^ (e + p - 2 + suc e) ≤ q * 2 ^ k → (q ≡ 2 ^ p) × (k + 1 ≡ 2 * e)
full p e q k P hi K h = elim (eq-or-lt_of_le hi) [
  | inr l ↦ absurd (short p l (let z : p + k ≤ e + p - 2 + suc e = omega arith in z))
  | inl i ↦ elim (eq-or-lt_of_le (let z : k + 1 ≤ 2 * e = omega arith in z)) [
    | inl j ↦ (i, j)
    | inr g ↦ absurd (short (suc p) (lt_of_le_of_lt hi (pow-lt (le_refl (suc p)))) (let z : suc p + k ≤ e + p - 2 + suc e = omega arith in z))
  ]
]
  where
    short : (d : ℕ) → q < 2 ^ d → d + k ≤ e + p - 2 + suc e → ⊥
    short d l r = not-le_of_lt (lt_of_lt_of_le (shl_lt d k l) (pow_mono r)) h

-- also where a carry makes it an infinity
pub packed : (f : Format) (s : Bool) (q k : ℕ) → q ≤ 2 ^ prec f → (0 < k → hid f ≤ q) → k + 1 < ones f → to_bits f (units f s q k) ≡ pattern f s k q
packed f s q k hi lo K =
    go (nat_lt (q * 2 ^ k) (2 ^ (low f + suc (emax f)))) (ltb→lt (q * 2 ^ k) (2 ^ (low f + suc (emax f)))) (nltb→le (q * 2 ^ k) (2 ^ (low f + suc (emax f))))
  where
    last : (q ≡ 2 ^ prec f) × (k + 1 ≡ 2 * emax f) → ones f * hid f ≡ k * hid f + q
    last z =
        let d : 2 ^ prec f ≡ 2 * hid f = double (prec f) (two-le_pos (prec f) (two f)) in
        let a = z.0 in
        let b = suc-mul k (hid f) in
        let c = suc-mul (suc k) (hid f) in
        ap (λ (x : ℕ). x * hid f) (let e = z.1 in let y : ones f ≡ suc (suc k) = omega arith in y) ∙ (let y : suc (suc k) * hid f ≡ k * hid f + q = omega arith in y)

    go : (b : Bool) → (T b → q * 2 ^ k < 2 ^ (low f + suc (emax f))) → (T (not b) → 2 ^ (low f + suc (emax f)) ≤ q * 2 ^ k) → to_bits f (units f s q k) ≡ pattern f s k q
    go true x y = bits_of f (units f s q k) s q k hi lo (units_val f s q k (x tt))
    go false x y =
        ap (to_bits f) (units_inf f s q k (y tt)) ∙ to_bits_inf f s ∙ ap (λ (x : ℕ). cond s (top f) 0 + x) (last (full (prec f) (emax f) q k (two f) hi K (y tt)))

-- ---- so a pattern made of a q of prec digits is read as that value, and it lies below the infinity's

pub written : (f : Format) (q k : ℕ) → hid f ≤ q → q < 2 ^ prec f → k + 1 < ones f → of_bits f (k * hid f + q) ≡ units f false q k
written f q k lo hi K =
    ap (of_bits f) (sym (packed f false q k (le_of_lt hi) (λ _. lo) K ∙ zero-add (k * hid f + q))) ∙ of_bits-to_bits f (units f false q k) (units_fits f false q k (le_of_lt hi))

pub written_lt : (f : Format) (q k : ℕ) → q < 2 ^ prec f → k + 1 < ones f → k * hid f + q < ones f * hid f
written_lt f q k hi K =
    let d : 2 ^ prec f ≡ 2 * hid f = double (prec f) (two-le_pos (prec f) (two f)) in
    let a : suc (suc k) * hid f ≤ ones f * hid f = mul-le-mul_right (hid f) (let x : suc (suc k) ≤ ones f = omega arith in x) in
    let b = suc-mul (suc k) (hid f) in
    let c = suc-mul k (hid f) in
    omega arith
