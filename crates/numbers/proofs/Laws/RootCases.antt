-- The four cases of a root, by the comparisons of x with 0 and with the infinity, once for both formats: x is finite and above zero, the infinity, a
-- zero, or none of these; the root is known in the last three. In the first, the pattern of x lies between 0 and the infinity's (`pattern_of`). Assumes
-- nothing.
use Rattle.std.specs.Prelude.{◌≡◌, ℕ, zero, suc, ◌+◌, ◌-◌, ◌*◌, ◌/◌, ◌%◌, ◌<◌, Bool, true, false, cond, not, ◌&&◌, ◌||◌, T, ◌⊎◌, ℤ, pos, ◌==◌, ◌≢◌, nat_le, to_bits, refl, Float}
use Rattle.std.proofs.Common.{sym, ◌∙◌, subst, inl, inr, true≢false, lt_irrefl, le_of_suc-le-suc, zero-mul, mul_comm, mul-one, mul-pos, eq-zero-or-pos, zero-lt-suc, div-lt_iff_lt-mul, arith, ltb-true, ltb-false, lt→ltb, eqb→eq, pow_pos}
use Rattle.std.specs.Bool.{beq}
use Rattle.std.proofs.Math.Dec.{nleb→lt}
use Rattle.std.proofs.Math.Arith.{lt_of_le-ne}
use Rattle.std.specs.Float.{nan, inf, fin, Format, binary32, binary64}
use Rattle.std.specs.Float.Ieee.{prec, low, up, down, lt, eq, odd, fits, is_nan, hid, ones, top, of_fields, of_bits}
use Rattle.std.specs.Float.Ieee.Fits.{up_pos, and_l, eq→eqb}
use Rattle.std.specs.Float.Ieee.Bits.{of_bits-to_bits}
use Rattle.std.specs.Float.Ieee.Positive.{positive}
use Rattle.numbers.specs.Arithmetic.{rooted}
use Rattle.numbers.proofs.Laws.Patterns.{of_bits_is, unsigned}

-- ---- 0 < x < infinity, and infinity ≤ x

pub positive_of : (x : Float) → lt (fin false 0 (pos 0)) x ≡ true → lt x (inf false) ≡ true → T (positive x)
unfolding lt
positive_of nan h k = absurd (true≢false (sym h))
positive_of (inf true) h k = absurd (true≢false (sym h))
positive_of (inf false) h k = absurd (true≢false (sym k))
positive_of (fin true m e) h k = absurd (true≢false (sym h))
positive_of (fin false zero e) h k = absurd (let z : ⊥ = omega (arith, ltb-true (0 * 1 * down e) (0 * up e * 1) h) in z)
positive_of (fin false (suc m) e) h k = lt→ltb 0 (suc m) (zero-lt-suc m)

pub infinite_of : (f : Format) (x : Float) → lt (fin false 0 (pos 0)) x ≡ true → lt x (inf false) ≡ false → x ≡ rooted f x
unfolding lt rooted
infinite_of f nan h k = absurd (true≢false (sym h))
infinite_of f (inf true) h k = absurd (true≢false (sym h))
infinite_of f (inf false) h k = refl
infinite_of f (fin true m e) h k = absurd (true≢false (sym h))
infinite_of f (fin false m e) h k = absurd (true≢false k)

-- ---- x = 0, and neither: below zero, or a NaN

not_zero : (m : ℕ) (e : ℤ) → suc m * up e * 1 ≢ 0
not_zero m e h = lt_irrefl 0 (subst (λ (y : ℕ). 0 < y) (sym (mul-one (suc m * up e)) ∙ h) (mul-pos (zero-lt-suc m) (up_pos e)))

pub zero_of : (f : Format) (x : Float) → eq x (fin false 0 (pos 0)) ≡ true → x ≡ rooted f x
unfolding eq rooted
zero_of f nan h = absurd (true≢false (sym h))
zero_of f (inf s) h = absurd (true≢false (sym h))
zero_of f (fin s zero e) h = refl
zero_of f (fin s (suc m) e) h =
    let a = suc m * up e * 1 in
    let same : a ≡ 0 * down e = eqb→eq a (0 * down e) (and_l (a == 0 * down e) (beq s false || a == 0) (subst T (sym h) tt)) in
    absurd (not_zero m e (same ∙ zero-mul (down e)))

-- two zeros are equal, whatever the sign
zeros_level : (s : Bool) (a b : ℕ) → a ≡ 0 → b ≡ 0 → (a == b && (beq s false || a == 0)) ≢ false
zeros_level s a b p q h =
    go s (subst (λ (y : ℕ). (0 == y && (beq s false || 0 == 0)) ≡ false) q (subst (λ (y : ℕ). (y == b && (beq s false || y == 0)) ≡ false) p h))
  where
    go : (s : Bool) → (0 == 0 && (beq s false || 0 == 0)) ≢ false
    go true h = true≢false h
    go false h = true≢false h

pub other_of : (f : Format) (x : Float) → lt (fin false 0 (pos 0)) x ≡ false → eq x (fin false 0 (pos 0)) ≡ false → nan ≡ rooted f x
unfolding lt eq rooted
other_of f nan h k = refl
other_of f (inf true) h k = refl
other_of f (inf false) h k = absurd (true≢false h)
other_of f (fin s zero e) h k = absurd (zeros_level s (0 * up e * 1) (0 * down e) (mul-one (0 * up e) ∙ zero-mul (up e)) (zero-mul (down e)) k)
other_of f (fin true (suc m) e) h k = refl
other_of f (fin false (suc m) e) h k =
    absurd (let z : ⊥ = omega (arith, ltb-false (0 * 1 * down e) (suc m * up e * 1) h, mul-pos (zero-lt-suc m) (up_pos e)) in z)

-- ---- what is finite and above zero is no NaN, and its pattern lies between 0 and the infinity's

pub positive_number : (x : Float) → T (positive x) → T (not (is_nan x))
unfolding is_nan
positive_number nan p = absurd p
positive_number (inf s) p = tt
positive_number (fin s m e) p = tt

signed : (d q k l : ℕ) → T (positive (odd d true q k l)) → ⊥
unfolding odd
signed d zero k l h = h
signed d (suc q) k l h = h

at_ones : (a b s : Bool) (v : Float) → T (positive (cond a (cond b (inf s) nan) v)) → (T a → ⊥) × T (positive v)
at_ones true true s v h = absurd h
at_ones true false s v h = absurd h
at_ones false b s v h = (λ (t : ⊥). t, h)

negative : (f : Format) (x t : ℕ) → T (positive (of_fields f true x t)) → ⊥
unfolding of_fields
negative f zero t h = signed (prec f) t 0 (low f) h
negative f (suc x) t h = signed (prec f) (hid f + t) x (low f) (at_ones (suc x == ones f) (t == 0) true (odd (prec f) true (hid f + t) x (low f)) h).1

field_lt : (f : Format) (x t : ℕ) → x < suc (ones f) → T (positive (of_fields f false x t)) → x < ones f
unfolding of_fields
field_lt f zero t X h = (let z : 0 < ones f = omega arith in z)
field_lt f (suc x) t X h =
    lt_of_le-ne (le_of_suc-le-suc X) (λ (e : suc x ≡ ones f). (at_ones (suc x == ones f) (t == 0) false (odd (prec f) false (hid f + t) x (low f)) h).0 (eq→eqb e))

zero_pattern : (f : Format) → T (positive (of_bits f 0)) → ⊥
unfolding of_bits
zero_pattern binary32 h = h
zero_pattern binary64 h = h

pattern_in : (f : Format) (b : ℕ) → T (positive (of_bits f b)) → (0 < b) × (b < ones f * hid f)
pattern_in f b h = (first (eq-zero-or-pos b), go (nat_le (top f) b) (nleb→lt (top f) b) (subst (λ (v : Float). T (positive v)) (of_bits_is f b) h))
  where
    first : (b ≡ 0) ⊎ (0 < b) → 0 < b
    first (inl e) = absurd (zero_pattern f (subst (λ (y : ℕ). T (positive (of_bits f y))) e h))
    first (inr p) = p

    field_in : b < top f → b / hid f < suc (ones f)
    field_in l = (div-lt_iff_lt-mul (pow_pos (prec f - 1))).1 (subst (λ (y : ℕ). b < y) (mul_comm (hid f) (suc (ones f))) l)

    go : (s : Bool) → (T (not s) → b < top f) → T (positive (of_fields f s (b % top f / hid f) (b % hid f))) → b < ones f * hid f
    go true l g = absurd (negative f (b % top f / hid f) (b % hid f) g)
    go false l g =
        let p : T (positive (of_fields f false (b / hid f) (b % hid f))) = subst (λ (v : Float). T (positive v)) (unsigned f b (l tt)) h in
        (div-lt_iff_lt-mul (pow_pos (prec f - 1))).0 (field_lt f (b / hid f) (b % hid f) (field_in (l tt)) p)

pub pattern_of : (f : Format) (x : Float) → T (fits f x) → T (positive x) → (0 < to_bits f x) × (to_bits f x < ones f * hid f)
pattern_of f x F p = pattern_in f (to_bits f x) (subst (λ (v : Float). T (positive v)) (sym (of_bits-to_bits f x F)) p)
