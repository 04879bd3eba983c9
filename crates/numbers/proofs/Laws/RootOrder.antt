-- Of two values that are not negative the larger has the root that is no smaller: `rooted_mono`. It holds in either format, of zeros of either sign,
-- subnormal values and the infinity. So the root of a value that is not negative is not negative, and no NaN. Assumes nothing.
use Rattle.std.specs.Prelude.{◌≡◌, ℕ, zero, suc, ◌+◌, ◌-◌, ◌*◌, ◌/◌, ◌%◌, ◌^◌, ◌<◌, ◌≤◌, Bool, true, false, cond, not, ◌&&◌, ◌||◌, T, ◌⊎◌, ℤ, pos, ◌==◌, nat_lt, Float}
use Rattle.std.proofs.Math.Path.{refl}
use Rattle.std.proofs.Common.{sym, ap, ◌∙◌, subst, inl, inr, le_refl, le_trans, le_of_eq, le_of_lt, lt_of_le_of_lt, eq-or-lt_of_le, zero-lt-suc, zero-mul, mul-pos, mul_right_comm, mul-le-mul_left, mul-le-mul_right, le-div_iff_mul-le, arith, ltb→lt, lt→ltb, nltb→le, eqb→eq, pow-add, pow_pos, pow_mono}
use Prim.Native.Nat.{zero-le, compare, Ordering}
use Rattle.std.specs.Bool.{beq}
use Rattle.std.proofs.Math.Pow.{shr_mono}
use Rattle.std.specs.Float.{nan, inf, Format}
use Rattle.std.specs.Float.Ieee.{is_nan, fin, prec, emax, low, up, down, size, nearest, odd, units, le}
use Rattle.std.specs.Float.Ieee.Digits.{size-lt, size-le, size_reaches}
use Rattle.std.specs.Float.Ieee.Fits.{two, two-le_pos, nearest-le, kept-lt, up_pos, down_pos, and_l, and_r}
use Rattle.std.specs.Float.Ieee.Exact.{HasValue, odd_sign}
use Rattle.std.specs.Float.Ieee.Nearest.{nearest-ge, div_mono}
use Rattle.std.specs.Float.Ieee.Order.{le_of_values}
use Rattle.numbers.specs.Arithmetic.{whole, root_rounded, scaled, rooted}
use Rattle.numbers.proofs.Laws.Binary.{cmp}
use Rattle.numbers.specs.Laws.Binary.{Cmp}
use Rattle.numbers.proofs.Laws.RootWhole.{whole_is, whole_ge, root_rounded_is}
use Rattle.numbers.specs.Laws.RootWhole.{dropped, middle, kept}
use Rattle.numbers.specs.Laws.RootOrder.{Plain, infinite, finite}

-- ---- whole numbers
pub whole_mono : (n m : ℕ) → n ≤ m → whole n ≤ whole m
whole_mono n m h = whole_ge m (whole n) (le_trans (whole_is n).0 h)

size_mono : (a b : ℕ) → a ≤ b → size a ≤ size b
size_mono a b h = size-le a (size b) (lt_of_le_of_lt h (size-lt b))

dropped_mono : (f : Format) (n m : ℕ) → n ≤ m → dropped f n ≤ dropped f m
dropped_mono f n m h = let s = size_mono (whole n) (whole m) (whole_mono n m h) in omega arith

-- the kept digits are at most prec, and all of prec where some are dropped
pub quotient_lt : (f : Format) (n : ℕ) → whole n / 2 ^ dropped f n < 2 ^ prec f
quotient_lt f n = kept-lt (prec f) (whole n)

pub quotient_ge : (f : Format) (n : ℕ) → 0 < dropped f n → 2 ^ (prec f - 1) ≤ whole n / 2 ^ dropped f n
quotient_ge f n h =
    let k = dropped f n in
    let P : 0 < prec f = two-le_pos (prec f) (two f) in
    let reached : 2 ^ (prec f - 1 + k) ≤ whole n = size_reaches (whole n) (prec f - 1 + k) (omega arith) in
    (le-div_iff_mul-le (pow_pos k)).1 (le_trans (le_of_eq (sym (pow-add 2 (prec f - 1) k))) reached)

pub kept_le : (f : Format) (n : ℕ) → kept n (dropped f n) ≤ 2 ^ prec f
kept_le f n =
    let q = whole n / 2 ^ dropped f n in
    le_trans (nearest-le q (compare (4 * n) (middle q (dropped f n) * middle q (dropped f n)))) (quotient_lt f n)

pub kept_ge : (n k : ℕ) → whole n / 2 ^ k ≤ kept n k
kept_ge n k = let q = whole n / 2 ^ k in nearest-ge q (compare (4 * n) (middle q k * middle q k))

-- the same whole part: a larger number compares no lower with the middle
tie : (q : ℕ) → q + q % 2 ≤ suc q
tie q = omega arith

nearest_mono : (q a b m : ℕ) (o p : Ordering) → Cmp o a m → Cmp p b m → a ≤ b → nearest q o ≤ nearest q p
nearest_mono q a b m Ordering.lt p x y h = nearest-ge q p
nearest_mono q a b m Ordering.eq Ordering.lt x y h = absurd (let z : ⊥ = omega arith in z)
nearest_mono q a b m Ordering.eq Ordering.eq x y h = le_refl (q + q % 2)
nearest_mono q a b m Ordering.eq Ordering.gt x y h = tie q
nearest_mono q a b m Ordering.gt Ordering.lt x y h = absurd (let z : ⊥ = omega arith in z)
nearest_mono q a b m Ordering.gt Ordering.eq x y h = absurd (let z : ⊥ = omega arith in z)
nearest_mono q a b m Ordering.gt Ordering.gt x y h = le_refl (suc q)

kept_mono : (n m k : ℕ) → n ≤ m → kept n k ≤ kept m k
kept_mono n m k h = go (eq-or-lt_of_le (shr_mono k (whole_mono n m h)))
  where
    go : (whole n / 2 ^ k ≡ whole m / 2 ^ k) ⊎ (whole n / 2 ^ k < whole m / 2 ^ k) → kept n k ≤ kept m k
    go (inl e) =
        let q = whole m / 2 ^ k in
        let c = middle q k * middle q k in
        subst (λ (y : ℕ). nearest y (compare (4 * n) (middle y k * middle y k)) ≤ kept m k) (sym e)
        (nearest_mono q (4 * n) (4 * m) c (compare (4 * n) c) (compare (4 * m) c) (cmp (4 * n) c) (cmp (4 * m) c) (mul-le-mul_left 4 h))
    go (inr l) = let q = whole n / 2 ^ k in le_trans (nearest-le q (compare (4 * n) (middle q k * middle q k))) (le_trans l (kept_ge m k))

-- Either both drop as many digits, and then the kept numbers are in order. Or the smaller drops fewer, and then a power of two lies between the two results.
pub grid_mono : (f : Format) (n m : ℕ) → n ≤ m → kept n (dropped f n) * 2 ^ dropped f n ≤ kept m (dropped f m) * 2 ^ dropped f m
grid_mono f n m h = go (eq-or-lt_of_le (dropped_mono f n m h))
  where
    go : (dropped f n ≡ dropped f m) ⊎ (dropped f n < dropped f m) → kept n (dropped f n) * 2 ^ dropped f n ≤ kept m (dropped f m) * 2 ^ dropped f m
    go (inl e) = subst (λ (y : ℕ). kept n y * 2 ^ y ≤ kept m (dropped f m) * 2 ^ dropped f m) (sym e) (mul-le-mul_right (2 ^ dropped f m) (kept_mono n m (dropped f m) h))
    go (inr l) =
        let p = prec f in
        let j = dropped f n in
        let k = dropped f m in
        let P : 0 < p = two-le_pos p (two f) in
        le_trans (mul-le-mul_right (2 ^ j) (kept_le f n))
        (le_trans (le_of_eq (sym (pow-add 2 p j)))
        (le_trans (pow_mono (let z : p + j ≤ p - 1 + k = omega arith in z))
        (le_trans (le_of_eq (pow-add 2 (p - 1) k))
        (mul-le-mul_right (2 ^ k) (le_trans (quotient_ge f m (lt_of_le_of_lt zero-le l)) (kept_ge m k))))))

-- ---- values
le_inf : (x : Float) (a c : ℕ) → HasValue x false a c → T (le x (inf false))
unfolding le
le_inf nan a c p = absurd p
le_inf (inf s) a c p = absurd p
le_inf (fin true m e) a c p = tt
le_inf (fin false m e) a c p = tt

units_mono : (f : Format) (q j r k : ℕ) → q * 2 ^ j ≤ r * 2 ^ k → T (le (units f false q j) (units f false r k))
unfolding units
units_mono f q j r k h =
    let over = 2 ^ (low f + suc (emax f)) in
    go (nat_lt (q * 2 ^ j) over) (nat_lt (r * 2 ^ k) over) (nltb→le (q * 2 ^ j) over) (ltb→lt (r * 2 ^ k) over)
  where
    go : (x y : Bool) → (T (not x) → 2 ^ (low f + suc (emax f)) ≤ q * 2 ^ j) → (T y → r * 2 ^ k < 2 ^ (low f + suc (emax f)))
        → T (le (cond x (odd (suc (prec f)) false q j (low f)) (inf false)) (cond y (odd (suc (prec f)) false r k (low f)) (inf false)))
    go true true a b =
        let d = suc (prec f) in
        let l = low f in
        le_of_values (odd d false q j l) (odd d false r k l) (q * 2 ^ j) (2 ^ l) (r * 2 ^ k) (2 ^ l) (pow_pos l) (pow_pos l) (odd_sign d false q j l) (odd_sign d false r k l)
        (mul-le-mul_right (2 ^ l) h)
    go true false a b = le_inf (odd (suc (prec f)) false q j (low f)) (q * 2 ^ j) (2 ^ low f) (odd_sign (suc (prec f)) false q j (low f))
    go false true a b = absurd (let u = a tt in let v = b tt in let z : ⊥ = omega arith in z)
    go false false a b = unfold le in tt

pub root_rounded_mono : (f : Format) (n m : ℕ) → n ≤ m → T (le (root_rounded f n) (root_rounded f m))
root_rounded_mono f n m h =
    subst (λ (v : Float). T (le v (root_rounded f m))) (sym (root_rounded_is f n))
    (subst (λ (v : Float). T (le (units f false (kept n (dropped f n)) (dropped f n)) v)) (sym (root_rounded_is f m))
    (units_mono f (kept n (dropped f n)) (dropped f n) (kept m (dropped f m)) (dropped f m) (grid_mono f n m h)))

plain_value : (x : Float) (a c : ℕ) → HasValue x false a c → Plain x
plain_value nan a c v = absurd v
plain_value (inf s) a c v = absurd v
plain_value (fin true m e) a c v = absurd (subst (λ (b : Bool). T b) v.0 tt)
plain_value (fin false m e) a c v = finite

pub units_plain : (f : Format) (q k : ℕ) → Plain (units f false q k)
unfolding units
units_plain f q k = go (nat_lt (q * 2 ^ k) (2 ^ (low f + suc (emax f))))
  where
    go : (b : Bool) → Plain (cond b (odd (suc (prec f)) false q k (low f)) (inf false))
    go true = plain_value (odd (suc (prec f)) false q k (low f)) (q * 2 ^ k) (2 ^ low f) (odd_sign (suc (prec f)) false q k (low f))
    go false = infinite

rounded_plain : (f : Format) (n : ℕ) → Plain (root_rounded f n)
rounded_plain f n = subst (λ (v : Float). Plain v) (sym (root_rounded_is f n)) (units_plain f (kept n (dropped f n)) (dropped f n))

or_l : (a b : Bool) → T a → T (a || b)
or_l true b t = tt
or_l false b t = absurd t

-- a zero of either sign is at most any of these
zero_first : (s : Bool) (a b : ℕ) → a ≡ 0 → T (cond s (nat_lt 0 (a + b)) (nat_lt a b) || (a == b && (beq s false || a == 0)))
zero_first s a b e = subst (λ (y : ℕ). T (cond s (nat_lt 0 (y + b)) (nat_lt y b) || (y == b && (beq s false || y == 0)))) (sym e) (go s b)
  where
    go : (s : Bool) (b : ℕ) → T (cond s (nat_lt 0 (0 + b)) (nat_lt 0 b) || (0 == b && (beq s false || 0 == 0)))
    go true zero = tt
    go false zero = tt
    go true (suc b) = or_l (nat_lt 0 (0 + suc b)) (0 == suc b && true) (lt→ltb 0 (0 + suc b) (omega arith))
    go false (suc b) = or_l (nat_lt 0 (suc b)) (0 == suc b && true) (lt→ltb 0 (suc b) (omega arith))

flat : (e d : ℤ) → 0 * up e * down d ≡ 0
flat e d = ap (λ (y : ℕ). y * down d) (zero-mul (up e)) ∙ zero-mul (down d)

zero_le_plain : (s : Bool) (e : ℤ) (v : Float) → Plain v → T (le (fin s 0 e) v)
unfolding le
zero_le_plain true e (inf false) infinite = tt
zero_le_plain false e (inf false) infinite = tt
zero_le_plain true e (fin false m d) finite = zero_first true (0 * up e * down d) (m * up d * down e) (flat e d)
zero_le_plain false e (fin false m d) finite = zero_first false (0 * up e * down d) (m * up d * down e) (flat e d)
zero_le_plain false e nan x'' = elim x'' [ ]
zero_le_plain false e (inf true) x5 = elim x5 [ ]
zero_le_plain false e (fin true m d) x6 = elim x6 [ ]
zero_le_plain true e nan x3 = elim x3 [ ]
zero_le_plain true e (inf true) x6 = elim x6 [ ]
zero_le_plain true e (fin true m d) x7 = elim x7 [ ]

plain_le_inf : (v : Float) → Plain v → T (le v (inf false))
unfolding le
plain_le_inf (inf false) infinite = tt
plain_le_inf (fin false m e) finite = tt
plain_le_inf nan x' = elim x' [ ]
plain_le_inf (inf true) x4 = elim x4 [ ]
plain_le_inf (fin true m e) x5 = elim x5 [ ]

-- ---- the law
scaled_mono : (f : Format) (m : ℕ) (e : ℤ) (n : ℕ) (d : ℤ) → m * up e * down d ≤ n * up d * down e → scaled f m e ≤ scaled f n d
scaled_mono f m e n d h =
    let u = 2 ^ low f * 2 ^ low f in
    div_mono (m * up e * u) (down e) (n * up d * u) (down d) (down_pos e) (down_pos d)
    (le_trans (le_of_eq (mul_right_comm (m * up e) u (down d))) (le_trans (mul-le-mul_right u h) (le_of_eq (mul_right_comm (n * up d) (down e) u))))

or_split : (a b : Bool) → T (a || b) → T a ⊎ T b
or_split true b t = inl tt
or_split false b t = inr t

lt_or_eq : (a b : ℕ) (c : Bool) → T (nat_lt a b || (a == b && c)) → a ≤ b
lt_or_eq a b c t = go (or_split (nat_lt a b) (a == b && c) t)
  where
    go : T (nat_lt a b) ⊎ T (a == b && c) → a ≤ b
    go (inl u) = le_of_lt (ltb→lt a b u)
    go (inr u) = le_of_eq (eqb→eq a b (and_l (a == b) c u))

above : (m : ℕ) (e d : ℤ) → 0 < suc m * up e * down d
above m e d = mul-pos (mul-pos (zero-lt-suc m) (up_pos e)) (down_pos d)

-- no number above 0 is at most a zero
none : (m : ℕ) (e d : ℤ) (a : ℕ) → a ≡ 0 → suc m * up e * down d ≤ a → ⊥
none m e d a n h = let p = above m e d in omega arith

-- a negative number is at least no zero
below_zero : (s : Bool) (m : ℕ) (e d : ℤ) → T (le (fin s 0 e) (fin true (suc m) d)) → ⊥
unfolding le
below_zero true m e d h = none m d e (0 * up e * down d) (flat e d) (le_of_or (suc m * up d * down e) (0 * up e * down d) h)
  where
    le_of_or : (a b : ℕ) → T (nat_lt a b || (b == a && true)) → a ≤ b
    le_of_or a b t = go (or_split (nat_lt a b) (b == a && true) t)
      where
        go : T (nat_lt a b) ⊎ T (b == a && true) → a ≤ b
        go (inl u) = le_of_lt (ltb→lt a b u)
        go (inr u) = le_of_eq (sym (eqb→eq b a (and_l (b == a) true u)))
below_zero false m e d h =
    let a = 0 * up e * down d in
    let b = suc m * up d * down e in
    none m d e a (flat e d) (le_of_eq (sym (eqb→eq a b (and_l (a == b) (a == 0) h))))

pub rooted_mono : (f : Format) (x y : Float) → T (le (fin false 0 (pos 0)) x) → T (le x y) → T (le (rooted f x) (rooted f y))
unfolding le rooted
rooted_mono f nan y h k = absurd h
rooted_mono f (inf true) y h k = absurd h
rooted_mono f (inf false) nan h k = absurd k
rooted_mono f (inf false) (inf true) h k = absurd k
rooted_mono f (inf false) (inf false) h k = tt
rooted_mono f (inf false) (fin t n d) h k = absurd k
rooted_mono f (fin s zero e) nan h k = absurd k
rooted_mono f (fin s zero e) (inf true) h k = absurd k
rooted_mono f (fin s zero e) (inf false) h k = tt
rooted_mono f (fin s zero e) (fin t zero d) h k = k
rooted_mono f (fin s zero e) (fin true (suc n) d) h k = absurd (below_zero s n e d k)
rooted_mono f (fin s zero e) (fin false (suc n) d) h k = zero_le_plain s e (root_rounded f (scaled f (suc n) d)) (rounded_plain f (scaled f (suc n) d))
rooted_mono f (fin true (suc m) e) y h k = absurd (below_zero false m (pos 0) e h)
rooted_mono f (fin false (suc m) e) nan h k = absurd k
rooted_mono f (fin false (suc m) e) (inf true) h k = absurd k
rooted_mono f (fin false (suc m) e) (inf false) h k = plain_le_inf (root_rounded f (scaled f (suc m) e)) (rounded_plain f (scaled f (suc m) e))
rooted_mono f (fin false (suc m) e) (fin true n d) h k =
    let a = suc m * up e * down d in
    absurd (none m e d 0 refl (le_of_eq (eqb→eq a 0 (and_r (a == n * up d * down e) (a == 0) k))))
rooted_mono f (fin false (suc m) e) (fin false zero d) h k = absurd (none m e d (0 * up d * down e) (flat d e) (lt_or_eq (suc m * up e * down d) (0 * up d * down e) true k))
rooted_mono f (fin false (suc m) e) (fin false (suc n) d) h k =
    root_rounded_mono f (scaled f (suc m) e) (scaled f (suc n) d) (scaled_mono f (suc m) e (suc n) d (lt_or_eq (suc m * up e * down d) (suc n * up d * down e) true k))

-- the root of a value that is not negative is not negative, and so it is no NaN
pub rooted_not_negative : (f : Format) (x : Float) → T (le (fin false 0 (pos 0)) x) → T (le (fin false 0 (pos 0)) (rooted f x))
rooted_not_negative f x h = subst (λ (v : Float). T (le v (rooted f x))) (of_zero f) (rooted_mono f (fin false 0 (pos 0)) x (unfold le in tt) h)
  where
    of_zero : (f : Format) → rooted f (fin false 0 (pos 0)) ≡ fin false 0 (pos 0)
    of_zero f = unfold rooted in refl

pub rooted_number : (f : Format) (x : Float) → T (le (fin false 0 (pos 0)) x) → T (not (is_nan (rooted f x)))
rooted_number f x h = go (rooted f x) (rooted_not_negative f x h)
  where
    go : (v : Float) → T (le (fin false 0 (pos 0)) v) → T (not (is_nan v))
    go nan t = absurd (unfold le in t)
    go (inf s) t = unfold is_nan in tt
    go (fin s m e) t = unfold is_nan in tt
