-- The sign goes through: each operation of negated operands gives the negated result, or the same truth value of the operands in the other order.
-- Rounding has no direction, so the sign of a fraction stays aside; only a sum that is exactly zero is +0 both times. Assumes nothing.
use Rattle.std.specs.Prelude.{◌≡◌, ℕ, zero, suc, ◌+◌, ◌-◌, ◌*◌, ◌/◌, ◌%◌, ◌^◌, ◌<◌, Bool, true, false, cond, not, ◌&&◌, ◌||◌, ltb, ℤ, pos, ◌==◌, nat_lt, Float}
use Rattle.std.proofs.Math.Path.{refl}
use Rattle.std.proofs.Common.{sym, ap, ◌∙◌, true≢false, inl, inr, add_comm, mul-pos, zero-mul, arith, ltb-false}
use Rattle.std.specs.Float.{nan, inf, fin, Format, binary32}
use Rattle.std.specs.Float.Ieee.{binary64, prec, emax, low, unlike, up, down, odd, units, round, neg, sum, add, sub, mul, div, lt, eq, le, is_nan}
use Rattle.std.specs.Float.Ieee.Fits.{round_is, down_pos}
use Rattle.std.specs.Float.Ieee.Scale.{round_same}
use Rattle.numbers.specs.Arithmetic.{narrowed, stepped, floored, ceiled, clamped, signed, least, largest}
use Rattle.numbers.proofs.Laws.Comparing.{eq_sym, lt_trans}
use Rattle.numbers.specs.Opposite.{NegatedOrZero}

-- ---- rounding

odd_neg : (d : ℕ) (s : Bool) (q k l : ℕ) → odd d (not s) q k l ≡ neg (odd d s q k l)
unfolding neg odd
odd_neg d s zero k l = refl
odd_neg d s (suc q) k l = refl

units_neg : (f : Format) (s : Bool) (q k : ℕ) → units f (not s) q k ≡ neg (units f s q k)
unfolding units neg
units_neg f s q k = go (nat_lt (q * 2 ^ k) (2 ^ (low f + suc (emax f))))
  where
    go : (b : Bool) → cond b (odd (suc (prec f)) (not s) q k (low f)) (inf (not s)) ≡ neg (cond b (odd (suc (prec f)) s q k (low f)) (inf s))
    go true = odd_neg (suc (prec f)) s q k (low f)
    go false = refl

pub round_neg : (f : Format) (s : Bool) (n d : ℕ) → round f (not s) n d ≡ neg (round f s n d)
round_neg f s n d = round_is f (not s) n d ∙ units_neg f s _ _ ∙ sym (ap neg (round_is f s n d))

-- a fraction that is zero
pub round_zero : (f : Format) (s : Bool) (c : ℕ) → 0 < c → round f s 0 c ≡ fin s 0 (pos 0)
round_zero f s c C = round_same f s 0 c 0 1 C (omega arith) (omega (arith, zero-mul c)) ∙ one f
  where
    one : (f : Format) → round f s 0 1 ≡ fin s 0 (pos 0)
    one binary32 = unfold round in refl
    one binary64 = unfold round in refl

pub narrowed_neg : (x : Float) → narrowed (neg x) ≡ neg (narrowed x)
unfolding narrowed neg
narrowed_neg nan = refl
narrowed_neg (inf s) = refl
narrowed_neg (fin s m e) = round_neg binary32 s (m * up e) (down e)

-- ---- a value negated

pub neg_neg : (x : Float) → neg (neg x) ≡ x
unfolding neg
neg_neg nan = refl
neg_neg (inf true) = refl
neg_neg (inf false) = refl
neg_neg (fin true m e) = refl
neg_neg (fin false m e) = refl

pub is_nan_neg : (x : Float) → is_nan (neg x) ≡ is_nan x
unfolding neg is_nan
is_nan_neg nan = refl
is_nan_neg (inf s) = refl
is_nan_neg (fin s m e) = refl

pub signed_neg : (x : Float) → signed (neg x) ≡ neg (signed x)
unfolding neg signed
signed_neg nan = refl
signed_neg (inf s) = refl
signed_neg (fin s m e) = refl

-- ---- product and quotient: one operand negated

unlike_neg_left : (s t : Bool) → unlike (not s) t ≡ not (unlike s t)
unlike_neg_left true true = refl
unlike_neg_left true false = refl
unlike_neg_left false true = refl
unlike_neg_left false false = refl

unlike_neg_right : (s t : Bool) → unlike s (not t) ≡ not (unlike s t)
unlike_neg_right true true = refl
unlike_neg_right true false = refl
unlike_neg_right false true = refl
unlike_neg_right false false = refl

-- a NaN or an infinity of a sign u, whichever the test says
either_neg : (b u v : Bool) → v ≡ not u → cond b nan (inf v) ≡ neg (cond b nan (inf u))
unfolding neg
either_neg true u v h = refl
either_neg false u v h = ap inf h

round_negated : (f : Format) (u v : Bool) (n d : ℕ) → v ≡ not u → round f v n d ≡ neg (round f u n d)
round_negated f u v n d h = ap (λ (w : Bool). round f w n d) h ∙ round_neg f u n d

quotient_neg : (f : Format) (a b u v : Bool) (n d : ℕ) → v ≡ not u → cond a (cond b nan (inf v)) (round f v n d) ≡ neg (cond a (cond b nan (inf u)) (round f u n d))
quotient_neg f true b u v n d h = either_neg b u v h
quotient_neg f false b u v n d h = round_negated f u v n d h

pub mul_neg_left : (f : Format) (x y : Float) → mul f (neg x) y ≡ neg (mul f x y)
unfolding mul neg
mul_neg_left f nan y = refl
mul_neg_left f (inf s) nan = refl
mul_neg_left f (inf s) (inf t) = ap inf (unlike_neg_left s t)
mul_neg_left f (inf s) (fin t n d) = either_neg (n == 0) _ _ (unlike_neg_left s t)
mul_neg_left f (fin s m e) nan = refl
mul_neg_left f (fin s m e) (inf t) = either_neg (m == 0) _ _ (unlike_neg_left s t)
mul_neg_left f (fin s m e) (fin t n d) = round_negated f _ _ (m * up e * (n * up d)) (down e * down d) (unlike_neg_left s t)

pub mul_neg_right : (f : Format) (x y : Float) → mul f x (neg y) ≡ neg (mul f x y)
unfolding mul neg
mul_neg_right f nan y = refl
mul_neg_right f (inf s) nan = refl
mul_neg_right f (inf s) (inf t) = ap inf (unlike_neg_right s t)
mul_neg_right f (inf s) (fin t n d) = either_neg (n == 0) _ _ (unlike_neg_right s t)
mul_neg_right f (fin s m e) nan = refl
mul_neg_right f (fin s m e) (inf t) = either_neg (m == 0) _ _ (unlike_neg_right s t)
mul_neg_right f (fin s m e) (fin t n d) = round_negated f _ _ (m * up e * (n * up d)) (down e * down d) (unlike_neg_right s t)

pub div_neg_left : (f : Format) (x y : Float) → div f (neg x) y ≡ neg (div f x y)
unfolding div neg
div_neg_left f nan y = refl
div_neg_left f (inf s) nan = refl
div_neg_left f (inf s) (inf t) = refl
div_neg_left f (inf s) (fin t n d) = ap inf (unlike_neg_left s t)
div_neg_left f (fin s m e) nan = refl
div_neg_left f (fin s m e) (inf t) = ap (λ (u : Bool). fin u 0 (pos 0)) (unlike_neg_left s t)
div_neg_left f (fin s m e) (fin t n d) = quotient_neg f (n == 0) (m == 0) _ _ (m * up e * down d) (n * up d * down e) (unlike_neg_left s t)

pub div_neg_right : (f : Format) (x y : Float) → div f x (neg y) ≡ neg (div f x y)
unfolding div neg
div_neg_right f nan y = refl
div_neg_right f (inf s) nan = refl
div_neg_right f (inf s) (inf t) = refl
div_neg_right f (inf s) (fin t n d) = ap inf (unlike_neg_right s t)
div_neg_right f (fin s m e) nan = refl
div_neg_right f (fin s m e) (inf t) = ap (λ (u : Bool). fin u 0 (pos 0)) (unlike_neg_right s t)
div_neg_right f (fin s m e) (fin t n d) = quotient_neg f (n == 0) (m == 0) _ _ (m * up e * down d) (n * up d * down e) (unlike_neg_right s t)

-- both negated: a square does not know its root's sign
pub mul_neg_both : (f : Format) (x y : Float) → mul f (neg x) (neg y) ≡ mul f x y
mul_neg_both f x y = mul_neg_left f x (neg y) ∙ ap neg (mul_neg_right f x y) ∙ neg_neg (mul f x y)

pub div_neg_both : (f : Format) (x y : Float) → div f (neg x) (neg y) ≡ div f x y
div_neg_both f x y = div_neg_left f x (neg y) ∙ ap neg (div_neg_right f x y) ∙ neg_neg (div f x y)

-- ---- sum and difference: both operands negated. Where the exact sum of two unlike signs is zero the result is +0 both times

abbrev plus_zero : Float
plus_zero = fin false 0 (pos 0)

-- of ±a / c and ∓b / c, with what the two tests say
apart_neg : (f : Format) (s : Bool) (a b c : ℕ) → 0 < c → (p q : Bool) → nat_lt a b ≡ p → nat_lt b a ≡ q
    → NegatedOrZero (cond p (round f (not s) (b - a) c) (round f (s && q) (a - b) c)) (cond p (round f s (b - a) c) (round f (not s && q) (a - b) c))
apart_neg f true a b c C true q g h = inl (round_neg f false (b - a) c)
apart_neg f false a b c C true q g h = inl (round_neg f true (b - a) c)
apart_neg f true a b c C false true g h = inl (round_neg f true (a - b) c)
apart_neg f false a b c C false true g h = inl (round_neg f false (a - b) c)
apart_neg f s a b c C false false g h =
    let x = ltb-false a b g in
    let y = ltb-false b a h in
    let z : a - b ≡ 0 = omega arith in
    let v : round f false (a - b) c ≡ plus_zero = ap (λ (n : ℕ). round f false n c) z ∙ round_zero f false c C in
    inr (zeros s v)
  where
    zeros : (s : Bool) → round f false (a - b) c ≡ plus_zero → (round f (s && false) (a - b) c ≡ plus_zero) × (round f (not s && false) (a - b) c ≡ plus_zero)
    zeros true v = (v, v)
    zeros false v = (v, v)

sum_neg : (f : Format) (s : Bool) (a : ℕ) (t : Bool) (b c : ℕ) → 0 < c → NegatedOrZero (sum f s a t b c) (sum f (not s) a (not t) b c)
unfolding sum
sum_neg f true a true b c C = inl (round_neg f true (a + b) c)
sum_neg f false a false b c C = inl (round_neg f false (a + b) c)
sum_neg f true a false b c C = apart_neg f true a b c C (nat_lt a b) (nat_lt b a) refl refl
sum_neg f false a true b c C = apart_neg f false a b c C (nat_lt a b) (nat_lt b a) refl refl

pub add_neg : (f : Format) (x y : Float) → NegatedOrZero (add f x y) (add f (neg x) (neg y))
unfolding add neg
add_neg f nan y = inl refl
add_neg f (inf s) nan = inl refl
add_neg f (inf true) (inf true) = inl refl
add_neg f (inf true) (inf false) = inl refl
add_neg f (inf false) (inf true) = inl refl
add_neg f (inf false) (inf false) = inl refl
add_neg f (inf s) (fin t n d) = inl refl
add_neg f (fin s m e) nan = inl refl
add_neg f (fin s m e) (inf t) = inl refl
add_neg f (fin s m e) (fin t n d) = sum_neg f s (m * up e * down d) t (n * up d * down e) (down e * down d) (mul-pos (down_pos e) (down_pos d))

pub sub_neg : (f : Format) (x y : Float) → NegatedOrZero (sub f x y) (sub f (neg x) (neg y))
unfolding sub
sub_neg f x y = add_neg f x (neg y)

-- ---- comparison: the order turns round

pub lt_neg : (x y : Float) → lt (neg x) (neg y) ≡ lt y x
unfolding lt neg
lt_neg nan nan = refl
lt_neg nan (inf t) = refl
lt_neg nan (fin t n d) = refl
lt_neg (inf s) nan = refl
lt_neg (inf true) (inf true) = refl
lt_neg (inf true) (inf false) = refl
lt_neg (inf false) (inf true) = refl
lt_neg (inf false) (inf false) = refl
lt_neg (inf s) (fin t n d) = refl
lt_neg (fin s m e) nan = refl
lt_neg (fin s m e) (inf true) = refl
lt_neg (fin s m e) (inf false) = refl
lt_neg (fin true m e) (fin true n d) = refl
lt_neg (fin false m e) (fin false n d) = refl
lt_neg (fin true m e) (fin false n d) = refl
lt_neg (fin false m e) (fin true n d) = ap (ltb 0) (add_comm (m * up e * down d) (n * up d * down e))

pub eq_neg : (x y : Float) → eq (neg x) (neg y) ≡ eq x y
unfolding eq neg
eq_neg nan y = refl
eq_neg (inf s) nan = refl
eq_neg (inf true) (inf true) = refl
eq_neg (inf true) (inf false) = refl
eq_neg (inf false) (inf true) = refl
eq_neg (inf false) (inf false) = refl
eq_neg (inf s) (fin t n d) = refl
eq_neg (fin s m e) nan = refl
eq_neg (fin s m e) (inf t) = refl
eq_neg (fin true m e) (fin true n d) = refl
eq_neg (fin true m e) (fin false n d) = refl
eq_neg (fin false m e) (fin true n d) = refl
eq_neg (fin false m e) (fin false n d) = refl

pub le_neg : (x y : Float) → le (neg x) (neg y) ≡ le y x
unfolding le
le_neg x y = rw (lt_neg x y, eq_neg x y, eq_sym x y)

-- ---- floor and ceiling, the lesser and the larger change places

stepped_neg : (d : ℕ) (s : Bool) (m : ℕ) (e : ℤ) → stepped d (not s) m e ≡ neg (stepped d s m e)
unfolding stepped neg
stepped_neg d s m e = go (m * up e % down e == 0)
  where
    go : (b : Bool) → cond b (fin (not s) m e) (round binary64 (not s) (m * up e / down e + d) 1) ≡ neg (cond b (fin s m e) (round binary64 s (m * up e / down e + d) 1))
    go true = refl
    go false = round_neg binary64 s (m * up e / down e + d) 1

pub floored_neg : (x : Float) → floored (neg x) ≡ neg (ceiled x)
unfolding neg floored ceiled
floored_neg nan = refl
floored_neg (inf s) = refl
floored_neg (fin true m e) = stepped_neg 0 true m e
floored_neg (fin false m e) = stepped_neg 1 false m e

pub ceiled_neg : (x : Float) → ceiled (neg x) ≡ neg (floored x)
unfolding neg floored ceiled
ceiled_neg nan = refl
ceiled_neg (inf s) = refl
ceiled_neg (fin true m e) = stepped_neg 1 true m e
ceiled_neg (fin false m e) = stepped_neg 0 false m e

cond_neg : (b : Bool) (x y : Float) → cond b (neg x) (neg y) ≡ neg (cond b x y)
cond_neg true x y = refl
cond_neg false x y = refl

pub least_neg : (x y : Float) → least (neg x) (neg y) ≡ neg (largest x y)
least_neg x y = rw (is_nan_neg x, lt_neg y x) (cond_neg (is_nan x || lt x y) y x)

pub largest_neg : (x y : Float) → largest (neg x) (neg y) ≡ neg (least x y)
largest_neg x y = rw (is_nan_neg x, lt_neg x y) (cond_neg (is_nan x || lt y x) y x)

-- where the ends are not in the wrong order, so that no x lies beyond both
pub clamped_neg : (x lo hi : Float) → lt hi lo ≡ false → clamped (neg x) (neg hi) (neg lo) ≡ neg (clamped x lo hi)
clamped_neg x lo hi h = rw (lt_neg x hi, lt_neg lo x) (go (lt hi x) (lt x lo) refl refl)
  where
    go : (p q : Bool) → lt hi x ≡ p → lt x lo ≡ q → cond p (neg hi) (cond q (neg lo) (neg x)) ≡ neg (cond q lo (cond p hi x))
    go true true u v = absurd (true≢false (sym (lt_trans hi x lo u v) ∙ h))
    go true false u v = refl
    go false true u v = refl
    go false false u v = refl
