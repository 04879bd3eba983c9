-- `floored x` is the greatest whole number that is not above x, and `ceiled x` the least that is not below, for every finite f64; a NaN, an infinity and
-- a zero stay. A value with a fraction is below 2 ^ 52 in size, so its whole part, and one more, are floats exactly; then all is about whole numbers and
-- one fraction. The ceiling is the floor of -x, negated. Assumes nothing.
use Rattle.std.specs.Prelude.{◌≡◌, ℕ, ◌+◌, ◌*◌, ◌/◌, ◌%◌, ◌^◌, ◌<◌, ◌≤◌, Bool, true, false, cond, not, ◌&&◌, ◌||◌, T, ℤ, pos, ◌==◌, ◌≢◌, nat_lt, Float}
use Rattle.std.proofs.Math.Path.{refl, ap}
use Rattle.std.proofs.Common.{sym, ◌∙◌, mul-one, div-add-mod', le-div_iff_mul-le, lt_of_not-le, mul-le-mul_right, add-zero, arith, ltb-true, eqb-true, lt-ltb}
use Rattle.std.proofs.lemmas.Bool.{false≢true, eqb-false}
use Rattle.std.proofs.Math.Nat.{mul-mod_left, zero-mod}
use Rattle.std.specs.Float.{nan, inf, fin, binary64}
use Rattle.std.specs.Float.Ieee.{is_nan, up, down, round, neg, below, level, lt, le, fits}
use Rattle.std.specs.Float.Ieee.Fits.{down_pos, cond-fits, round-fits, neg-fits}
use Rattle.std.specs.Float.Ieee.Exact.{HasValue}
use Rattle.std.specs.Float.Ieee.Scale.{finite}
use Rattle.std.specs.Float.Ieee.Back.{round_whole}
use Rattle.numbers.specs.Arithmetic.{stepped, floored, ceiled}
use Rattle.numbers.specs.Whole.{WholeNumber, Floor, Ceiling}
use Rattle.numbers.proofs.Laws.Comparing.{eqb_sym, lt_itself, le_is, lt_not_le, lt_values, le_values}
use Rattle.numbers.proofs.Laws.Symmetry.{neg_neg, lt_neg, le_neg, floored_neg}
use Rattle.numbers.proofs.Laws.Steps.{whole_step, part_step, large_whole, cut_lt}

-- ---- whole numbers

-- what has a whole number's size is a whole number
value_whole : (r : Float) (s : Bool) (q : ℕ) → HasValue r s q 1 → WholeNumber r
value_whole nan s q h = h
value_whole (inf t) s q h = h
value_whole (fin t m e) s q h = ap (λ (n : ℕ). n % down e) (sym (mul-one (m * up e)) ∙ h.1) ∙ mul-mod_left q (down e)

-- and a whole number's size is its whole part
whole_value : (s : Bool) (m : ℕ) (e : ℤ) → m * up e % down e ≡ 0 → HasValue (fin s m e) s (m * up e / down e) 1
whole_value s m e h = (refl, omega (arith, div-add-mod' (m * up e) (down e), mul-one (m * up e)))

neg_whole : (w : Float) → WholeNumber w → WholeNumber (neg w)
unfolding neg
neg_whole nan h = h
neg_whole (inf s) h = h
neg_whole (fin s m e) h = h

-- ---- a whole number is its own floor

at_itself : (s : Bool) (m : ℕ) (e : ℤ) → m * up e % down e ≡ 0 → Floor (fin s m e) (fin s m e)
at_itself s m e h =
    let x = fin s m e in
    record { whole = h; not_above = unfold is_nan in le_is x x refl refl ∙ ap not (lt_itself x); greatest = λ w W h k. lt_not_le x w h k }

-- ---- a value with a fraction, of size n / d

or_le : (a b : ℕ) (c : Bool) → nat_lt a b || (a == b && c) ≡ true → a ≤ b
or_le a b c h = go (nat_lt a b) (a == b) refl refl h
  where
    go : (p q : Bool) → nat_lt a b ≡ p → (a == b) ≡ q → p || (q && c) ≡ true → a ≤ b
    go true q u v h = omega (arith, ltb-true a b u)
    go false true u v h = omega (arith, eqb-true a b v)
    go false false u v h = absurd (false≢true h)

or_ge : (a b : ℕ) → nat_lt a b || (b == a && true) ≡ true → a ≤ b
or_ge a b h = or_le a b true (rw (eqb_sym a b) h)

module _ (n d : ℕ) (D : 0 < d) (part : n % d ≡ 0 → ⊥) where
  -- n / d lies strictly between its whole part and the next number
  over : n / d * d < n
  over = omega (arith, div-add-mod' n d)

  next : n < (n / d + 1) * d
  next = lt_of_not-le (λ h. let k : n / d + 1 ≤ n / d = (le-div_iff_mul-le D).1 h in omega arith)

  -- the floor of ±n / d, by its size
  abbrev floor_size : Bool → ℕ
  floor_size s = n / d + cond s 1 0

  not_over : (s : Bool) → below s (floor_size s * d) s (n * 1) || level s (floor_size s * d) s (n * 1) ≡ true
  not_over false = let h = over in rw (lt-ltb ((n / d + 0) * d) (n * 1) (omega (arith, add-zero (n / d), mul-one n)))
  not_over true = let h = next in rw (lt-ltb (n * 1) ((n / d + 1) * d) (omega (arith, mul-one n)))

  -- a whole number ±p above that floor is above ±n / d
  none_between : (s t : Bool) (p : ℕ) → below s (floor_size s * 1) t (p * 1) ≡ true → below t (p * d) s (n * 1) || level t (p * d) s (n * 1) ≢ true
  none_between false false p h k =
      let a = ltb-true ((n / d + 0) * 1) (p * 1) h in
      let b = or_le (p * d) (n * 1) true k in
      let c : p ≤ n / d = (le-div_iff_mul-le D).1 (omega (arith, mul-one n)) in
      omega (arith, mul-one (n / d + 0), mul-one p)
  none_between false true p h k = false≢true h
  none_between true false p h k = part (go (p * d == n * 1) (p * d == 0) refl refl k)
    where
      go : (a b : Bool) → (p * d == n * 1) ≡ a → (p * d == 0) ≡ b → a && b ≡ true → n % d ≡ 0
      go true true u v h = let z : n ≡ 0 = omega (arith, eqb-true (p * d) (n * 1) u, eqb-true (p * d) 0 v, mul-one n) in rw z (zero-mod d)
      go true false u v h = absurd (false≢true h)
      go false b u v h = absurd (false≢true h)
  none_between true true p h k =
      let a = ltb-true (p * 1) ((n / d + 1) * 1) h in
      let c : p ≤ n / d = omega (arith, mul-one (n / d + 1), mul-one p) in
      let b : p * d ≤ n / d * d = mul-le-mul_right d c in
      let o = over in
      let l = or_ge (n * 1) (p * d) k in
      omega (arith, mul-one n)

  -- so what has the floor's size is the floor of what has the size n / d
  floor_of : (s : Bool) (x r : Float) → HasValue x s n d → HasValue r s (floor_size s) 1 → Floor x r
  floor_of s x r X R =
      record {
        whole = value_whole r s (floor_size s) R;
        not_above = le_values s s (floor_size s) 1 n d (omega arith) D r x R X ∙ not_over s;
        greatest = beyond;
      }
    where
      beyond : (w : Float) → WholeNumber w → lt r w ≡ true → le w x ≢ true
      beyond nan W h k = W
      beyond (inf t) W h k = W
      beyond (fin t j g) W h k =
          let p = j * up g / down g in
          let P = whole_value t j g W in
          none_between s t p (sym (lt_values s t (floor_size s) 1 p 1 (omega arith) (omega arith) r (fin t j g) R P) ∙ h)
          (sym (le_values t s p 1 n d (omega arith) D (fin t j g) x P X) ∙ k)

with_part : (s : Bool) (m : ℕ) (e : ℤ) → T (fits binary64 (fin s m e)) → (m * up e % down e ≢ 0) → Floor (fin s m e) (round binary64 s (m * up e / down e + cond s 1 0) 1)
with_part s m e F part =
    let small : m * up e / down e < 2 ^ 52 = cut_lt (m * up e) (down e) (down_pos e) (lt_of_not-le (λ h. part (large_whole s m e F h))) in
    floor_of (m * up e) (down e) (down_pos e) part s (fin s m e) (round binary64 s (m * up e / down e + cond s 1 0) 1) (refl, refl)
    (round_whole binary64 s (m * up e / down e + cond s 1 0) (bound s (m * up e / down e) small))
  where
    bound : (s : Bool) (a : ℕ) → a < 2 ^ 52 → a + cond s 1 0 ≤ 2 ^ 53
    bound true a h = omega arith
    bound false a h = omega arith

-- ---- the theorems

pub floored_greatest : (x : Float) → T (finite x) → T (fits binary64 x) → Floor x (floored x)
unfolding floored
floored_greatest nan N F = absurd N
floored_greatest (inf s) N F = absurd N
floored_greatest (fin s m e) N F = go (m * up e % down e == 0) refl
  where
    go : (b : Bool) → (m * up e % down e == 0) ≡ b → Floor (fin s m e) (stepped (cond s 1 0) s m e)
    go true h = let z = eqb-true (m * up e % down e) 0 h in rw (whole_step (cond s 1 0) s m e z) (at_itself s m e z)
    go false h = let z = eqb-false (m * up e % down e) 0 h in rw (part_step (cond s 1 0) s m e z) (with_part s m e F z)

neg_finite : (x : Float) → T (finite x) → T (finite (neg x))
unfolding neg
neg_finite nan N = N
neg_finite (inf s) N = N
neg_finite (fin s m e) N = N

pub ceiled_least : (x : Float) → T (finite x) → T (fits binary64 x) → Ceiling x (ceiled x)
ceiled_least x N F =
    let y = neg x in
    let r = floored y in
    let f = floored_greatest y (neg_finite x N) (neg-fits binary64 x F) in
    let is : neg r ≡ ceiled x = ap neg (floored_neg x) ∙ neg_neg (ceiled x) in
    rw (← is) (
    record {
      whole = neg_whole r f.whole;
      not_below = ap (λ (v : Float). le v (neg r)) (sym (neg_neg x)) ∙ le_neg y r ∙ f.not_above;
      least = λ w W h k. f.greatest (neg w) (neg_whole w W)
          (ap (λ (v : Float). lt v (neg w)) (sym (neg_neg r)) ∙ lt_neg (neg r) w ∙ h) (le_neg w x ∙ k);
    })

-- what has no floor among the numbers, and the zeros, with their signs
pub floored_rests : (floored nan ≡ nan) × ((s : Bool) → floored (inf s) ≡ inf s) × ((s : Bool) → floored (fin s 0 (pos 0)) ≡ fin s 0 (pos 0))
unfolding floored
floored_rests = (refl, λ s. refl, λ s. refl)

pub ceiled_rests : (ceiled nan ≡ nan) × ((s : Bool) → ceiled (inf s) ≡ inf s) × ((s : Bool) → ceiled (fin s 0 (pos 0)) ≡ fin s 0 (pos 0))
unfolding ceiled
ceiled_rests = (refl, λ s. refl, λ s. refl)

-- ---- both stay in the format

stepped_fits : (d : ℕ) (s : Bool) (m : ℕ) (e : ℤ) → T (fits binary64 (fin s m e)) → T (fits binary64 (stepped d s m e))
unfolding stepped
stepped_fits d s m e F = cond-fits binary64 (m * up e % down e == 0) (fin s m e) _ F (round-fits binary64 s (m * up e / down e + d) 1)

pub floored_fits : (x : Float) → T (fits binary64 x) → T (fits binary64 (floored x))
unfolding floored
floored_fits nan F = F
floored_fits (inf s) F = F
floored_fits (fin s m e) F = stepped_fits (cond s 1 0) s m e F

pub ceiled_fits : (x : Float) → T (fits binary64 x) → T (fits binary64 (ceiled x))
unfolding ceiled
ceiled_fits nan F = F
ceiled_fits (inf s) F = F
ceiled_fits (fin s m e) F = stepped_fits (cond s 0 1) s m e F
